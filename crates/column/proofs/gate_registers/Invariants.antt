-- `column::gate_registers` meets its contract. Assumes nothing.
use Rattle.column.specs.Held.{Made}
use Rattle.steps.specs.Context.{public_by, ContextOf}
use Prim.Native.Nat.{ℕ}
use Rattle.column.proofs.gate_registers.Given as goal

abbrev pub invariant-loop-g : goal.invariant-loop-g
invariant-loop-g l = (masked : ℕ → ℕ) → ContextOf l.known.settings l.known.round masked l.known → Made (public_by l.known.settings masked) l.known.round l.numbers l.g l.next
