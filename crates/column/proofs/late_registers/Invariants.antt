-- `column::late_registers` meets its contract. Assumes nothing.
use Rattle.column.specs.Held.{Made}
use Rattle.steps.specs.Context.{public_by}
use Prim.Native.Nat.{ℕ}
use Rattle.column.proofs.late_registers.Given as goal

abbrev pub invariant-loop-g : goal.invariant-loop-g
invariant-loop-g l = (masked : ℕ → ℕ) → Made (public_by l.settings masked) l.round l.numbers l.g-counter l.next
