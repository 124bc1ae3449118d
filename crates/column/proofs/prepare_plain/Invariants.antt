-- `column::prepare_plain` meets its contract. Assumes nothing.
use Rattle.column.specs.Held.{Holds}
use Rattle.steps.specs.Context.{public_by}
use Prim.Native.Nat.{ℕ}
use Rattle.column.proofs.prepare_plain.Given as goal

abbrev pub invariant-loop-o : goal.invariant-loop-o
invariant-loop-o l = (masked : ℕ → ℕ) → Holds (public_by l.fn.known.settings masked) l.fn.known.round l.columns.weights.now l.columns.work.now l.columns.choice l.o-counter l.out
