-- `column::prepare_gates` meets its contract. Assumes nothing.
use Rattle.column.specs.Held.{Holds}
use Rattle.steps.specs.Context.{public_by, ContextOf}
use Prim.Native.Nat.{ℕ, ◌*◌}
use Rattle.column.proofs.prepare_gates.Given as goal

abbrev pub invariant-loop-g : goal.invariant-loop-g
invariant-loop-g l = (masked : ℕ → ℕ) → ContextOf l.known.settings l.known.round masked l.known
    → Holds (public_by l.known.settings masked) l.known.round l.columns.weights.now l.columns.work.now l.columns.choice (2 * l.g) l.out
