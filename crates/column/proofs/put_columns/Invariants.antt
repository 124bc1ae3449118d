-- `column::put_columns` meets its contract. Assumes nothing.
use Rattle.column.specs.Held.{HeldAll, RegistersHeld}
use Rattle.steps.specs.Work.{taken_columns}
use Rattle.steps.specs.Context.{public_by}
use Prim.Native.Nat.{ℕ, ◌*◌}
use mathlib.Core.Path.{◌≡◌}
use Rattle.column.proofs.put_columns.Given as goal

abbrev pub invariant-loop-c : goal.invariant-loop-c
invariant-loop-c l = (masked opened : ℕ → ℕ) → HeldAll (public_by l.settings masked) l.round l.weights l.initial.work l.own → RegistersHeld
    (public_by l.settings masked) l.round opened l.weights l.initial.work (2 * l.settings.shape.n) l.next → l.work ≡ taken_columns (public_by l.settings masked) l.round opened l.weights l.initial.work l.c
