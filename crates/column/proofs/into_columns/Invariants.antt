-- `column::into_columns` meets its contract.
use Rattle.lists.specs.Lists.{fill_by}
use Rattle.column.specs.Held.{Gives}
use Prim.Native.Nat.{ℕ}
use mathlib.Core.Path.{◌≡◌}
use Rattle.column.proofs.into_columns.Given as goal

abbrev pub invariant-loop-f : goal.invariant-loop-f
invariant-loop-f g l = (numbers : ℕ → ℕ) → Gives (goal.F-post g l.value) l.count numbers → l.out ≡ fill_by l.stride l.initial.out l.at l.f numbers
