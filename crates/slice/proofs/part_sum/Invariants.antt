-- `slice::part_sum` meets its contract.
use Prim.Native.Nat.{ℕ, ◌≤◌, ◌-◌, ◌+◌, ◌*◌}
use mathlib.Core.Path.{◌≡◌}
use Rattle.field.specs.Sums.{sum_to}
use Rattle.slice.specs.Layout.{registers}
use Rattle.slice.proofs.part_sum.Given as goal

abbrev pub invariant-loop-j : goal.invariant-loop-j
invariant-loop-j l =
    (l.j - l.from ≤ l.to - l.from) × (l.total ≡ sum_to (l.j - l.from) (λ (i : ℕ). registers l.column (l.place + (l.from + i)))) × (l.total ≤ (l.j - l.from) * 4294967296)
