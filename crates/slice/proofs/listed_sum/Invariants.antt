-- `slice::listed_sum` meets its contract.
use Prim.Native.Nat.{ℕ, ◌≤◌, ◌+◌, ◌*◌}
use mathlib.Core.Path.{◌≡◌}
use Rattle.field.specs.Sums.{sum_to}
use lib.ListN.{get_or}
use Rattle.slice.specs.Layout.{registers}
use Rattle.slice.proofs.listed_sum.Given as goal

abbrev pub invariant-loop-j : goal.invariant-loop-j
invariant-loop-j l =
    (l.total ≡ sum_to l.j (λ (i : ℕ). get_or l.list (i + l.d) 0 * registers l.column (l.terms.place + i))) × (l.total ≤ l.j * 72057594037927936)
