-- `ring::unreduced`: the first numbers are those of the row.
use Prim.Native.Nat.{ℕ}
use mathlib.Core.Path.{◌≡◌}
use lib.ListN.{get_or}
use Rattle.lists.specs.Lists.{fill}
use Rattle.ring.proofs.unreduced.Given as goal

abbrev pub invariant-loop-i : goal.invariant-loop-i
invariant-loop-i l = l.out ≡ fill l.initial.out 0 l.i (λ (k : ℕ). get_or l.row k 0)
