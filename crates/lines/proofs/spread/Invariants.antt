-- The places so far hold each its number.
use Prim.Native.Nat.{ℕ, ◌/◌}
use mathlib.Core.Path.{◌≡◌}
use lib.ListN.{get_or}
use Rattle.lists.specs.Lists.{fill}
use Rattle.settings.specs.Sizes.{width}
use Rattle.lines.proofs.spread.Given as goal

abbrev pub invariant-loop-i : goal.invariant-loop-i
invariant-loop-i l = l.out ≡ fill l.initial.out 0 l.i (λ (x : ℕ). get_or l.numbers (x / width) 0)
