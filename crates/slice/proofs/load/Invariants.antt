-- `slice::load` meets its contract.
use mathlib.Core.Path.{◌≡◌}
use Prim.Native.Nat.{ℕ, ◌+◌, ◌*◌}
use lib.ListN.{get_or}
use Rattle.lists.specs.Lists.{fill}
use Rattle.settings.specs.Sizes.{width}
use Rattle.slice.proofs.load.Given as goal

abbrev pub invariant-loop-i : goal.invariant-loop-i
invariant-loop-i l = l.work ≡ fill l.initial.work l.at l.i (λ (j : ℕ). get_or l.from (j * width + l.column) 0)
