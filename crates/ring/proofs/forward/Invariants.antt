-- `ring::forward` meets its contract. Assumes nothing.
use Rattle.std.proofs.Common.{◌≡◌}
use Rattle.ring.specs.Layers.{lazy_to}
use Rattle.ring.proofs.forward.Given as goal

abbrev pub invariant-loop-n : goal.invariant-loop-n
invariant-loop-n l = l.w ≡ lazy_to l.n l.initial.w
