-- `ring::block` meets its contract. Assumes nothing.
use Rattle.std.proofs.Common.{◌≡◌}
use Rattle.ring.specs.Ntt.{block}
use Rattle.ring.proofs.block.Given as goal

abbrev pub invariant-loop-n : goal.invariant-loop-n
invariant-loop-n g l = l.w ≡ block (g.D.Direction.low l.d) (g.D.Direction.high l.d) l.half l.z l.start l.n l.initial.w
