-- `ring::layer` meets its contract. Assumes nothing.
use Rattle.std.proofs.Common.{◌≡◌}
use Rattle.ring.specs.Layers.{layer}
use Rattle.ring.proofs.layer.Given as goal

abbrev pub invariant-loop-n : goal.invariant-loop-n
invariant-loop-n g l =
    l.w ≡ layer (g.D.Direction.low l.d) (g.D.Direction.high l.d) l.half (g.D.Direction.factor l.blocks) l.n l.initial.w
