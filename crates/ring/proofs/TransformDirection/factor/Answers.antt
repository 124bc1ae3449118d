-- `factor` of `Transform` meets its contract. Assumes nothing.
use Rattle.ring.specs.Layers.{forward_factor}
use Rattle.ring.proofs.TransformDirection.factor.Goals as goal

pub returns : goal.returns
unfolding forward_factor
returns c = c.factor.ensures
