-- `pair` of `Transform` meets its contract. Assumes nothing.
use Rattle.ring.specs.Layers.{lazy_low, lazy_high}
use Rattle.ring.proofs.TransformDirection.pair.Goals as goal

pub returns : goal.returns
unfolding lazy_low lazy_high
returns c = (cc, cc)
