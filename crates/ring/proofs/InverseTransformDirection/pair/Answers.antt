-- `pair` of `InverseTransform` meets its contract. Assumes nothing.
use Rattle.ring.specs.Layers.{lazy_inverse_low, lazy_inverse_high}
use Rattle.ring.proofs.InverseTransformDirection.pair.Goals as goal

pub returns : goal.returns
unfolding lazy_inverse_low lazy_inverse_high
returns c = (cc, cc)
