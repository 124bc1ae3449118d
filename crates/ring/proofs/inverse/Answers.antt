-- `ring::inverse` meets its contract. Assumes nothing.
use Rattle.ring.proofs.Laws.{scaled-is}
use Rattle.ring.specs.Ntt.{scaled}
use mathlib.Core.Path.{ap, ◌∙◌}
use native.Mathlib.Omega.{arith}
use Rattle.ring.proofs.inverse.Goals as goal

pub returns : goal.returns
returns c = c.scale.ensures ∙ ap scaled c.inverse_layers.ensures ∙ scaled-is _ (omega arith) c.requires
