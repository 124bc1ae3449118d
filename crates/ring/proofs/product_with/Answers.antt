-- `ring::product_with` meets its contract. Assumes nothing.
use Rattle.ring.proofs.Ready.{pointwise-low}
use Rattle.ring.proofs.Laws.{on_the_right}
use Rattle.ring.specs.Ntt.{inverse_ntt, pointwise}
use mathlib.Core.Path.{ap, ◌∙◌}
use native.Mathlib.Omega.{arith}
use Rattle.ring.proofs.product_with.Goals as goal

pub inverse-requires : goal.inverse-requires
inverse-requires c = pointwise-low _ _ _ c.multiply.ensures

pub returns : goal.returns
returns c =
    c.inverse.ensures
    ∙ ap inverse_ntt
    (c.multiply.ensures ∙ ap (pointwise c.args.left.now) c.unreduced.ensures ∙ on_the_right c.args.row.now (omega arith) c.requires c.args.left.now)
