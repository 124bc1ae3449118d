-- `ring::ring_product` meets its contract.
use Rattle.ring.specs.Product.{product}
use mathlib.Core.Path.{ap₂, ◌∙◌}
use Rattle.std.proofs.lemmas.Result.{err_from_is_err_and}
use Rattle.ring.specs.Calls.{ring_call}
use Rattle.ring.proofs.Ready.{refuses, goes}
use Rattle.ring.proofs.ring_product.Goals as goal

pub returns-in_err-ask_ring : goal.returns-in_err-ask_ring
unfolding ring_call
returns-in_err-ask_ring c =
    let p = err_from_is_err_and c.from_residual.result c.from_residual.ensures.1 in
    rw (p.1, p.2) (refuses c.in_err-ask_ring.field-0.0 _ _ _ c.in_err-ask_ring.ensures.asked)

pub returns : goal.returns
unfolding ring_call
returns c =
    goes _ _ _ _ c.in_ok-ask_ring.ensures.asked
    (c.product.ensures ∙ ap₂ product c.whole.ensures c.whole-2.ensures)
