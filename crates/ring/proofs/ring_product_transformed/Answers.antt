-- `ring::ring_product_transformed` meets its contract.
use Rattle.ring.specs.Ntt.{ntt, inverse_ntt, pointwise}
use mathlib.Core.Path.{ap₂, ◌∙◌}
use Rattle.std.proofs.lemmas.Result.{err_from_is_err_and}
use Rattle.ring.specs.Calls.{transformed_call}
use Rattle.ring.proofs.Ready.{refuses, goes}
use Rattle.ring.proofs.ring_product_transformed.Goals as goal

pub returns-in_err-ask_ring : goal.returns-in_err-ask_ring
unfolding transformed_call
returns-in_err-ask_ring c =
    let p = err_from_is_err_and c.from_residual.result c.from_residual.ensures.1 in
    rw (p.1, p.2) (refuses c.in_err-ask_ring.field-0.0 _ _ _ c.in_err-ask_ring.ensures.asked)

pub returns : goal.returns
unfolding transformed_call
returns c =
    goes _ _ _ _ c.in_ok-ask_ring.ensures.asked
    (c.product_with.ensures ∙ ap₂ (λ t r. inverse_ntt (pointwise t (ntt r))) c.whole.ensures c.whole-2.ensures)
