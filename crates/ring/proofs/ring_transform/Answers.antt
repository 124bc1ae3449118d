-- `ring::ring_transform` meets its contract.
use Rattle.ring.specs.Layers.{reduced, lazy_to}
use Rattle.ring.proofs.Laws.{reduced-is}
use mathlib.Core.Path.{ap, ◌∙◌}
use Rattle.std.proofs.lemmas.Result.{err_from_is_err_and}
use Rattle.ring.specs.Calls.{transform_call}
use Rattle.ring.proofs.Ready.{refuses, goes}
use Rattle.ring.proofs.ring_transform.Goals as goal

pub returns-in_err-ask_transform : goal.returns-in_err-ask_transform
unfolding transform_call
returns-in_err-ask_transform c =
    let p = err_from_is_err_and c.from_residual.result c.from_residual.ensures.1 in
    rw (p.1, p.2) (refuses c.in_err-ask_transform.field-0.0 _ _ _ c.in_err-ask_transform.ensures.asked)

pub returns : goal.returns
unfolding transform_call
returns c =
    goes _ _ _ _ c.in_ok-ask_transform.ensures.asked
    (c.reduce.ensures ∙ ap reduced (c.unreduced.ensures ∙ ap (lazy_to 8) c.whole.ensures) ∙ reduced-is _ c.in_ok-ask_transform.ensures.ready.0.0 c.in_ok-ask_transform.ensures.ready.0.1)
