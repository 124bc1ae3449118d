-- `steps::terms_of` meets its contract. Assumes nothing.
use Rattle.steps.proofs.Gates.{terms_fit}
use Rattle.steps.proofs.terms_of.Goals as goal

pub returns : goal.returns
returns c =
    let vector-at = c.vector_at in
    let base-of = c.base_of in
    let p = c.requires in
    let a = c.args in (
      rw (vector-at.ensures.0, base-of.ensures.0, c.rule_of.ensures, c.limit_of.ensures.0),
      rw (vector-at.ensures.0, base-of.ensures.0, c.rule_of.ensures, c.limit_of.ensures.0)
          (terms_fit a.shape a.split a.g a.i p.shape_ready p.g_bound.0 p.g_bound.1 p.g_bound.2),
    )
