-- `generator::draw_by` meets its contract.
use Rattle.std.proofs.lemmas.Result.{err_from_is_err_and}
use Rattle.settings.specs.Sizes.{key_count}
use Rattle.settings.proofs.Refused.{number_nonzero}
use Rattle.generator.proofs.Door.{stays}
use Rattle.generator.proofs.draw_by.Goals as goal

pub returns-in_err-draw : goal.returns-in_err-draw
returns-in_err-draw c =
    let a = c.args in
    let p = err_from_is_err_and c.from_residual.result c.from_residual.ensures.1 in
    rw (p.1, p.2) (stays key_count a.state a.shape a.out.now _ _ _ c.in_err-draw.ensures (number_nonzero _))
