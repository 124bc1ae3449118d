-- `generator::draw` meets its contract.
use Rattle.std.proofs.lemmas.Result.{err_from_is_err_and}
use Rattle.settings.specs.Sizes.{key_count}
use Rattle.settings.proofs.Refused.{number_nonzero}
use Rattle.generator.proofs.Door.{refusal, drew}
use Rattle.generator.proofs.draw.Goals as goal

pub returns-in_err-ask_draw : goal.returns-in_err-ask_draw
returns-in_err-ask_draw c =
    let a = c.args in
    let p = err_from_is_err_and c.from_residual.result c.from_residual.ensures.1 in
    rw (p.1, p.2) (refusal key_count a.generator.now.state a.shape a.out.now _ c.in_err-ask_draw.ensures (number_nonzero _))

pub returns : goal.returns
returns c =
    let a = c.args in
    let f = c.fill_outputs.ensures in
    drew key_count a.generator.now.state a.shape a.out.now _ _ c.in_ok-ask_draw.ensures f.0 f.1
