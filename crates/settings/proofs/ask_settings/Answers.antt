-- `settings::ask_settings` meets its contract: one question after the other.
use Rattle.std.proofs.lemmas.Result.{err_from_is_err_and}
use Rattle.lists.proofs.Questions.{walk}
use Rattle.settings.specs.Questions.{ask_settings}
use Rattle.settings.proofs.Ready.{shape_yes, shape_refused}
use Rattle.settings.proofs.ask_settings.Goals as goal

pub returns-then-number-ge2 : goal.returns-then-number-ge2
unfolding ask_settings
returns-then-number-ge2 c = search walk

pub returns-in_err-ask_shape : goal.returns-in_err-ask_shape
unfolding ask_settings
returns-in_err-ask_shape c =
    let p = err_from_is_err_and c.from_residual.result c.from_residual.ensures.1 in
    rw (p.1, p.2) (search (walk, shape_refused, c.in_err-ask_shape.ensures))

pub returns-then-not-bound_ok : goal.returns-then-not-bound_ok
unfolding ask_settings
returns-then-not-bound_ok c = search (walk, shape_yes, c.in_ok-ask_shape.ensures) depth 8

pub returns : goal.returns
unfolding ask_settings
returns c = search (walk, shape_yes, c.in_ok-ask_shape.ensures) depth 8
