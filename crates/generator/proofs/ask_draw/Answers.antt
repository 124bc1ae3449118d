-- `generator::ask_draw` meets its contract: one question after the other.
use Rattle.std.proofs.Common.{sym}
use Rattle.std.proofs.lemmas.Result.{err_from_is_err_and}
use Rattle.lists.proofs.Questions.{walk}
use Rattle.settings.proofs.Ready.{shape-ready, shape_yes, shape_refused}
use Rattle.generator.specs.Calls.{draw_no}
use Rattle.generator.proofs.ask_draw.Goals as goal

pub returns-in_err-ask_shape : goal.returns-in_err-ask_shape
unfolding draw_no
returns-in_err-ask_shape c =
    let p = err_from_is_err_and c.from_residual.result c.from_residual.ensures.1 in
    rw (p.1, p.2) (search (shape_refused, c.in_err-ask_shape.ensures))

pub draw_length-requires : goal.draw_length-requires
draw_length-requires c = let ready = shape-ready c.args.shape 0 (sym c.in_ok-ask_shape.ensures) in (ready.sets, ready.most)

pub returns-then-out-draw_length : goal.returns-then-out-draw_length
unfolding draw_no
returns-then-out-draw_length c = rw (← c.draw_length.ensures.0) (search (walk, shape_yes, c.in_ok-ask_shape.ensures) depth 20)

pub returns : goal.returns
unfolding draw_no
returns c = rw (← c.draw_length.ensures.0) (search (walk, shape_yes, c.in_ok-ask_shape.ensures) depth 20)
