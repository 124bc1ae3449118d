-- `stock::ask_stocks` meets its contract.
use Rattle.std.proofs.Common.{sym}
use Rattle.std.proofs.lemmas.Result.{err_from_is_err_and}
use Rattle.lists.proofs.Questions.{walk}
use Rattle.settings.proofs.Ready.{shape-ready, shape_yes, shape_refused}
use Rattle.stock.specs.Stock.{ask_stocks}
use Rattle.stock.proofs.ask_stocks.Goals as goal

pub returns-in_err-ask_shape : goal.returns-in_err-ask_shape
unfolding ask_stocks
returns-in_err-ask_shape c =
    let p = err_from_is_err_and c.from_residual.result c.from_residual.ensures.1 in
    rw (p.1, p.2) (search (shape_refused, c.in_err-ask_shape.ensures))

pub stocked_size-requires : goal.stocked_size-requires
stocked_size-requires c = let ready = shape-ready c.args.shape 0 (sym c.in_ok-ask_shape.ensures) in (ready.sets, ready.most)

pub returns-then-not-whole_books : goal.returns-then-not-whole_books
unfolding ask_stocks
returns-then-not-whole_books c = rw (← c.stocked_size.ensures.0) (search (walk, shape_yes, c.in_ok-ask_shape.ensures) depth 20)

pub returns : goal.returns
unfolding ask_stocks
returns c = rw (← c.stocked_size.ensures.0) (search (walk, shape_yes, c.in_ok-ask_shape.ensures) depth 20)
