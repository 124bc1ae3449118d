-- `stock::choose_no` meets its contract.
use Rattle.std.proofs.lemmas.Result.{err_from_is_err_and}
use Rattle.settings.specs.Sizes.{key_count}
use Rattle.stock.specs.Stock.{choose_no}
use Rattle.stock.proofs.Door.{stocks_refused, stocks_ok, none_above, one_above}
use Rattle.stock.proofs.choose_no.Goals as goal

pub returns-in_err-ask_stocks : goal.returns-in_err-ask_stocks
unfolding choose_no
returns-in_err-ask_stocks c =
    let a = c.args in
    let p = err_from_is_err_and c.from_residual.result c.from_residual.ensures.1 in
    rw (p.1, p.2) (stocks_refused key_count a.shape a.first.now a.second.now _ _ c.in_err-ask_stocks.ensures)

pub stocked_size-requires : goal.stocked_size-requires
stocked_size-requires c = let a = c.args in stocks_ok key_count a.shape a.first.now a.second.now c.in_ok-ask_stocks.ensures

pub returns-then-not-some_above : goal.returns-then-not-some_above
returns-then-not-some_above c =
    let a = c.args in
    none_above key_count a.shape a.first.now a.second.now a.last c.in_ok-ask_stocks.ensures (rw c.stocked_size.ensures.0 at c.if-not-some_above.ensures)

pub returns : goal.returns
returns c =
    let a = c.args in
    one_above key_count a.shape a.first.now a.second.now a.last c.in_ok-ask_stocks.ensures (rw c.stocked_size.ensures.0 at c.if-not-some_above.ensures)
