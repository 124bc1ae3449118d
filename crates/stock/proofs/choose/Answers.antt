-- `stock::choose` meets its contract.
use Rattle.std.proofs.Common.{◌∙◌, sym}
use Rattle.settings.specs.Sizes.{key_count}
use Rattle.stock.proofs.Door.{stocks_ok, part_refused, part_passes, found_no, found_book}
use Rattle.stock.proofs.choose.Goals as goal

pub returns-then-is_err : goal.returns-then-is_err
returns-then-is_err c =
    let a = c.args in
    part_refused key_count a.shape a.first.now a.second.now a.last _ (sym c.is_err.ensures.value ∙ c.if-is_err.true) c.ask_stocks.ensures

pub stocked_size-size-requires : goal.stocked_size-size-requires
stocked_size-size-requires c =
    let a = c.args in
    stocks_ok key_count a.shape a.first.now a.second.now (part_passes key_count a.shape a.first.now a.second.now _ (sym c.is_err.ensures.value ∙ c.if-is_err.false) c.ask_stocks.ensures)

pub returns-in-Some : goal.returns-in-Some
returns-in-Some c =
    let a = c.args in
    let passes = part_passes key_count a.shape a.first.now a.second.now _ (sym c.is_err.ensures.value ∙ c.if-is_err.false) c.ask_stocks.ensures in
    found_book key_count a.shape a.first.now a.second.now a.last _ _ passes c.stocked_size-size.ensures.0 c.scan.ensures _ c.in-Some.ensures

pub returns-in-None : goal.returns-in-None
returns-in-None c =
    let a = c.args in
    let passes = part_passes key_count a.shape a.first.now a.second.now _ (sym c.is_err.ensures.value ∙ c.if-is_err.false) c.ask_stocks.ensures in
    found_no key_count a.shape a.first.now a.second.now a.last _ _ passes c.stocked_size-size.ensures.0 c.scan.ensures c.in-None.ensures
