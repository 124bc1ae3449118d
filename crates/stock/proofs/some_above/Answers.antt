-- `stock::some_above` meets its contract.
use Rattle.std.proofs.Common.{◌∙◌}
use Rattle.stock.specs.Stock.{books_of}
use Rattle.stock.proofs.Choice.{told_by_scan, above_first, above_second}
use Rattle.stock.proofs.some_above.Goals as goal

pub returns-then-is_some : goal.returns-then-is_some
returns-then-is_some c =
    let a = c.args in
    above_first a.last (books_of a.size a.first.now) (books_of a.size a.second.now) _ c.if-is_some.true (c.is_some.ensures ∙ told_by_scan a.last _ _ _ c.scan.ensures)

pub returns-else-is_some : goal.returns-else-is_some
returns-else-is_some c =
    let a = c.args in
    above_second a.last (books_of a.size a.first.now) (books_of a.size a.second.now) _ _ c.if-is_some.false (c.is_some.ensures ∙ told_by_scan a.last _ _ _ c.scan.ensures)
    (c.is_some-else-is_some.ensures ∙ told_by_scan a.last _ _ _ c.scan-else-is_some.ensures)
