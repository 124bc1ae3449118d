-- `dealer::deal` meets its contract.
use Rattle.std.proofs.Common.{sym}
use Rattle.std.proofs.lemmas.Result.{err_from_is_err_and}
use Rattle.settings.specs.Sizes.{key_count, width}
use Rattle.settings.proofs.Refused.{number_nonzero}
use Rattle.settings.specs.Settings.{params_of}
use Rattle.book.proofs.Draws.{draw_at-none}
use Rattle.dealer.proofs.Door.{lent, refusal, dealt}
use Rattle.dealer.proofs.deal.Goals as goal

pub returns-in_err-ask_deal : goal.returns-in_err-ask_deal
returns-in_err-ask_deal c =
    let a = c.args in
    let p = err_from_is_err_and c.from_residual.result c.from_residual.ensures.1 in
    rw (p.1, p.2) (refusal key_count a.shape a.keys0 a.keys1 a.draw.now a.server.now a.phone.now _ c.in_err-ask_deal.ensures (number_nonzero _))

pub invariant_of-dealing : goal.invariant_of-dealing
invariant_of-dealing c = let a = c.args in record { lent = lent a.shape a.keys0 a.keys1 a.draw.now a.server.now a.phone.now c.in_ok-ask_deal.ensures }

pub deal_books-requires : goal.deal_books-requires
deal_books-requires c = sym (draw_at-none (params_of c.args.shape) width)

pub returns : goal.returns
returns c = search (dealt c.args.keys0 c.args.keys1 c.in_ok-ask_deal.ensures c.for_columns.ensures c.deal_books.ensures)
