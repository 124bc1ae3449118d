-- `execution::Execution::deal_and_play` meets its contract.
use mathlib.Core.Path.{sym}
use native.Mathlib.Omega.{arith}
use lib.Seq.{length-take-le}
use Rattle.std.proofs.lemmas.Result.{err_from_is_err_and}
use Rattle.execution.specs.Held.{held_in}
use Rattle.execution.proofs.Whole.{book-most, draw-part, start_fits, deal-refused, dealt_ends}
use Rattle.execution.proofs.Execution.deal_and_play.Goals as goal

pub returns-in_err-deal_at : goal.returns-in_err-deal_at
returns-in_err-deal_at c =
    let a = c.args in
    let cut = c.cuts_of-draw.ensures in
    let p = err_from_is_err_and c.from_residual.result c.from_residual.ensures.1 in
    let dealt = rw (draw-part a.terms.settings.shape a.numbers.now _ _ cut.phone_is cut.draw_is) at c.in_err-deal_at.ensures in
    rw (p.1, p.2, c.requires.room.0) (deal-refused a.terms a.numbers.now _ _ _ (held_in a.server.now a.phone.now a.messages.now) dealt)

pub slice_bounds-play-end : goal.slice_bounds-play-end
slice_bounds-play-end c = omega (arith, c.book_size-size.ensures, book-most c.args.terms.settings.shape, c.requires.books.0, c.deal_at.auto.book0)

pub slice_bounds-play-end-2 : goal.slice_bounds-play-end-2
slice_bounds-play-end-2 c = sym (length-take-le _ _ (omega (arith, c.book_size-size.ensures, book-most c.args.terms.settings.shape, c.requires.books.0, c.deal_at.auto.book0)))

pub slice_bounds-play-end-3 : goal.slice_bounds-play-end-3
slice_bounds-play-end-3 c = omega (arith, c.book_size-size.ensures, book-most c.args.terms.settings.shape, c.requires.books.1, c.deal_at.auto.book1)

pub slice_bounds-play-end-4 : goal.slice_bounds-play-end-4
slice_bounds-play-end-4 c = sym (length-take-le _ _ (omega (arith, c.book_size-size.ensures, book-most c.args.terms.settings.shape, c.requires.books.1, c.deal_at.auto.book1)))

pub play-requires : goal.play-requires
play-requires c = rw c.requires.room.0 (start_fits c.args.messages.now c.requires.room.1)

pub returns : goal.returns
returns c =
    let a = c.args in
    let cut = c.cuts_of-draw.ensures in
    let dealt = rw (draw-part a.terms.settings.shape a.numbers.now _ _ cut.phone_is cut.draw_is) at c.in_ok-deal_at.ensures in
    dealt_ends a.terms a.numbers.now _ _ (held_in a.server.now a.phone.now a.messages.now) _ c.play.new.self (held_in c.play.new.server c.play.new.phone c.play.new.messages)
    c.requires.room.1 dealt (rw (c.requires.room.0, c.book_size-size.ensures) at c.play.ensures)
