-- `side::begin` meets its contract.
use Rattle.std.proofs.Common.{sym, ap₂}
use Rattle.std.proofs.lemmas.Result.{err_from_is_err_and}
use borrow.Author.Tests.{ne_eqb}
use Rattle.settings.specs.Refusals.{number_of}
use Rattle.settings.proofs.Refused.{number_nonzero}
use Rattle.settings.specs.Sizes.{key_count}
use Rattle.side.specs.Side.{after, begin_call}
use Rattle.side.proofs.Ready.{begin-ready}
use Rattle.side.proofs.begin.Goals as goal

pub returns-in_err-ask_begin : goal.returns-in_err-ask_begin
unfolding begin_call
returns-in_err-ask_begin c =
    let p = err_from_is_err_and c.from_residual.result c.from_residual.ensures.1 in
    let no = c.in_err-ask_begin.field-0.0 in
    rw (p.1, p.2, ← c.in_err-ask_begin.ensures, ne_eqb (number_of no) 0 (number_nonzero no))

pub begin_work-requires : goal.begin_work-requires
begin_work-requires c =
    let a = c.args in
    let ready = begin-ready key_count a.side.now a.run a.inputs.now a.book.now a.work.now (sym c.in_ok-ask_begin.ensures) in
    record { shape_ready = ready.ready.shape; inputs_len = (ready.inputs_long, ready.book_long, ready.work_long) }

pub returns : goal.returns
unfolding begin_call
returns c = rw (← c.in_ok-ask_begin.ensures) (ap₂ (after 0) c.begun.ensures c.begin_work.ensures)
