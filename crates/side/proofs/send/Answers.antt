-- `side::send` meets its contract.
use Rattle.std.proofs.Common.{sym}
use Rattle.std.proofs.lemmas.Result.{err_from_is_err_and}
use borrow.Author.Tests.{ne_eqb}
use Rattle.settings.specs.Refusals.{number_of}
use Rattle.settings.proofs.Refused.{number_nonzero}
use Rattle.settings.specs.Sizes.{key_count}
use Rattle.side.specs.Side.{send_call}
use Rattle.side.proofs.Sending.{send-ready, after_same}
use Rattle.side.proofs.send.Goals as goal

pub returns-in_err-ask_send : goal.returns-in_err-ask_send
unfolding send_call
returns-in_err-ask_send c =
    let p = err_from_is_err_and c.from_residual.result c.from_residual.ensures.1 in
    let no = c.in_err-ask_send.field-0.0 in
    rw (p.1, p.2, ← c.in_err-ask_send.ensures, ne_eqb (number_of no) 0 (number_nonzero no))

pub write_message-length-requires : goal.write_message-length-requires
write_message-length-requires c =
    let a = c.args in
    let ready = send-ready key_count a.side.now a.work.now a.out.now (sym c.in_ok-ask_send.ensures) in
    record { whole = ready.kept; work_len = (ready.exact, ready.below, ready.room) }

pub sent_side-requires : goal.sent_side-requires
sent_side-requires c = (send-ready key_count c.args.side.now c.args.work.now c.args.out.now (sym c.in_ok-ask_send.ensures)).kept

pub returns : goal.returns
unfolding send_call
returns c =
    rw (← c.in_ok-ask_send.ensures)
    (after_same c.write_message-length.ensures.0 c.sent_side.ensures c.write_message-length.ensures.1)
