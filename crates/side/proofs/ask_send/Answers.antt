-- `side::ask_send` meets its contract: one question after the other.
use Rattle.std.proofs.Common.{sym, ◌∙◌}
use Rattle.std.proofs.lemmas.Result.{err_from_is_err_and}
use Rattle.lists.proofs.Questions.{walk}
use Rattle.settings.specs.Sizes.{key_count}
use Rattle.state.proofs.States.{send-whole}
use Rattle.side.specs.Side.{send_no}
use Rattle.side.proofs.Questions.{work_yes, work_refused, work_due}
use Rattle.side.proofs.ask_send.Goals as goal

pub returns-in_err-ask_work : goal.returns-in_err-ask_work
unfolding send_no
returns-in_err-ask_work c =
    let p = err_from_is_err_and c.from_residual.result c.from_residual.ensures.1 in
    rw (p.1, p.2, ← c.send_due.ensures) (work_refused key_count _ _ _ _ c.in_err-ask_work.ensures)

pub message_length-requires : goal.message_length-requires
message_length-requires c =
    (send-whole c.args.side (sym c.send_due.ensures ∙ work_due key_count _ c.args.work.now c.in_ok-ask_work.ensures)).ready.shape.most

pub returns-then-out-message_length : goal.returns-then-out-message_length
unfolding send_no
returns-then-out-message_length c =
    rw (← c.message_length.ensures, ← c.send_due.ensures) (work_yes key_count _ _ _ _ c.in_ok-ask_work.ensures (search walk))

pub returns : goal.returns
unfolding send_no
returns c =
    rw (← c.message_length.ensures, ← c.send_due.ensures) (work_yes key_count _ _ _ _ c.in_ok-ask_work.ensures (search walk))
