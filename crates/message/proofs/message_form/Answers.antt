-- `message::message_form` meets its contract.
use Rattle.std.proofs.Common.{arith, sym}
use Rattle.std.proofs.lemmas.Result.{err_from_is_err_and}
use Rattle.lists.proofs.Questions.{walk}
use Rattle.settings.proofs.Ready.{settings-ready, settings_refused, settings_yes}
use Rattle.message.specs.Message.{form_no}
use Rattle.message.proofs.Form.{other_fits}
use Rattle.message.proofs.message_form.Goals as goal
use Rattle.message.proofs.message_form.Goals.{then-round-lt1-via-then-round-lt1, then-round-lt1-via-else-round-lt1+then-round-gt-ROUNDS, then-round-lt1-via-else-round-lt1+else-round-gt-ROUNDS+then-serial-lt1}

pub returns-in_err-ask_settings : goal.returns-in_err-ask_settings
unfolding form_no
returns-in_err-ask_settings c =
    let p = err_from_is_err_and c.from_residual.result c.from_residual.ensures.1 in
    rw (p.1, p.2) (settings_refused c.args.receiver c.args.settings _ _ c.in_err-ask_settings.ensures)

pub returns-then-round-lt1 : goal.returns-then-round-lt1
unfolding form_no
returns-then-round-lt1 c =
    settings_yes c.args.receiver c.args.settings _ _ c.in_ok-ask_settings.ensures
    (elim c.then-round-lt1.branch [
      | then-round-lt1-via-then-round-lt1 w ↦ search walk depth 20
      | then-round-lt1-via-else-round-lt1+then-round-gt-ROUNDS w ↦ search walk depth 20
      | then-round-lt1-via-else-round-lt1+else-round-gt-ROUNDS+then-serial-lt1 w ↦ search walk depth 20
    ])

pub overflow_sub-receiver : goal.overflow_sub-receiver
overflow_sub-receiver c =
    omega (arith, (settings-ready c.args.receiver c.args.settings 0 (sym c.in_ok-ask_settings.ensures)).0)

pub ask_form-requires-clause-header_fits : goal.ask_form-requires-clause-header_fits
ask_form-requires-clause-header_fits c =
    let a = c.args in
    let ready = settings-ready a.receiver a.settings 0 (sym c.in_ok-ask_settings.ensures) in
    rw c.new-due.ensures (other_fits a.receiver a.settings a.round a.serial ready.1 (omega arith))

pub returns : goal.returns
unfolding form_no
returns c =
    settings_yes c.args.receiver c.args.settings _ _ c.in_ok-ask_settings.ensures
    (rw (← c.new-due.ensures) (search walk depth 20))
