-- `side::ask_take` meets its contract.
use Rattle.std.proofs.Common.{sym, ◌∙◌}
use Rattle.std.proofs.lemmas.Result.{err_from_is_err_and}
use Rattle.settings.specs.Sizes.{key_count}
use Rattle.state.proofs.States.{due-whole}
use Rattle.side.specs.Work.{take_door}
use Rattle.side.proofs.Questions.{on_ok, work_yes, work_refused, work_due}
use Rattle.side.proofs.Taking.{whole-fits}
use Rattle.side.proofs.ask_take.Goals as goal

pub returns-in_err-ask_work : goal.returns-in_err-ask_work
unfolding take_door
returns-in_err-ask_work c =
    let p = err_from_is_err_and c.from_residual.result c.from_residual.ensures.1 in
    rw (p.1, p.2, ← c.take_due.ensures) (work_refused key_count _ _ _ _ c.in_err-ask_work.ensures, tt)

pub due_header-requires : goal.due_header-requires
due_header-requires c =
    (due-whole c.args.side (sym c.take_due.ensures ∙ work_due key_count _ c.args.work.now c.in_ok-ask_work.ensures)).side2

pub ask_form-requires : goal.ask_form-requires
ask_form-requires c =
    let side = c.args.side in
    let due = sym c.take_due.ensures ∙ work_due key_count _ c.args.work.now c.in_ok-ask_work.ensures in
    record { header_fits = rw c.due_header.ensures (whole-fits side (due-whole side due)); fields_len = c.requires }

pub returns : goal.returns
unfolding take_door
returns c =
    rw (← c.due_header.ensures, ← c.take_due.ensures)
    (work_yes key_count _ _ _ _ c.in_ok-ask_work.ensures c.ask_form.ensures.0, on_ok c.ask_form.result c.ask_form.ensures.1)
