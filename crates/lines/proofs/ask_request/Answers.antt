-- `lines::ask_request` meets its contract.
use mathlib.Core.Path.{sym, refl, ◌∙◌}
use native.Mathlib.Omega.{arith}
use borrow.Author.Tests.{lt-ltb, le-ltb}
use Rattle.std.proofs.lemmas.Result.{err_from_is_err_and}
use Rattle.lists.proofs.Questions.{stop, skip}
use Rattle.settings.proofs.Ready.{settings-ready, settings_yes, settings_refused}
use Rattle.lines.specs.Plain.{request_no, settings_of}
use Rattle.lines.proofs.ask_request.Goals as goal

pub returns-in_err-ask_settings : goal.returns-in_err-ask_settings
unfolding request_no
returns-in_err-ask_settings c =
    let p = err_from_is_err_and c.from_residual.result c.from_residual.ensures.1 in
    rw (p.1, p.2) (settings_refused 0 (settings_of c.args.request) _ _ (rw c.settings_of.ensures at c.in_err-ask_settings.ensures))

pub shared_ref_as_front-all_below_q : goal.shared_ref_as_front-all_below_q
shared_ref_as_front-all_below_q c = (settings-ready 0 (settings_of c.args.request) 0 (sym (rw c.settings_of.ensures at c.in_ok-ask_settings.ensures))).1.shape.most

pub returns-then-not-all_below_q : goal.returns-then-not-all_below_q
unfolding request_no
returns-then-not-all_below_q c =
    settings_yes 0 (settings_of c.args.request) 6 _ (rw c.settings_of.ensures at c.in_ok-ask_settings.ensures)
    (stop _ 6 _ (sym c.all_below_q.ensures ∙ c.if-not-all_below_q.true))

pub returns-then-serial-lt1 : goal.returns-then-serial-lt1
unfolding request_no
returns-then-serial-lt1 c =
    settings_yes 0 (settings_of c.args.request) 7 _ (rw c.settings_of.ensures at c.in_ok-ask_settings.ensures)
    (skip _ 7 6 _ (sym c.all_below_q.ensures ∙ c.if-not-all_below_q.false)
    (stop _ 7 0 (le-ltb 0 c.args.serial (omega arith))))

pub returns : goal.returns
unfolding request_no
returns c =
    settings_yes 0 (settings_of c.args.request) 0 _ (rw c.settings_of.ensures at c.in_ok-ask_settings.ensures)
    (skip _ 0 6 _ (sym c.all_below_q.ensures ∙ c.if-not-all_below_q.false)
    (skip _ 0 7 0 (lt-ltb 0 c.args.serial (omega arith)) refl))
