-- `side::ask_begin` meets its contract: one question after the other.
use Rattle.std.proofs.Common.{sym}
use Rattle.std.proofs.lemmas.Result.{err_from_is_err_and}
use Rattle.lists.proofs.Questions.{walk}
use Rattle.settings.proofs.Ready.{settings-ready, settings_refused, settings_yes}
use Rattle.side.specs.Side.{begin_no}
use Rattle.side.proofs.ask_begin.Goals as goal

pub returns-then-under_way : goal.returns-then-under_way
unfolding begin_no
returns-then-under_way c = search walk

pub returns-in_err-ask_settings : goal.returns-in_err-ask_settings
unfolding begin_no
returns-in_err-ask_settings c =
    let p = err_from_is_err_and c.from_residual.result c.from_residual.ensures.1 in
    rw (p.1, p.2) (search (walk, settings_refused, c.in_err-ask_settings.ensures))

pub ask_handed-requires : goal.ask_handed-requires
ask_handed-requires c = (settings-ready c.args.run.number c.args.run.settings 0 (sym c.in_ok-ask_settings.ensures)).1

pub returns : goal.returns
unfolding begin_no
returns c = search (walk, settings_yes, c.in_ok-ask_settings.ensures) depth 8
