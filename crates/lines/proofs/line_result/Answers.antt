-- `lines::line_result` meets its contract.
use mathlib.Core.Path.{sym}
use Rattle.std.proofs.lemmas.Result.{err_from_is_err_and}
use Rattle.settings.proofs.Refused.{number_nonzero}
use Rattle.lines.proofs.Lines.{beyond, malformed, refuses, run}
use Rattle.lines.proofs.line_result.Goals as goal

pub returns-then-number-ge-TOO_LARGE : goal.returns-then-number-ge-TOO_LARGE
returns-then-number-ge-TOO_LARGE c =
    let a = c.args in
    let g = beyond a.number a.line.now a.state.now c.if-number-ge-TOO_LARGE.true in
    record { result_value = g.result_value; state_value = g.state_value; lent_to_line = c.requires }

pub returns-in_default : goal.returns-in_default
returns-in_default c =
    let a = c.args in
    let g = malformed a.number a.line.now a.state.now c.if-number-ge-TOO_LARGE.false c.in_default.ensures in
    record { result_value = g.result_value; state_value = g.state_value; lent_to_line = c.requires }

pub returns-in_err-ask_request : goal.returns-in_err-ask_request
returns-in_err-ask_request c =
    let a = c.args in
    let p = err_from_is_err_and c.from_residual.result c.from_residual.ensures.1 in
    let g = refuses a.number a.line.now a.state.now _ c.if-number-ge-TOO_LARGE.false c.in-Some.ensures _ (number_nonzero _) c.in_err-ask_request.ensures in
    record { result_value = rw (p.1, p.2) g.result_value; state_value = g.state_value; lent_to_line = c.requires }

pub returns : goal.returns
returns c =
    let a = c.args in
    let ran = c.run_request.ensures in
    let g = run a.number a.line.now a.state.now _ c.if-number-ge-TOO_LARGE.false c.in-Some.ensures (sym c.in_ok-ask_request.ensures) _ ran.result_value _ ran.state_value in
    record { result_value = g.result_value; state_value = g.state_value; lent_to_line = ran.lent_to_line_2 }
