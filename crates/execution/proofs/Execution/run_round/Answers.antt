-- `execution::Execution::run_round` meets its contract.
use Rattle.std.proofs.lemmas.Result.{err_from_is_err_and}
use Rattle.execution.specs.Held.{held_in}
use Rattle.execution.proofs.Calls.{first_refused, second_refused, third_refused, round_run}
use Rattle.execution.proofs.Execution.run_round.Goals as goal

pub returns-in_err-send_at : goal.returns-in_err-send_at
returns-in_err-send_at c =
    let a = c.args in
    let p = err_from_is_err_and c.from_residual.result c.from_residual.ensures.1 in
    rw (p.1, p.2) (first_refused a.self.now (held_in a.server.now a.phone.now a.messages.now) c.requires _ _ _ _ c.in_err-send_at.ensures)

pub returns-in_err-take_at : goal.returns-in_err-take_at
returns-in_err-take_at c =
    let a = c.args in
    let p = err_from_is_err_and c.from_residual-in_err-take_at.result c.from_residual-in_err-take_at.ensures.1 in
    rw (p.1, p.2) (second_refused a.self.now (held_in a.server.now a.phone.now a.messages.now) c.requires _ _ _ c.in_ok-send_at.ensures _ _ _ c.in_err-take_at.ensures)

pub returns-in_err-send_at-2 : goal.returns-in_err-send_at-2
returns-in_err-send_at-2 c =
    let a = c.args in
    let p = err_from_is_err_and c.from_residual-in_err-send_at-2.result c.from_residual-in_err-send_at-2.ensures.1 in
    rw (p.1, p.2) (third_refused a.self.now (held_in a.server.now a.phone.now a.messages.now) c.requires _ _ _ c.in_ok-send_at.ensures _ _ c.in_ok-take_at.ensures _ _ _ _ c.in_err-send_at-2.ensures)

pub returns : goal.returns
returns c =
    let a = c.args in
    round_run a.self.now (held_in a.server.now a.phone.now a.messages.now) c.requires _ _ _ c.in_ok-send_at.ensures _ _ c.in_ok-take_at.ensures _ _ _ c.in_ok-send_at-2.ensures _ _ _ c.take_at-2.ensures
