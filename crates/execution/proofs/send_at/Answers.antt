-- `execution::send_at` meets its contract.
use mathlib.Core.Path.{ap, ◌∙◌}
use native.Mathlib.Omega.{arith}
use Rattle.std.specs.Prelude.{Result}
use Rattle.std.specs.Result.{result_err}
use Rattle.std.proofs.lemmas.Result.{err_from_is_err_and}
use Prim.Native.Nat.{ℕ}
use Rattle.execution.specs.declared.CallKind.TheVariants.{Send}
use Rattle.execution.specs.declared.RefusedCall.{RefusedCall}
use Rattle.execution.specs.Execution.{told}
use Rattle.execution.proofs.Calls.{told-answer, answer_ok, none-refused}
use Rattle.execution.proofs.Sends.{sends_at, refuses_at, sent-most}
use Rattle.execution.proofs.send_at.Goals as goal

pub returns-in_err-length : goal.returns-in_err-length
returns-in_err-length c =
    let a = c.args in
    let r = c.requires in
    let p = err_from_is_err_and c.from_residual.result c.from_residual.ensures.1 in
    let refused = ap (λ (x : Result ℕ RefusedCall). told (result_err x)) c.in_err-length.ensures ∙ told-answer Send a.party c.send-sent.result in
    rw (p.1, p.2) (refuses_at a.party a.e.now a.work.now a.messages.now a.total.now r.0 r.1 _ _ c.send-sent.ensures _ refused)

pub overflow_add-e : goal.overflow_add-e
overflow_add-e c =
    let a = c.args in
    let r = c.requires in
    let sent = rw (answer_ok Send a.party c.send-sent.result _ c.in_ok-length.ensures) at c.send-sent.ensures in
    omega (arith, sent-most a.party a.e.now a.work.now a.messages.now a.total.now r.0 r.1 _ _ sent (none-refused Send a.party))

pub overflow_add-total : goal.overflow_add-total
overflow_add-total c =
    let a = c.args in
    let r = c.requires in
    let sent = rw (answer_ok Send a.party c.send-sent.result _ c.in_ok-length.ensures) at c.send-sent.ensures in
    omega (arith, sent-most a.party a.e.now a.work.now a.messages.now a.total.now r.0 r.1 _ _ sent (none-refused Send a.party))

pub returns : goal.returns
returns c =
    let a = c.args in
    let r = c.requires in
    let sent = rw (answer_ok Send a.party c.send-sent.result _ c.in_ok-length.ensures) at c.send-sent.ensures in
    sends_at a.party a.e.now a.work.now a.messages.now a.total.now r.0 r.1 _ _ sent (none-refused Send a.party)
