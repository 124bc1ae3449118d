-- `state::step_of` meets its contract.
use Rattle.std.proofs.Common.{◌≡◌, arith, rules}
use Rattle.state.specs.State.{is_finished, is_sending, step_of}
use Rattle.state.proofs.States.{step-most}
use Rattle.state.proofs.step_of.Goals as goal

pub returns-then-eq : goal.returns-then-eq
unfolding step_of
returns-then-eq c =
    let e : c.eq.result ≡ is_finished c.args.side.phase = search rules in
    (rw (← e, c.if-eq.true), omega arith)

pub returns : goal.returns
unfolding step_of
returns c =
    let side = c.args.side in
    let e : c.eq.result ≡ is_finished side.phase = search rules in
    let f : c.eq-2.result ≡ is_sending side.phase = search rules in
    let steps : c.steps_in.result ≡ step_of side = rw (← e, c.if-eq.false, ← f) c.steps_in.ensures in
    (steps, rw steps (step-most side c.requires))
