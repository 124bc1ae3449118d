-- `execution::Execution::run_rounds` meets its contract.
use Prim.Native.Nat.{◌-◌, ◌*◌}
use mathlib.Core.Path.{◌≡◌}
use native.Mathlib.Omega.{arith}
use Rattle.std.proofs.lemmas.Result.{err_from_is_err_and}
use Rattle.settings.specs.Schedule.{rounds}
use Rattle.execution.proofs.Calls.{no_round, round-more, rounds-ended, rounds-fit}
use Rattle.execution.proofs.Execution.run_rounds.Goals as goal

pub loop-init : goal.loop-init
loop-init c = no_round _ _

pub run_round-requires : goal.run_round-requires
run_round-requires c =
    let p = c.requires in
    let n = c.loop.counter in
    let f = rounds-fit n (2 * (rounds - n)) _ _ _ _ _ c.loop.invariant (record { server = p.server; phone = p.phone; room = omega (arith, p.room) }) in
    record { server = f.server; phone = f.phone; room = omega (arith, f.room) }

pub returns-in_err-run_round : goal.returns-in_err-run_round
returns-in_err-run_round c =
    let p = err_from_is_err_and c.from_residual.result c.from_residual.ensures.1 in
    rw (p.1, p.2) (rounds-ended _ rounds _ _ _ _ _ (omega arith) (round-more _ _ _ _ _ _ _ _ c.loop.invariant c.in_err-run_round.ensures))

pub loop-preserved : goal.loop-preserved
loop-preserved c = round-more _ _ _ _ _ _ _ _ c.loop.invariant c.in_ok-run_round.ensures

pub returns : goal.returns
returns c = let e : c.loop.counter ≡ rounds = omega arith in rw (← e) c.loop.invariant
