-- `transcript::whole::put_transcript` meets its contract. Assumes nothing.
use Prim.Native.Nat.{ℕ}
use mathlib.Core.Path.{◌≡◌}
use lib.ListN.{length, length-replicate}
use Rattle.execution.specs.Held.{run_bytes, zero_space}
use native.Mathlib.Omega.{arith}
use Rattle.transcript.proofs.Texts.{too_few, text_is, text_fits}
use Rattle.transcript.proofs.whole.put_transcript.Goals as goal

pub returns-then-numbers-lt-HEAD_LENGTH : goal.returns-then-numbers-lt-HEAD_LENGTH
returns-then-numbers-lt-HEAD_LENGTH c = rw (← too_few c.args.numbers.now (omega arith)) (record { text_after = c.put_malformed.ensures; len_bound = omega arith })

pub returns : goal.returns
returns c =
    let a = c.args in
    let enough = c.if-numbers-lt-HEAD_LENGTH.false in
    let terms = c.run_terms_in-terms in
    let x = c.execute_in-x in
    let ran = rw c.new-space.ensures at x.ensures.run in
    let is = text_is a.numbers.now enough terms.result terms.ensures x.result _ _ ran in
    let long : length zero_space.work.messages ≡ run_bytes = length-replicate {A = ℕ} run_bytes 0 in
    let fits = text_fits a.numbers.now enough terms.result terms.ensures x.result _ _ ran long in
    rw (← is) (record { text_after = c.put_run.ensures; len_bound = fits })
