-- `transcript::whole::put_text` meets its contract.
use native.Mathlib.Omega.{arith}
use Rattle.transcript.specs.Transcript.{text_for}
use Rattle.transcript.proofs.Texts.{good_input}
use Rattle.transcript.proofs.whole.put_text.Goals as goal

pub returns-in-Some : goal.returns-in-Some
returns-in-Some c = rw (c.in-Some.is, ← good_input c.in-Some.count c.args.numbers.now c.min.result c.min.ensures) c.put_transcript.ensures

pub returns-in-None : goal.returns-in-None
unfolding text_for
returns-in-None c = rw c.in-None.is (record { text_after = c.put_malformed.ensures; len_bound = omega arith })
