-- `syntax::put_refusal` meets its contract.
use Rattle.std.proofs.Common.{[], ◌∷◌}
use Rattle.text.proofs.Puts.{puts_then}
use Rattle.syntax.specs.Answer.{refusal_text}
use Rattle.syntax.proofs.put_refusal.Goals as goal

pub returns : goal.returns
unfolding refusal_text
returns c = puts_then (32 ∷ 33 ∷ []) _ c.put_bytes.ensures c.put_number.ensures
