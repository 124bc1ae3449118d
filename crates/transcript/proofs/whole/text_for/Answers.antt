-- `transcript::whole::text_for` meets its contract.
use Rattle.std.proofs.Common.{rules}
use Rattle.transcript.proofs.Texts.{in-front}
use Rattle.transcript.proofs.whole.text_for.Goals as goal

pub returns : goal.returns
returns c = in-front c.args.out.now _ _ _ (search rules) c.put_text.ensures.len_bound c.requires
