-- `calls::put_high_low` meets its contract.
use Rattle.std.proofs.Common.{[], ◌∷◌, rules}
use Rattle.desk.specs.Desk.{high_low_text}
use Rattle.text.proofs.Puts.{puts_then}
use Rattle.desk.proofs.Signed.{put_read}
use Rattle.desk.proofs.calls.put_high_low.Goals as goal

pub returns : goal.returns
unfolding high_low_text
returns c =
    puts_then _ _ c.put_number.ensures
    (puts_then (32 ∷ []) _ c.put_byte.ensures (put_read c.args.pair.low (search rules) c.put_signed.ensures))
