-- `page::put_entry` meets its contract.
use Rattle.std.proofs.Common.{[], ◌∷◌}
use Rattle.text.proofs.Puts.{puts_then}
use Rattle.top_digits.specs.Page.{entry_line}
use Rattle.top_digits.proofs.page.put_entry.Goals as goal

pub returns : goal.returns
unfolding entry_line
returns c =
    puts_then _ _ c.put_number.ensures (puts_then (32 ∷ []) _ c.put_byte.ensures (puts_then _ _ c.put_number-2.ensures c.put_byte-2.ensures))
