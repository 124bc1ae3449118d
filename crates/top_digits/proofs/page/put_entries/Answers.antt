-- A turn puts the next line.
use Rattle.std.proofs.Common.{arith}
use Rattle.text.proofs.Puts.{puts_none}
use Rattle.top_digits.specs.Page.{entry_lines}
use Rattle.top_digits.proofs.Pages.{entries-more}
use Rattle.top_digits.proofs.page.put_entries.Goals as goal

pub loop-d-init : goal.loop-d-init
unfolding entry_lines
loop-d-init c = puts_none _

pub loop-d-preserved : goal.loop-d-preserved
loop-d-preserved c = entries-more c.args.list.now c.loop-d.d (omega arith) c.loop-d.invariant c.put_entry.ensures
