-- `page::page_for` meets its contract.
use Rattle.std.proofs.Common.{rules}
use Rattle.top_digits.proofs.Pages.{in-front}
use Rattle.top_digits.proofs.page.page_for.Goals as goal

pub returns-clause-out_after : goal.returns-clause-out_after
returns-clause-out_after c = in-front c.args.word.now c.args.out.now _ _ c.requires (search rules)
