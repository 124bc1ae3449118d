-- `page::put_page_for` meets its contract.
use Rattle.top_digits.proofs.Pages.{page_malformed, page_refused, page_printed}
use Rattle.top_digits.proofs.page.put_page_for.Goals as goal

pub returns-in_default : goal.returns-in_default
returns-in_default c = rw (page_malformed c.args.word.now c.in_default.ensures) c.put_refusal.ensures

pub returns-then-set-ge2 : goal.returns-then-set-ge2
returns-then-set-ge2 c = rw (page_refused c.args.word.now _ c.in-Some.ensures c.if-set-ge2.true) c.put_refusal-then-set-ge2.ensures

pub returns : goal.returns
returns c = rw (page_printed c.args.word.now _ c.in-Some.ensures c.if-set-ge2.false) c.put_page.ensures
