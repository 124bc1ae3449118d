-- `side::ask_work` meets its contract: one question after the other.
use Rattle.lists.proofs.Questions.{walk}
use Rattle.side.proofs.ask_work.Goals as goal

pub returns-then-not-due : goal.returns-then-not-due
returns-then-not-due c = search walk

pub returns-then-work-ne-WORK_LENGTH : goal.returns-then-work-ne-WORK_LENGTH
returns-then-work-ne-WORK_LENGTH c = search walk

pub returns-then-not-all_below_q : goal.returns-then-not-all_below_q
returns-then-not-all_below_q c = search walk depth 8

pub returns : goal.returns
returns c = search walk depth 8
