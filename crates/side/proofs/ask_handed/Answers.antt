-- `side::ask_handed` meets its contract: one question after the other.
use Rattle.lists.proofs.Questions.{walk}
use Rattle.side.specs.Side.{handed_no}
use Rattle.side.proofs.ask_handed.Goals as goal

pub returns-then-not-keys_ok : goal.returns-then-not-keys_ok
unfolding handed_no
returns-then-not-keys_ok c = search walk

pub returns-then-inputs-shape : goal.returns-then-inputs-shape
unfolding handed_no
returns-then-inputs-shape c = search walk depth 8

pub returns-then-book-shared_of : goal.returns-then-book-shared_of
unfolding handed_no
returns-then-book-shared_of c = rw (← c.shared_of.ensures.0) (search walk depth 12)

pub returns-then-work-ne-WORK_LENGTH : goal.returns-then-work-ne-WORK_LENGTH
unfolding handed_no
returns-then-work-ne-WORK_LENGTH c = rw (← c.shared_of.ensures.0) (search walk depth 12)

pub returns-then-not-all_below_q : goal.returns-then-not-all_below_q
unfolding handed_no
returns-then-not-all_below_q c = rw (← c.shared_of.ensures.0) (search walk depth 12)

pub returns-then-not-all_below_q-2 : goal.returns-then-not-all_below_q-2
unfolding handed_no
returns-then-not-all_below_q-2 c = rw (← c.shared_of.ensures.0) (search walk depth 12)

pub returns-then-run-side : goal.returns-then-run-side
unfolding handed_no
returns-then-run-side c = rw (← c.shared_of.ensures.0) (search walk depth 12)

pub returns : goal.returns
unfolding handed_no
returns c = rw (← c.shared_of.ensures.0) (search walk depth 12)
