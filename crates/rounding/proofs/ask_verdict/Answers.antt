-- `rounding::ask_verdict` meets its contract: one question after the other.
use Rattle.lists.proofs.Questions.{walk}
use Rattle.rounding.specs.Calls.{verdict_no}
use Rattle.rounding.proofs.ask_verdict.Goals as goal
use Rattle.rounding.proofs.ask_verdict.Goals.{then-numbers-lt1-via-then-numbers-lt1, then-numbers-lt1-via-else-numbers-lt1+then-numbers-gt8}

pub returns-then-set-ge2 : goal.returns-then-set-ge2
unfolding verdict_no
returns-then-set-ge2 c = search walk depth 20

pub returns-then-numbers-lt1 : goal.returns-then-numbers-lt1
unfolding verdict_no
returns-then-numbers-lt1 c =
    elim c.then-numbers-lt1.branch [ then-numbers-lt1-via-then-numbers-lt1 w ↦ search walk depth 20 | then-numbers-lt1-via-else-numbers-lt1+then-numbers-gt8 w ↦ search walk depth 20 ]

pub returns-then-not-bound_ok : goal.returns-then-not-bound_ok
unfolding verdict_no
returns-then-not-bound_ok c = search walk depth 20

pub returns-then-not-all_below_q : goal.returns-then-not-all_below_q
unfolding verdict_no
returns-then-not-all_below_q c = search walk depth 20

pub returns : goal.returns
unfolding verdict_no
returns c = search walk depth 20
