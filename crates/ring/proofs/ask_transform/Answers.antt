-- `ring::ask_transform` meets its contract: one question after the other.
use Rattle.lists.proofs.Questions.{walk}
use Rattle.ring.specs.Calls.{transform_no}
use Rattle.ring.proofs.ask_transform.Goals as goal
use Rattle.ring.proofs.ask_transform.Goals.{then-public-ne-SIZE-via-then-public-ne-SIZE, then-public-ne-SIZE-via-else-public-ne-SIZE+then-out-ne-SIZE}

pub returns-then-public-ne-SIZE-clause-asked : goal.returns-then-public-ne-SIZE-clause-asked
unfolding transform_no
returns-then-public-ne-SIZE-clause-asked c =
    elim c.then-public-ne-SIZE.branch [ then-public-ne-SIZE-via-then-public-ne-SIZE w ↦ search walk depth 20 | then-public-ne-SIZE-via-else-public-ne-SIZE+then-out-ne-SIZE w ↦ search walk depth 20 ]

pub returns-then-not-all_below_q-clause-asked : goal.returns-then-not-all_below_q-clause-asked
unfolding transform_no
returns-then-not-all_below_q-clause-asked c = search walk depth 20

pub returns-clause-asked : goal.returns-clause-asked
unfolding transform_no
returns-clause-asked c = search walk depth 20
