-- `ring::ask_ring` meets its contract: one question after the other.
use Rattle.lists.proofs.Questions.{walk}
use Rattle.ring.specs.Calls.{ring_no}
use Rattle.ring.proofs.ask_ring.Goals as goal
use Rattle.ring.proofs.ask_ring.Goals.{then-public-ne-SIZE-via-then-public-ne-SIZE, then-public-ne-SIZE-via-else-public-ne-SIZE+then-row-ne-SIZE, then-public-ne-SIZE-via-else-public-ne-SIZE+else-row-ne-SIZE+then-out-ne-SIZE}
use Rattle.ring.proofs.ask_ring.Goals.{then-not-all_below_q-via-then-not-all_below_q, then-not-all_below_q-via-else-not-all_below_q+then-not-all_below_q-2}

pub returns-then-public-ne-SIZE-clause-asked : goal.returns-then-public-ne-SIZE-clause-asked
unfolding ring_no
returns-then-public-ne-SIZE-clause-asked c =
    elim c.then-public-ne-SIZE.branch [ then-public-ne-SIZE-via-then-public-ne-SIZE w ↦ search walk depth 20 | then-public-ne-SIZE-via-else-public-ne-SIZE+then-row-ne-SIZE w ↦ search walk depth 20 | then-public-ne-SIZE-via-else-public-ne-SIZE+else-row-ne-SIZE+then-out-ne-SIZE w ↦ search walk depth 20 ]

pub returns-then-not-all_below_q-clause-asked : goal.returns-then-not-all_below_q-clause-asked
unfolding ring_no
returns-then-not-all_below_q-clause-asked c =
    elim c.then-not-all_below_q.branch [ then-not-all_below_q-via-then-not-all_below_q w ↦ search walk depth 20 | then-not-all_below_q-via-else-not-all_below_q+then-not-all_below_q-2 w ↦ search walk depth 20 ]

pub returns-clause-asked : goal.returns-clause-asked
unfolding ring_no
returns-clause-asked c = search walk depth 20
