-- `state::ask_answer` meets its contract: one question after the other.
use mathlib.Core.Path.{◌∙◌, sym}
use Rattle.lists.proofs.Questions.{walk}
use Rattle.state.specs.State.{answer_no, finished}
use Rattle.state.proofs.States.{finished-whole}
use Rattle.state.proofs.ask_answer.Goals as goal

pub returns-then-not-stands : goal.returns-then-not-stands
unfolding answer_no finished
returns-then-not-stands c = search walk

pub in_range-requires : goal.in_range-requires
unfolding finished
in_range-requires c = finished-whole c.args.side (sym c.stands.ensures ∙ c.if-not-stands.false)

pub returns-then-not-in_range : goal.returns-then-not-in_range
unfolding answer_no finished
returns-then-not-in_range c = search walk

pub returns-then-out-places_of : goal.returns-then-out-places_of
unfolding answer_no finished
returns-then-out-places_of c = rw (← c.places_of.ensures) (search walk)

pub returns : goal.returns
unfolding answer_no finished
returns c = rw (← c.places_of.ensures) (search walk)
