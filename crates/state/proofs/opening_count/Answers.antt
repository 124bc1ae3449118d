-- `state::opening_count` meets its contract.
use mathlib.Core.Path.{sym, ◌∙◌}
use Rattle.state.specs.State.{count_call}
use Rattle.state.proofs.States.{whole_fields}
use Rattle.state.proofs.opening_count.Goals as goal

pub returns-then-not-is_whole : goal.returns-then-not-is_whole
unfolding count_call
returns-then-not-is_whole c = rw (← c.is_whole.ensures, c.if-not-is_whole.true)

pub rounds_taken-requires : goal.rounds_taken-requires
rounds_taken-requires c = whole_fields c.args.side (sym c.is_whole.ensures ∙ c.if-not-is_whole.false)

pub openings_up_to-requires : goal.openings_up_to-requires
openings_up_to-requires c =
    let fields = whole_fields c.args.side (sym c.is_whole.ensures ∙ c.if-not-is_whole.false) in
    (fields.ready.shape.most, c.rounds_taken.ensures.1)

pub returns : goal.returns
unfolding count_call
returns c =
    let is_whole = c.is_whole in
    rw (← is_whole.ensures, c.if-not-is_whole.false, ← c.rounds_taken.ensures.0) c.openings_up_to.ensures
