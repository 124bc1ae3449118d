-- `steps::check_entry` meets its contract. Assumes nothing.
use Rattle.steps.specs.Steps.{check_entry}
use Rattle.steps.proofs.check_entry.Goals as goal

pub returns : goal.returns
unfolding check_entry
returns c = λ masked κ. rw (← c.group_at-place.ensures.0, ← c.index_of-index.ensures.0) c.register.ensures
