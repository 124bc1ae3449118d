-- `settings::answer_size` meets its contract.
use Rattle.settings.specs.Sizes.{answer_size}
use Rattle.lists.proofs.Choices.{choices}
use Rattle.settings.proofs.answer_size.Goals as goal

pub returns-then-not-shape_ok : goal.returns-then-not-shape_ok
unfolding answer_size
returns-then-not-shape_ok c = search choices

pub returns : goal.returns
unfolding answer_size
returns c = search choices
