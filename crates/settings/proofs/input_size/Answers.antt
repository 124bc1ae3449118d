-- `settings::input_size` meets its contract.
use Rattle.settings.specs.Sizes.{input_size}
use Rattle.lists.proofs.Choices.{choices}
use Rattle.settings.proofs.input_size.Goals as goal

pub returns-then-not-shape_ok : goal.returns-then-not-shape_ok
unfolding input_size
returns-then-not-shape_ok c = search choices

pub returns : goal.returns
unfolding input_size
returns c = search choices
