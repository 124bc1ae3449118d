-- `settings::message_length` meets its contract.
use borrow.Author.Rules.{rules}
use Rattle.settings.specs.Sizes.{message_length}
use Rattle.settings.proofs.message_length.Goals as goal

pub returns : goal.returns
unfolding message_length
returns c = search rules
