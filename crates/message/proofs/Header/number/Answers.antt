-- `message::Header::number` meets its contract.
use borrow.Author.Rules.{rules}
use Rattle.message.specs.Message.{header_number}
use Rattle.message.proofs.Header.number.Goals as goal

pub returns : goal.returns
unfolding header_number
returns c = search rules
