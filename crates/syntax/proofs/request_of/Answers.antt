-- `syntax::request_of` meets its contract.
use Rattle.syntax.proofs.Readings.{order_is}
use Rattle.syntax.proofs.request_of.Goals as goal

pub returns : goal.returns
returns c = order_is c.args.count c.args.v
