-- `opening::prepare_columns` meets its contract. Assumes nothing.
use Rattle.opening.proofs.Taking.{prepared_held}
use Rattle.opening.proofs.prepare_columns.Goals as goal

pub returns : goal.returns
returns c =
    let weights-of = c.weights_of-weights in
    let prepare = c.prepare in
    let p = c.requires in
    let a = c.args in
    prepared_held a.side a.work.now weights-of.result prepare.new.out a.known p.context_of weights-of.ensures prepare.ensures
