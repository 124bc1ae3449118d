-- `slice::finish_column` meets its contract.
use native.Mathlib.Omega.{arith}
use Rattle.slice.proofs.Begun.{rest_is}
use Rattle.slice.proofs.Parts.{zeros-fill}
use Rattle.slice.proofs.finish_column.Goals as goal

pub returns : goal.returns
returns c = λ book.
    rest_is _ _ _ _ book _ c.requires.2 _ _ _ _ _ _ _ c.requires.3 (omega arith) (omega arith)
    (zeros-fill _ _ _ _ (omega arith) (omega arith) c.clear.auto.numbers c.clear.ensures)
    c.load.ensures
    (zeros-fill _ _ _ _ (omega arith) (omega arith) c.clear-2.auto.numbers c.clear-2.ensures)
