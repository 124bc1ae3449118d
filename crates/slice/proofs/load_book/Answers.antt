-- `slice::load_book` meets its contract.
use mathlib.Core.Path.{◌≡◌}
use native.Mathlib.Omega.{arith}
use Rattle.slice.proofs.Begun.{batch_none, batch_next}
use Rattle.slice.proofs.load_book.Goals as goal

pub loop-first-init : goal.loop-first-init
loop-first-init c = (omega arith, batch_none _ _ (omega arith))

pub loop-first-preserved : goal.loop-first-preserved
loop-first-preserved c =
    let at = c.loop-first in
    (omega arith, batch_next _ _ at.work _ at.first _ _ (omega arith) (omega arith) at.invariant.1 c.load_batch.ensures)

pub returns : goal.returns
returns c =
    let at = c.loop-first in
    let all : at.first ≡ c.args.count = omega arith in
    rw all at at.invariant.1

pub returns-2 : goal.returns-2
returns-2 c =
    let at = c.loop-first in
    batch_next _ _ at.work _ at.first _ _ (omega arith) (omega arith) at.invariant.1 c.load_batch.ensures
