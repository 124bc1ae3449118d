-- `slice::begin_work` meets its contract.
use native.Mathlib.Omega.{arith}
use Rattle.settings.specs.Settings.{params_of}
use Rattle.settings.specs.Sizes.{width}
use Rattle.slice.proofs.Begun.{finished-more, begun_all}
use Rattle.slice.proofs.begin_work.Goals as goal

pub loop-c-preserved : goal.loop-c-preserved
loop-c-preserved c =
    let at = c.loop-c in
    let a = c.args in
    finished-more _ _ a.inputs.now a.book.now _ _ at.c at.work _ (omega arith) (omega arith) (omega arith) c.load_book.ensures (c.finish_column.ensures a.book.now) at.invariant

pub returns : goal.returns
returns c =
    let a = c.args in
    let at = c.loop-c in
    begun_all (params_of a.shape) width a.inputs.now a.book.now at.work (omega arith) (λ d i h l.
    rw (← c.shared_of-count.ensures.0) (at.invariant.0 d i (omega arith) l))
