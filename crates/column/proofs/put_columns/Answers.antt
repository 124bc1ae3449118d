-- `column::put_columns` meets its contract. Assumes nothing.
use Rattle.column.proofs.Written.{column-taken}
use Rattle.steps.specs.Work.{taken_columns}
use Rattle.steps.specs.Context.{public_by}
use native.Mathlib.Numerals.{add-one}
use mathlib.Core.Path.{◌≡◌, refl}
use native.Mathlib.Omega.{arith}
use lib.ListN.{length}
use Rattle.column.proofs.put_columns.Goals as goal

pub loop-c-init : goal.loop-c-init
unfolding taken_columns
loop-c-init c = λ masked opened held next. refl

pub loop-c-preserved : goal.loop-c-preserved
unfolding taken_columns
loop-c-preserved c =
    let at = c.loop-c in
    let p = c.requires in
    let put-column = c.put_column in
    let a = c.args in
    let d = at.c in
    λ masked opened held next.
    rw (add-one d)
    (column-taken (public_by a.settings masked) a.round opened p.ready.shape.most a.weights.now a.work.now a.own.now a.next.now d (omega arith) held next
    at.work _ (at.invariant masked opened held next) put-column.ensures)

pub returns : goal.returns
returns c =
    let a = c.args in
    λ masked opened held next. let e : c.loop-c.c ≡ length a.weights.now = omega arith in rw e at (c.loop-c.invariant masked opened held next)
