-- `column::into_columns` meets its contract.
use Rattle.lists.proofs.Strides.{stride-none, stride-more}
use mathlib.Core.Path.{sym}
use native.Mathlib.Omega.{arith}
use Rattle.column.proofs.into_columns.Goals as goal

pub value-requires : goal.value-requires
value-requires g c = c.requires.takes c.loop-f.f (omega arith)

pub loop-f-init : goal.loop-f-init
loop-f-init g c = λ numbers gives. sym (stride-none _ _ _ _)

pub loop-f-preserved : goal.loop-f-preserved
loop-f-preserved g c = λ numbers gives. stride-more c.args.stride _ _ _ _ _ _ (c.loop-f.invariant numbers gives) (gives c.loop-f.f c.value.result (omega arith) c.value.ensures)
