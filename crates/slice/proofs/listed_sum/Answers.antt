-- `slice::listed_sum` meets its contract.
use mathlib.Core.Path.{refl}
use native.Mathlib.Numerals.{add-one}
use native.Mathlib.Omega.{arith}
use Rattle.field.specs.Sums.{sum_to}
use Rattle.slice.proofs.listed_sum.Goals as goal

pub loop-j-init : goal.loop-j-init
unfolding sum_to
loop-j-init c = (refl, omega arith)

pub loop-j-preserved : goal.loop-j-preserved
unfolding sum_to
loop-j-preserved c = (rw (add-one, ← c.register.ensures, ← c.times-total.ensures.0, ← c.loop-j.invariant.0), omega arith)
