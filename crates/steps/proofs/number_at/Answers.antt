-- `steps::number_at` meets its contract.
use native.Mathlib.Omega.{arith}
use borrow.Author.Tests.{eq-eqb, ne_eqb}
use Rattle.steps.specs.Context.{number_at}
use Rattle.steps.proofs.Contexts.{count-high, count-bound}
use Rattle.steps.proofs.number_at.Goals as goal

pub offset_bounds-masked-x : goal.offset_bounds-masked-x
offset_bounds-masked-x c = omega (arith, count-high c.args.settings.shape c.if-settings-eq0.true)

pub bounds-masked-x : goal.bounds-masked-x
bounds-masked-x c = omega (arith, count-high c.args.settings.shape c.if-settings-eq0.true)

pub returns-then-settings-eq0 : goal.returns-then-settings-eq0
unfolding number_at
returns-then-settings-eq0 c = rw (eq-eqb _ _ c.if-settings-eq0.true)

pub offset_bounds-masked-x-2 : goal.offset_bounds-masked-x-2
offset_bounds-masked-x-2 c = omega (arith, count-bound c.args.settings.shape c.if-settings-eq0.false)

pub bounds-masked-x-2 : goal.bounds-masked-x-2
bounds-masked-x-2 c = omega (arith, count-bound c.args.settings.shape c.if-settings-eq0.false)

pub returns : goal.returns
unfolding number_at
returns c = rw (ne_eqb _ _ c.if-settings-eq0.false) c.threshold_of.ensures
