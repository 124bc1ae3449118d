-- `settings::vectors_length` meets its contract. Assumes nothing.
use Rattle.field.specs.Sums.{sum_to}
use native.Mathlib.Omega.{arith}
use mathlib.Core.Path.{◌≡◌, refl}
use Rattle.settings.proofs.vectors_length.Goals as goal

pub returns-then-set-eq0 : goal.returns-then-set-eq0
unfolding sum_to
returns-then-set-eq0 c = rw c.if-set-eq0.true (refl, omega arith)

pub returns : goal.returns
unfolding sum_to
returns c = let e : c.args.set ≡ 1 = omega (arith, c.if-set-eq0.false) in rw e (refl, omega arith)
