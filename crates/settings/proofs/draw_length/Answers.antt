-- `settings::draw_length` meets its contract.
use Rattle.settings.specs.Settings.{params_of}
use Rattle.settings.specs.Sizes.{width}
use Rattle.settings.proofs.Sizes.{draw-high, draw-bound}
use native.Mathlib.Omega.{arith}
use Rattle.settings.proofs.draw_length.Goals as goal

pub returns-then-shape-eq0 : goal.returns-then-shape-eq0
returns-then-shape-eq0 c = let a = c.args in omega (arith, draw-high (params_of a.shape) width c.if-shape-eq0.true)

pub returns : goal.returns
returns c = let a = c.args in omega (arith, draw-bound (params_of a.shape) width c.if-shape-eq0.false)
