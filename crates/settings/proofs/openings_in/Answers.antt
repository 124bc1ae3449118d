-- `settings::openings_in` meets its contract.
use native.Mathlib.Omega.{arith}
use Rattle.lists.proofs.Choices.{choices}
use Rattle.settings.specs.Sizes.{openings}
use Rattle.settings.proofs.openings_in.Goals as goal

pub returns-then-round-eq1 : goal.returns-then-round-eq1
unfolding openings
returns-then-round-eq1 c = (search choices, omega arith)

pub returns-then-round-le5 : goal.returns-then-round-le5
unfolding openings
returns-then-round-le5 c = (search choices, omega arith)

pub returns-then-shape-eq0 : goal.returns-then-shape-eq0
unfolding openings
returns-then-shape-eq0 c = (search choices, omega arith)

pub returns : goal.returns
unfolding openings
returns c = (search choices, omega arith)
