-- `opening::part_passes` meets its contract.
use mathlib.Core.Path.{ap₂}
use lib.Dec.{eqb}
use Rattle.opening.specs.Work.{part_at}
use Rattle.opening.proofs.part_passes.Goals as goal

pub returns : goal.returns
unfolding part_at
returns c = ap₂ eqb c.add_mod-sum.ensures c.mul_mod.ensures
