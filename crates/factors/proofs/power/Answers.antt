-- A turn is one more factor.
use Rattle.std.proofs.Common.{refl}
use Rattle.factors.proofs.Powers.{power_turn}
use Rattle.factors.proofs.power.Goals as goal

pub loop-preserved : goal.loop-preserved
loop-preserved c = power_turn _ 1753 c.loop.counter _ _ c.loop.invariant c.mul_mod-product.ensures
