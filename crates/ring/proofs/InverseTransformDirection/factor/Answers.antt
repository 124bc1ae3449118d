-- `factor` of `InverseTransform` meets its contract. Assumes nothing.
use Rattle.ring.specs.Layers.{inverse_factor}
use Rattle.ring.proofs.Table.{factor-below}
use Prim.Native.Nat.{◌+◌, ◌-◌}
use native.Mathlib.Omega.{arith}
use Rattle.ring.proofs.InverseTransformDirection.factor.Goals as goal

pub overflow_sub-result : goal.overflow_sub-result
overflow_sub-result c = omega (arith, c.factor.ensures, factor-below (c.args.blocks + (c.args.blocks - 1 - c.args.n)))

pub returns : goal.returns
unfolding inverse_factor
returns c = cc
