-- `rounding::high_low_by` meets its contract.
use mathlib.Core.Path.{refl, sym, ap, ◌∙◌}
use native.Mathlib.Omega.{arith}
use Prim.Native.Nat.{◌+◌, ◌-◌, ◌/◌, ◌%◌}
use Rattle.field.specs.Field.{q}
use Rattle.settings.specs.Sets.{scale_of}
use Rattle.settings.proofs.Sets.{lawful}
use Rattle.rounding.proofs.Decompose.{both, high_low_inner, high_low_outer}
use Rattle.rounding.proofs.Differences.{signed}
use Rattle.rounding.proofs.high_low_by.Goals as goal

pub returns-then-sum : goal.returns-then-sum
returns-then-sum c =
    let a = c.args in
    let p = c.requires in
    ap (both 0) (signed a.w q (omega arith) (omega arith))
    ∙ sym (high_low_outer (scale_of a.set) (lawful a.set p.0) a.w p.1 _ refl (omega arith))

pub returns : goal.returns
returns c =
    let a = c.args in
    let p = c.requires in
    ap (both _) (signed ((a.w + (c.alpha_of-alpha.result / 2 - 1)) % c.alpha_of-alpha.result) (c.alpha_of-alpha.result / 2 - 1) (omega arith) (omega arith))
    ∙ rw c.alpha_of-alpha.ensures.0 (sym (high_low_inner (scale_of a.set) (lawful a.set p.0) a.w p.1 _ refl (omega arith)))
