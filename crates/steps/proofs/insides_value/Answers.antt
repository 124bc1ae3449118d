-- `steps::insides_value` meets its contract.
use Rattle.steps.proofs.Contexts.{hi_is, lo_is}
use native.Mathlib.Numerals.{add-one}
use Rattle.steps.specs.Steps.{insides, inside_form}
use native.Mathlib.Nat.{mul-zero}
use native.Mathlib.Omega.{arith}
use Rattle.steps.proofs.insides_value.Goals as goal

pub loop-j-init : goal.loop-j-init
unfolding insides
loop-j-init c = λ masked made. rw mul-zero

pub loop-j-preserved : goal.loop-j-preserved
unfolding insides inside_form
loop-j-preserved c = let known = c.args.known in
    let p = c.requires.bound_round in
    let j = c.loop-j.j in
    λ masked made.
    rw (
      add-one,
      ← c.loop-j.invariant masked made,
      ← hi_is known.settings known.round masked known made p.0 p.1 j (omega arith),
      ← lo_is known.settings known.round masked known made p.0 p.1 j (omega arith),
      ← c.inside_value.ensures,
    ) c.add_mod-total.ensures
