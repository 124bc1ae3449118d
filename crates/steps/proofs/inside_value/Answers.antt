-- `steps::inside_value` meets its contract.
use mathlib.Core.Path.{◌≡◌, refl}
use mathlib.Core.Bool.{Bool, true, false}
use mir.Val.{bool_byte}
use Rattle.lists.specs.Answers.{bit}
use Rattle.steps.proofs.inside_value.Goals as goal

test : (b : Bool) → bool_byte b ≡ bit b
unfolding bit
test true = refl
test false = refl

pub returns : goal.returns
returns c = rw (← c.register.ensures, ← c.register-2.ensures, ← c.sub_mod-d.ensures, ← test _, ← c.from.ensures, ← c.mul_mod.ensures) c.add_mod.ensures
