-- `steps::open_input` meets its contract. Assumes nothing.
use Rattle.steps.specs.Steps.{open_input}
use Rattle.steps.proofs.open_input.Goals as goal

pub returns : goal.returns
unfolding open_input
returns c =
    let mask_at = c.mask_at-place in
    let register = c.register in
    let mul-mod = c.mul_mod in
    let add-mod = c.add_mod-a in
    λ masked. rw (← mask_at.ensures.0, ← c.shift_of-shift.ensures, ← register.ensures, ← mul-mod.ensures, ← add-mod.ensures, ← c.register-2.ensures) c.sub_mod.ensures
