-- `settings::top_digits` meets its contract: the checker computes each list by the rule and compares it with the constant.
use mathlib.Core.Path.{◌≡◌, refl}
use native.Mathlib.Omega.{arith}
use Rattle.lists.specs.Lists.{list_from}
use Rattle.settings.specs.Sets.{top, top_digits}
use Rattle.settings.proofs.top_digits.Goals as goal

pub returns-then-set-eq0 : goal.returns-then-set-eq0
unfolding top_digits list_from top
returns-then-set-eq0 c = rw c.if-set-eq0.true refl

pub returns : goal.returns
unfolding top_digits list_from top
returns c =
    let one : c.args.set ≡ 1 = omega arith in
    rw one refl
