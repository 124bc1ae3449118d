-- `opening::checks_pass` meets its contract.
use mathlib.Core.Path.{refl, ◌∙◌}
use native.Mathlib.Omega.{arith}
use Rattle.std.proofs.Common.{rules, tests}
use Rattle.std.proofs.lemmas.Iterator.{YieldsList-from_range}
use Rattle.std.proofs.lemmas.Iterator.Search.{all_from_yields_List}
use Rattle.opening.specs.Work.{checked_at}
use Rattle.opening.proofs.Ranges.{range_is}
use Rattle.opening.proofs.checks_pass.Goals as goal

pub returns : goal.returns
returns c =
    let a = c.args in
    all_from_yields_List (checked_at a.side a.own.now a.fields.now a.opened.now) _ _ _ c.all.ensures.ran (YieldsList-from_range 0 _ _ refl (omega arith)) (λ x b q k. search (rules, tests))
    ∙ range_is (checked_at a.side a.own.now a.fields.now a.opened.now) _
