-- `opening::check_passes` meets its contract.
use mathlib.Core.Path.{refl, ◌∙◌}
use native.Mathlib.Omega.{arith}
use Rattle.std.proofs.Common.{rules, tests}
use Rattle.std.proofs.lemmas.Iterator.{YieldsList-from_range}
use Rattle.std.proofs.lemmas.Iterator.Search.{all_from_yields_List}
use Rattle.settings.specs.Sizes.{key_count}
use Rattle.opening.specs.Work.{part_at, checked_at}
use Rattle.opening.proofs.Ranges.{range_is}
use Rattle.opening.proofs.check_passes.Goals as goal

pub returns : goal.returns
unfolding checked_at
returns c =
    let a = c.args in
    all_from_yields_List (part_at a.side a.own.now a.fields.now a.opened.now a.o) _ _ _ c.all.ensures.ran (YieldsList-from_range 0 key_count key_count refl (omega arith)) (λ x b q k. search (rules, tests))
    ∙ range_is (part_at a.side a.own.now a.fields.now a.opened.now a.o) key_count
