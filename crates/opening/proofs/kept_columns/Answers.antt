-- `opening::kept_columns` meets its contract. Assumes nothing.
use Rattle.opening.specs.Work.{columns_to}
use Rattle.slice.specs.Layout.{own_in}
use Rattle.settings.specs.Sizes.{most_openings}
use Rattle.lists.proofs.Part.{fill-part}
use Rattle.lists.specs.Lists.{fill}
use borrow.Rule.Slice.PartMut.{put_mid}
use native.Mathlib.Numerals.{add-one}
use mathlib.Core.List.{List}
use Prim.Native.Nat.{ℕ, ◌-◌, ◌+◌, ◌*◌}
use mathlib.Core.Path.{◌≡◌, refl, ap, ◌∙◌}
use native.Mathlib.Omega.{arith}
use Rattle.opening.proofs.kept_columns.Goals as goal

pub loop-f-init : goal.loop-f-init
unfolding columns_to
loop-f-init c = refl

pub loop-f-preserved : goal.loop-f-preserved
unfolding columns_to
loop-f-preserved c = let loop = c.loop-f in
    let a = c.args in
    let m = loop.f in
    let more : _ ≡ fill loop.sent (most_openings * m) a.count (own_in a.work.now m) =
    ap (λ (l : List ℕ). put_mid (most_openings * m) (most_openings * m + most_openings - most_openings * m) loop.sent l) c.own_column.ensures
    ∙ fill-part loop.sent (most_openings * m) (most_openings * m + most_openings - most_openings * m) (own_in a.work.now m) (omega arith) _ (omega arith) in
    rw (add-one m, ← loop.invariant) more
