-- `lines::spread` meets its contract.
use mathlib.Core.Path.{◌≡◌, sym, ap, ◌∙◌}
use Prim.Native.Nat.{ℕ, ◌*◌, ◌/◌}
use native.Mathlib.Omega.{arith}
use lib.ListN.{length, get_or}
use Rattle.lists.specs.Lists.{fill}
use Rattle.lists.proofs.Fill.{fill_none, front-more, whole_is}
use Rattle.settings.specs.Sizes.{width}
use Rattle.lines.specs.Run.{in_columns}
use Rattle.lines.proofs.spread.Goals as goal

pub loop-i-init : goal.loop-i-init
loop-i-init c = sym (fill_none _ _ _)

pub loop-i-preserved : goal.loop-i-preserved
loop-i-preserved c = rw front-more (cc)

pub returns : goal.returns
unfolding in_columns
returns c =
    let a = c.args in
    let e : c.loop-i.i ≡ length a.numbers.now * width = omega arith in
    c.loop-i.invariant ∙ ap (λ (n : ℕ). fill a.out.now 0 n (λ (x : ℕ). get_or a.numbers.now (x / width) 0)) e
    ∙ whole_is a.out.now (length a.numbers.now * width) (λ (x : ℕ). get_or a.numbers.now (x / width) 0) (omega arith)
