-- `text::write_decimal` meets its contract.
use Prim.Native.Nat.{ℕ, ◌-◌}
use mathlib.Core.Path.{◌≡◌, ◌∙◌}
use native.Mathlib.Omega.{arith}
use lib.ListN.{length-set}
use Rattle.text.proofs.Decimals.{decimal-none, decimal-below, digits_none, digit_last, digit_more}
use Rattle.text.proofs.write_decimal.Goals as goal

pub loop-k-init : goal.loop-k-init
loop-k-init c = (omega arith, c.told-digits, digits_none _ _ c.told-digits)

pub returns-then-rest-lt10 : goal.returns-then-rest-lt10
returns-then-rest-lt10 c =
    let l = c.loop-k in
    let i = l.invariant in
    (digit_last l.digits l.k l.rest c.args.number i.0 (omega (arith, i.1, l.auto.k)) i.2 (decimal-below (l.k - 1) l.rest c.if-rest-lt10.true), omega (arith, i.0, l.auto.k))

pub loop-k-preserved : goal.loop-k-preserved
loop-k-preserved c =
    let l = c.loop-k in
    let i = l.invariant in (
      omega arith,
      length-set l.digits (l.k - 1) _ ∙ i.1,
      digit_more l.digits l.k l.rest c.args.number i.0 (omega (arith, i.1, l.auto.k)) i.2 (omega arith) c.if-rest-lt10.false,
    )

pub returns : goal.returns
returns c =
    let l = c.loop-k in
    let i = l.invariant in
    let first : l.k ≡ 1 = omega (arith, i.0) in
    (rw first at (digit_last l.digits l.k l.rest c.args.number i.0 (omega (arith, i.1, l.auto.k)) i.2) (decimal-none l.rest), omega arith)
