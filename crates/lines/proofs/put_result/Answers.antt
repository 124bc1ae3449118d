-- `lines::put_result` meets its contract: the line is short enough.
use borrow.Author.Rules.{rules}
use Prim.Native.Nat.{ℕ}
use mathlib.Core.Path.{◌≡◌}
use mir.Val.{Fits}
use mir.Syntax.{w32}
use native.Mathlib.Omega.{arith}
use lib.ListN.{length, get_or, length-take}
use lib.Dec.{lit<}
use Rattle.syntax.proofs.Answers.{length-answer}
use Rattle.lines.proofs.Handed.{front_below, none_below}
use Rattle.lines.proofs.put_result.Goals as goal

pub returns-in-Ok-clause-res_len_bound : goal.returns-in-Ok-clause-res_len_bound
returns-in-Ok-clause-res_len_bound c =
    let r = c.in-Ok.answer in
    let eight : length r.numbers ≡ 8 = search rules in
    let each : (i : ℕ) → Fits w32 (get_or r.numbers i 0) = λ i. search rules in
    rw c.in-Ok.is (length-answer c.args.number 0 _ (omega (arith, eight, length-take r.length r.numbers)) (lit< tt) (front_below r.length r.numbers (λ i. omega (arith, each i))))

pub returns-in-Err-clause-res_len_bound : goal.returns-in-Err-clause-res_len_bound
returns-in-Err-clause-res_len_bound c =
    let is = c.number.ensures in
    rw c.in-Err.is (length-answer c.args.number _ _ (omega arith) (omega (arith, is.0, is.2)) none_below)
