-- The length of an output line.
use Prim.Native.Nat.{ℕ, ◌≤◌, ◌<◌}
use mathlib.Core.Bool.{Bool, true, false, cond}
use mathlib.Core.List.{List, [], ◌∷◌, ◌++◌}
use native.Mathlib.Omega.{arith}
use lib.Dec.{eqb}
use lib.ListN.{length, get_or, length-append}
use Rattle.text.specs.Decimal.{too_large}
use Rattle.text.specs.Text.{decimal, numbers_text}
use Rattle.text.proofs.Decimals.{length-decimal, length_decimal_32, length-numbers}
use Rattle.syntax.specs.Answer.{refusal_text, answer_part, answer_text}

-- no output line is longer
pub length-answer : (number refused : ℕ) (ns : List ℕ) → length ns ≤ 8 → refused < too_large → ((i : ℕ) → get_or ns i 0 < too_large)
    → length (answer_text number refused ns) ≤ 112
unfolding answer_text answer_part refusal_text
length-answer number refused ns h l m = go (eqb refused 0)
  where
    go : (t : Bool) → length (decimal number ++ cond t (numbers_text ns) (refusal_text refused) ++ 10 ∷ []) ≤ 112
    go true =
        omega (
          arith,
          h,
          length-append (decimal number ++ numbers_text ns) (10 ∷ []),
          length-append (decimal number) (numbers_text ns),
          length-decimal number,
          length-numbers ns m,
        )
    go false =
        omega (
          arith,
          length-append (decimal number ++ 32 ∷ 33 ∷ decimal refused) (10 ∷ []),
          length-append (decimal number) (32 ∷ 33 ∷ decimal refused),
          length-decimal number,
          length_decimal_32 refused l,
        )
