-- A number that is written in decimal is read as itself.
use Prim.Native.Nat.{ℕ, zero, suc, ◌+◌, ◌*◌, ◌-◌, ◌/◌, ◌%◌, ◌<◌}
use mathlib.Core.Path.{◌≡◌, refl, ap, ◌∙◌}
use mathlib.Core.Bool.{true}
use mathlib.Core.List.{List, [], ◌∷◌, ◌++◌}
use Rattle.std.proofs.Common.{Some}
use native.Mathlib.Omega.{arith}
use native.Mathlib.Decide.{dec_lt}
use borrow.Author.Tests.{le-ltb, lt-leb, le-leb, ne_eqb}
use lib.ListN.{length, length-append}
use Rattle.lists.specs.Lists.{every}
use Rattle.lists.proofs.Every.{every_append}
use Rattle.text.specs.Decimal.{digit_byte, value_from, value_of, most_digits, too_large, number_in}
use Rattle.text.specs.Text.{decimal_in, decimal, last_digit}
use Rattle.text.proofs.Decimals.{tens, decimal-none, decimal-below, decimal-more, length_decimal_32}

value_append : (v : ℕ) (xs ys : List ℕ) → value_from v (xs ++ ys) ≡ value_from (value_from v xs) ys
unfolding value_from
value_append v [] ys = refl
value_append v (x ∷ xs) ys = value_append (v * 10 + (x - 48)) xs ys

value-last : (v n : ℕ) → value_from v (last_digit n ∷ []) ≡ v * 10 + n % 10
unfolding value_from
value-last v n = let s : last_digit n - 48 ≡ n % 10 = omega arith in ap (λ (d : ℕ). v * 10 + d) s

last-digit : (n : ℕ) → every digit_byte (last_digit n ∷ []) ≡ true
unfolding every digit_byte
last-digit n = rw (le-leb 48 (last_digit n) (omega arith), le-leb (last_digit n) 57 (omega arith)) refl

-- what holds of a number of one digit, and of one more digit, holds of all decimals
value-decimal : (k n : ℕ) → n < tens k → value_of (decimal_in k n) ≡ n
unfolding tens
value-decimal zero n h = ap value_of (decimal-none n) ∙ value-last 0 n ∙ omega (arith, h)
value-decimal (suc k) n h = go (dec_lt n 10) (value-decimal k (n / 10))
  where
    go : Dec (n < 10) → (n / 10 < tens k → value_of (decimal_in k (n / 10)) ≡ n / 10) → value_of (decimal_in (suc k) n) ≡ n
    go (yes l) ih = ap value_of (decimal-below (suc k) n l) ∙ value-last 0 n ∙ omega (arith, l)
    go (no l) ih =
        let p : suc k - 1 ≡ k = omega arith in
        ap value_of (rw p at (decimal-more (suc k) n (λ e. omega (arith, e)) (omega (arith, l))))
        ∙ value_append 0 (decimal_in k (n / 10)) (last_digit n ∷ [])
        ∙ value-last (value_of (decimal_in k (n / 10))) n
        ∙ omega (arith, ih (omega (arith, h)))

digits_decimal : (k n : ℕ) → every digit_byte (decimal_in k n) ≡ true
digits_decimal zero n = ap (every digit_byte) (decimal-none n) ∙ last-digit n
digits_decimal (suc k) n = go (dec_lt n 10) (digits_decimal k (n / 10))
  where
    go : Dec (n < 10) → every digit_byte (decimal_in k (n / 10)) ≡ true → every digit_byte (decimal_in (suc k) n) ≡ true
    go (yes l) ih = ap (every digit_byte) (decimal-below (suc k) n l) ∙ last-digit n
    go (no l) ih =
        let p : suc k - 1 ≡ k = omega arith in
        ap (every digit_byte) (rw p at (decimal-more (suc k) n (λ e. omega (arith, e)) (omega (arith, l))))
        ∙ every_append digit_byte (decimal_in k (n / 10)) (last_digit n ∷ []) ih (last-digit n)

some-digit : (k n : ℕ) → 0 < length (decimal_in k n)
some-digit zero n = let e : length (decimal_in 0 n) ≡ 1 = ap length (decimal-none n) in omega (arith, e)
some-digit (suc k) n = go (dec_lt n 10)
  where
    go : Dec (n < 10) → 0 < length (decimal_in (suc k) n)
    go (yes l) = let e : length (decimal_in (suc k) n) ≡ 1 = ap length (decimal-below (suc k) n l) in omega (arith, e)
    go (no l) =
        let e : length (decimal_in (suc k) n) ≡ length (decimal_in (suc k - 1) (n / 10) ++ last_digit n ∷ []) =
        ap length (decimal-more (suc k) n (λ z. omega (arith, z)) (omega (arith, l))) in
        omega (arith, e, length-append (decimal_in (suc k - 1) (n / 10)) (last_digit n ∷ []))

-- "Numbers are unsigned decimals of 1 to 10 digits, at most 2^32 − 1": each such number is read from its decimal
pub read_decimal : (n : ℕ) → n < too_large → number_in (decimal n) ≡ Some n
unfolding number_in decimal tens
read_decimal n h =
    let v : value_of (decimal_in 19 n) ≡ n = value-decimal 19 n (omega (arith, h)) in
    rw (
      ne_eqb (length (decimal_in 19 n)) 0 (λ e. omega (arith, e, some-digit 19 n)),
      le-ltb most_digits (length (decimal_in 19 n)) (length_decimal_32 n h),
      digits_decimal 19 n,
      v,
      lt-leb too_large n h,
    ) refl
