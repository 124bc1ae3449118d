-- Decimals: from their last digit, and how many digits they have.
use Prim.Native.Nat.{ℕ, zero, suc, ◌+◌, ◌*◌, ◌-◌, ◌/◌, ◌≤◌, ◌<◌}
use mathlib.Core.Path.{◌≡◌, refl, sym, ◌∙◌}
use mathlib.Core.Bool.{Bool, true, false, cond}
use mathlib.Core.List.{List, [], ◌∷◌, ◌++◌, append-nil, append_assoc}
use native.Mathlib.Omega.{arith}
use lib.Dec.{ltb}
use borrow.Author.Tests.{lt-ltb, le-ltb}
use lib.ListN.{length, get_or, set, drop, length-append, drop_of_length-le}
use Rattle.std.proofs.lemmas.List.{drop-set}
use Rattle.text.specs.Decimal.{too_large}
use Rattle.text.specs.Text.{decimal_in, decimal, last_digit, numbers_text}

pub decimal-none : (n : ℕ) → decimal_in 0 n ≡ last_digit n ∷ []
unfolding decimal_in
decimal-none n = refl

pub decimal-below : (k n : ℕ) → n < 10 → decimal_in k n ≡ last_digit n ∷ []
unfolding decimal_in
decimal-below zero n l = refl
decimal-below (suc k) n l = rw (lt-ltb n 10 l) refl

-- a number of more than one digit
pub decimal-more : (k n : ℕ) → (k ≡ 0 → ⊥) → 10 ≤ n → decimal_in k n ≡ decimal_in (k - 1) (n / 10) ++ last_digit n ∷ []
unfolding decimal_in
decimal-more zero n h l = absurd (h refl)
decimal-more (suc k) n h l = let e : suc k - 1 ≡ k = omega arith in rw (e, le-ltb n 10 l) refl

-- the digits from place k on, where what is left of the number is n
module _ (digits : List ℕ) (k n number : ℕ) (some : 1 ≤ k) (long : k ≤ length digits) (written : decimal_in (k - 1) n ++ drop k digits ≡ decimal number) where
  one_more : drop (k - 1) (set digits (k - 1) (last_digit n)) ≡ last_digit n ∷ drop k digits
  one_more =
      let e : k - 1 + 1 ≡ k = omega arith in
      rw e at (drop-set digits (k - 1) (last_digit n) (omega arith))

  -- its last digit is its first
  pub digit_last : decimal_in (k - 1) n ≡ last_digit n ∷ [] → drop (k - 1) (set digits (k - 1) (last_digit n)) ≡ decimal number
  digit_last e = one_more ∙ rw e at written

  pub digit_more : 1 < k → 10 ≤ n → decimal_in (k - 1 - 1) (n / 10) ++ drop (k - 1) (set digits (k - 1) (last_digit n)) ≡ decimal number
  digit_more h l =
      rw one_more
      (sym (append_assoc (decimal_in (k - 1 - 1) (n / 10)) (last_digit n ∷ []) (drop k digits)) ∙ rw (decimal-more (k - 1) n (λ z. omega (arith, z)) l) at written)

pub digits_none : (digits : List ℕ) (number : ℕ) → length digits ≡ 20 → decimal_in 19 number ++ drop 20 digits ≡ decimal number
unfolding decimal
digits_none digits number e = rw (drop_of_length-le digits {i = 20} (omega (arith, e))) (append-nil (decimal_in 19 number))

-- 10^(k + 1)
unfoldable pub tens : ℕ → ℕ
tens zero = 10
tens (suc k) = tens k * 10

length-decimal_in : (k n : ℕ) → length (decimal_in k n) ≤ suc k
unfolding decimal_in
length-decimal_in zero n = omega arith
length-decimal_in (suc k) n = go (ltb n 10) (length-decimal_in k (n / 10))
  where
    go : (t : Bool) → length (decimal_in k (n / 10)) ≤ suc k → length (cond t (last_digit n ∷ []) (decimal_in k (n / 10) ++ last_digit n ∷ [])) ≤ suc (suc k)
    go true ih = omega arith
    go false ih = omega (arith, ih, length-append (decimal_in k (n / 10)) (last_digit n ∷ []))

-- a number below 10^(j + 1) has at most j + 1 digits
length-below : (k j n : ℕ) → n < tens j → length (decimal_in k n) ≤ suc j
unfolding decimal_in tens
length-below zero j n h = omega arith
length-below (suc k) zero n h = rw (lt-ltb n 10 h) (omega arith)
length-below (suc k) (suc j) n h = go (ltb n 10) (length-below k j (n / 10) (omega (arith, h)))
  where
    go : (t : Bool) → length (decimal_in k (n / 10)) ≤ suc j → length (cond t (last_digit n ∷ []) (decimal_in k (n / 10) ++ last_digit n ∷ [])) ≤ suc (suc j)
    go true ih = omega arith
    go false ih = omega (arith, ih, length-append (decimal_in k (n / 10)) (last_digit n ∷ []))

pub length-decimal : (n : ℕ) → length (decimal n) ≤ 20
unfolding decimal
length-decimal n = length-decimal_in 19 n

pub length_decimal_32 : (n : ℕ) → n < too_large → length (decimal n) ≤ 10
unfolding decimal tens
length_decimal_32 n h = length-below 19 9 n (omega (arith, h))

-- numbers of 32 bits
pub length-numbers : (ns : List ℕ) → ((i : ℕ) → get_or ns i 0 < too_large) → length (numbers_text ns) ≤ length ns * 11
unfolding numbers_text
length-numbers [] h = omega arith
length-numbers (n ∷ ns) h =
    omega (arith, length-append (decimal n) (numbers_text ns), length_decimal_32 n (h 0), length-numbers ns (λ i. h (suc i)))
