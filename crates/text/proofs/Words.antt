-- A word that is read digit by digit is `number_in`.
use Prim.Native.Nat.{ℕ, suc, ◌+◌, ◌*◌, ◌-◌, ◌≤◌, ◌<◌}
use mathlib.Core.Path.{◌≡◌, refl, sym, ap, ◌∙◌}
use mathlib.Core.Bool.{Bool, true, false, cond}
use mathlib.Core.List.{List, [], ◌∷◌}
use Rattle.std.proofs.Common.{Option, Some, None}
use Rattle.std.specs.Option.{option_and_then}
use native.Mathlib.Numerals.{add-one}
use native.Mathlib.Omega.{arith}
use native.Mathlib.Decide.{dec_lt}
use lib.Dec.{leb, ltb}
use borrow.Author.Tests.{le-ltb, lt-ltb, le-leb, lt-leb, ne_eqb}
use lib.ListN.{length, get_or, drop, drop_of_length-le}
use lib.Seq.{drop-cons}
use Rattle.lists.specs.Lists.{every}
use Rattle.text.specs.Decimal.{most_digits, too_large, digit_byte, value_from, value_of, number_in, no_digits, with_digit, with_digits, number_read}
use Rattle.text.specs.declared.DigitsRead.{DigitsRead}

abbrev read : ℕ → ℕ → DigitsRead
read n v = record { count = n; value = v }

-- what n digits of value v and then these bytes give
abbrev read_of : ℕ → ℕ → List ℕ → Option DigitsRead
read_of n v w =
    cond (ltb most_digits (n + length w)) None
    (cond (every digit_byte w)
    (cond (leb too_large (value_from v w)) None (Some (read (n + length w) (value_from v w))))
    None)

value_grows : (v : ℕ) (w : List ℕ) → v ≤ value_from v w
unfolding value_from
value_grows v [] = omega arith
value_grows v (b ∷ w) = omega (arith, value_grows (v * 10 + (b - 48)) w)

same : {A : Type 0} (t : Bool) (x : A) → cond t x x ≡ x
same true x = refl
same false x = refl

read_on : (n v : ℕ) (w : List ℕ) → n ≤ most_digits → v < too_large → with_digits (read n v) w ≡ read_of n v w
unfolding with_digits with_digit value_from every
read_on n v [] h l = let e : n + 0 ≡ n = omega arith in rw (e, le-ltb most_digits n h, lt-leb too_large v l) refl
read_on n v (b ∷ w) h l = go (digit_byte b) refl (dec_lt n most_digits) (dec_lt (v * 10 + (b - 48)) too_large) (read_on (n + 1) (v * 10 + (b - 48)) w)
  where
    go : (t : Bool) → digit_byte b ≡ t → Dec (n < most_digits) → Dec (v * 10 + (b - 48) < too_large)
        → (n + 1 ≤ most_digits → v * 10 + (b - 48) < too_large → with_digits (read (n + 1) (v * 10 + (b - 48))) w ≡ read_of (n + 1) (v * 10 + (b - 48)) w)
        → with_digits (read n v) (b ∷ w) ≡ read_of n v (b ∷ w)
    go false e _ _ ih = rw e (sym (same (ltb most_digits (n + suc (length w))) None))
    go true e (no m) _ ih = rw (e, le-leb most_digits n (omega (arith, m)), lt-ltb most_digits (n + suc (length w)) (omega (arith, m))) refl
    go true e (yes m) (no k) ih =
        rw (
          e,
          lt-leb most_digits n m,
          le-leb too_large (v * 10 + (b - 48)) (omega (arith, k)),
          le-leb too_large (value_from (v * 10 + (b - 48)) w) (omega (arith, k, value_grows (v * 10 + (b - 48)) w)),
        )
        (sym (ap (cond (ltb most_digits (n + suc (length w))) None) (same (every digit_byte w) None) ∙ same (ltb most_digits (n + suc (length w))) None))
    go true e (yes m) (yes k) ih =
        let s : n + suc (length w) ≡ n + 1 + length w = omega arith in
        rw (e, lt-leb most_digits n m, lt-leb too_large (v * 10 + (b - 48)) k, s) (ih (omega (arith, m)) k)

-- the number of what has been read, by the tests of `number_in`
number_of : (n v : ℕ) (long digits large : Bool)
    → option_and_then number_read (cond long None (cond digits (cond large None (Some (read (suc n) v))) None))
    ≡ cond long None (cond digits (cond large None (Some v)) None)
unfolding number_read
number_of n v true digits large = refl
number_of n v false false large = refl
number_of n v false true true = refl
number_of n v false true false = rw (ne_eqb (suc n) 0 (λ e. omega (arith, e))) refl

some_bytes : (b : ℕ) (w : List ℕ)
    → number_in (b ∷ w)
    ≡ cond (ltb most_digits (suc (length w))) None
    (cond (every digit_byte (b ∷ w)) (cond (leb too_large (value_of (b ∷ w))) None (Some (value_of (b ∷ w)))) None)
unfolding number_in
some_bytes b w = rw (ne_eqb (suc (length w)) 0 (λ e. omega (arith, e))) refl

pub read_word : (w : List ℕ) → option_and_then number_read (with_digits no_digits w) ≡ number_in w
unfolding with_digits number_read number_in
read_word [] = refl
read_word (b ∷ w) =
    let n : 0 + suc (length w) ≡ suc (length w) = omega arith in
    ap (option_and_then number_read) (read_on 0 0 (b ∷ w) (omega arith) (omega arith))
    ∙ (rw n (number_of (length w) (value_of (b ∷ w)) (ltb most_digits (suc (length w))) (every digit_byte (b ∷ w)) (leb too_large (value_of (b ∷ w)))))
    ∙ sym (some_bytes b w)

-- ---- the loop over digits

module _ (s : DigitsRead) (w : List ℕ) (i : ℕ) (e : with_digits s (drop i w) ≡ with_digits no_digits w) where
  pub digits_more : (r : DigitsRead) → i < length w → Some r ≡ with_digit s (get_or w i 0) → with_digits r (drop (i + 1) w) ≡ with_digits no_digits w
  unfolding with_digits
  digits_more r h p = rw add-one (rw (drop-cons w i 0 h, ← p) at e)

  pub digits_stop : i < length w → None ≡ with_digit s (get_or w i 0) → None ≡ number_in w
  unfolding with_digits
  digits_stop h p =
      let n : None ≡ with_digits no_digits w = rw (drop-cons w i 0 h, ← p) at e in
      ap (option_and_then number_read) n ∙ read_word w

  pub digits-done : length w ≤ i → number_read s ≡ number_in w
  unfolding with_digits
  digits-done h =
      let n : Some s ≡ with_digits no_digits w = rw (drop_of_length-le w h) at e in
      ap (option_and_then number_read) n ∙ read_word w
