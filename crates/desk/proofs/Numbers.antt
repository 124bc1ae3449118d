-- Words read one by one as numbers.
use Prim.Native.Nat.{ℕ, suc, ◌+◌, ◌-◌, ◌≤◌, ◌<◌}
use mathlib.Core.Path.{◌≡◌, refl, ap, ◌∙◌}
use mathlib.Core.List.{List, [], ◌∷◌, ◌++◌, append_assoc, append-nil}
use Rattle.std.proofs.Common.{Option, Some, None}
use Rattle.std.specs.Option.{option_map}
use native.Mathlib.Numerals.{add-one}
use native.Mathlib.Omega.{arith}
use lib.ListN.{length, set, take, drop, length-take, length-drop}
use lib.Seq.{take_all, take-suc-set}
use Rattle.lists.specs.Lists.{length_before}
use Rattle.text.specs.Decimal.{number_in}
use Rattle.syntax.specs.Line.{values_of}
use Rattle.syntax.proofs.Words.{rest, rest_more, rest_end}
use Rattle.desk.specs.Desk.{fields_of}

-- a number has a digit
some-digit : (w : List ℕ) (v : ℕ) → Some v ≡ number_in w → 1 ≤ length w
unfolding number_in
some-digit [] v e = cc
some-digit (b ∷ w) v e = omega arith

-- the numbers that stand, and those of the words from a byte on
abbrev pub numbers_from : (line numbers : List ℕ) → ℕ → ℕ → Option (List ℕ)
numbers_from line numbers count at = option_map (λ (vs : List ℕ). take count numbers ++ vs) (values_of (fields_of (rest line at)))

stored : (numbers : List ℕ) (count v : ℕ) (o : Option (List ℕ)) → count < length numbers
    → option_map (λ (vs : List ℕ). take (count + 1) (set numbers count v) ++ vs) o
    ≡ option_map (λ (vs : List ℕ). take count numbers ++ vs) (option_map (λ (vs : List ℕ). v ∷ vs) o)
stored numbers count v None l = refl
stored numbers count v (Some vs) l = ap Some (rw (add-one count, take-suc-set numbers count v l) (append_assoc (take count numbers) (v ∷ []) vs))

-- one word more
module _ (line : List ℕ) (at n : ℕ) (h : at ≤ length line) (e : n ≡ length_before 32 (take (length line - at) (drop at line))) where
  abbrev word : List ℕ
  word = take (at + n - at) (drop at line)

  next : rest line at ≡ word ∷ rest line (at + n + 1)
  next =
      let k : at + n + 1 ≡ at + suc n = omega arith in
      let m : at + n - at ≡ n = omega arith in
      let f : n ≡ length_before 32 (drop at line) = e ∙ ap (length_before 32) (take_all (length line - at) (drop at line) (omega (arith, length-drop at line))) in
      rw (k, m) (rest_more line at n h f)

  pub read_some : (v : ℕ) → Some v ≡ number_in word → 1 ≤ n
  read_some v p = omega (arith, length-take (at + n - at) (drop at line), some-digit word v p)

  pub read_bad : (numbers : List ℕ) (count : ℕ) (t : Option (List ℕ)) → None ≡ number_in word → numbers_from line numbers count at ≡ t → None ≡ t
  unfolding values_of
  read_bad numbers count t p i = rw (next, ← p) at i

  pub read_more : (numbers : List ℕ) (count v : ℕ) (t : Option (List ℕ)) → count < length numbers → Some v ≡ number_in word → numbers_from line numbers count at ≡ t
      → numbers_from line (set numbers count v) (count + 1) (at + n + 1) ≡ t
  unfolding values_of
  read_more numbers count v t l p i = stored numbers count v _ l ∙ (rw (next, ← p) at i)

-- all words have been read
pub values-end : (line numbers : List ℕ) (count at : ℕ) (t : Option (List ℕ)) → length line < at → numbers_from line numbers count at ≡ t → Some (take count numbers) ≡ t
unfolding values_of
values-end line numbers count at t h i = rw append-nil at (rw (rest_end line at h) at i)
