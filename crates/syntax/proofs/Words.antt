-- A line taken word by word from the front gives its words.
use Prim.Native.Nat.{ℕ, suc, ◌+◌, ◌≤◌, ◌<◌}
use mathlib.Core.Path.{◌≡◌, refl, sym, ap, ◌∙◌}
use mathlib.Core.Bool.{Bool, true, false, cond}
use mathlib.Core.List.{List, [], ◌∷◌, ◌++◌}
use native.Mathlib.Numerals.{add-one}
use Rattle.std.specs.Bool.{MatchBool}
use Rattle.std.specs.List.{IsFirstMatchOrLen}
use Rattle.std.specs.Slice.Iter.{split_rest, split_done}
use Rattle.std.specs.declared.slice.Split.{Split}
use Rattle.std.proofs.lemmas.List.Sums.{position_or_len_is}
use Rattle.lists.proofs.Bytes.{length-position}
use native.Mathlib.Omega.{arith}
use native.Mathlib.Decide.{dec_lt}
use lib.Dec.{eqb, leb}
use borrow.Author.Tests.{le-leb, lt-leb}
use lib.ListN.{length, take, drop, length-drop, length-append}
use lib.Seq.{drop-drop, drop-append_seam, take-append_seam, take_all}
use Rattle.lists.specs.Lists.{to_first, length_before}
use Rattle.syntax.specs.Line.{words}

-- the words from byte i on; behind the last word there are none
unfoldable pub rest : List ℕ → ℕ → List (List ℕ)
rest s i = cond (leb i (length s)) (words (drop i s)) []

rest_in : (s : List ℕ) (i : ℕ) → i ≤ length s → rest s i ≡ words (drop i s)
unfolding rest
rest_in s i h = rw (le-leb i (length s) h)

pub rest_end : (s : List ℕ) (i : ℕ) → length s < i → rest s i ≡ []
unfolding rest
rest_end s i h = rw (lt-leb i (length s) h)

pub rest_all : (s : List ℕ) → rest s 0 ≡ words s
rest_all s = rest_in s 0 (omega arith)

-- a byte to_first changes nothing behind the first word
rest_cons : (b : ℕ) (s : List ℕ) (i : ℕ) → rest (b ∷ s) (suc i) ≡ rest s i
rest_cons b s i = go (dec_lt (length s) i)
  where
    go : Dec (length s < i) → rest (b ∷ s) (suc i) ≡ rest s i
    go (yes l) = rest_end (b ∷ s) (suc i) (omega arith) ∙ sym (rest_end s i l)
    go (no l) = rest_in (b ∷ s) (suc i) (omega arith) ∙ sym (rest_in s i (omega arith))

-- the first word, and the words behind the blank that ends it
pub words_first : (s : List ℕ) → words s ≡ take (length_before 32 s) s ∷ rest s (suc (length_before 32 s))
unfolding words length_before to_first
words_first [] = ap (λ ws. [] ∷ ws) (sym (rest_end [] 1 (omega arith)))
words_first (b ∷ s) = go (eqb b 32) refl (words_first s)
  where
    go : (t : Bool) → eqb b 32 ≡ t → words s ≡ take (length_before 32 s) s ∷ rest s (suc (length_before 32 s))
        → words (b ∷ s) ≡ take (length_before 32 (b ∷ s)) (b ∷ s) ∷ rest (b ∷ s) (suc (length_before 32 (b ∷ s)))
    go true e ih = rw e (ap (λ ws. [] ∷ ws) (sym (rest_cons b s 0 ∙ rest_all s)))
    go false e ih = rw (e, ih) (ap (λ ws. (b ∷ take (length_before 32 s) s) ∷ ws) (sym (rest_cons b s (suc (length_before 32 s)))))

rest_drop : (s : List ℕ) (i j : ℕ) → i ≤ length s → rest (drop i s) j ≡ rest s (i + j)
rest_drop s i j h = go (dec_lt (length s) (i + j))
  where
    go : Dec (length s < i + j) → rest (drop i s) j ≡ rest s (i + j)
    go (yes l) = rest_end (drop i s) j (omega (arith, length-drop i s)) ∙ sym (rest_end s (i + j) l)
    go (no l) = rest_in (drop i s) j (omega (arith, length-drop i s)) ∙ ap words (drop-drop j i s) ∙ sym (rest_in s (i + j) (omega arith))

-- one word more
pub rest_more : (s : List ℕ) (i n : ℕ) → i ≤ length s → n ≡ length_before 32 (drop i s) → rest s i ≡ take n (drop i s) ∷ rest s (i + suc n)
rest_more s i n h e = rw e (rest_in s i h ∙ words_first (drop i s) ∙ ap (λ ws. take (length_before 32 (drop i s)) (drop i s) ∷ ws) (rest_drop s i (suc (length_before 32 (drop i s))) h))

-- ---- the same by the library's `split`

-- the words that a split has left
abbrev pub left_by : {P : Type 0} → Split ℕ P → List (List ℕ)
left_by split = cond (split_done split) [] (words (split_rest split))

-- no byte before place n is a blank, and the byte at n is one, if there is one
length_first : (s : List ℕ) (n : ℕ) → n ≤ length s → IsFirstMatchOrLen (λ (b : ℕ). eqb b 32) s n → n ≡ length_before 32 s
length_first s n h f = sym (position_or_len_is (λ (b : ℕ). eqb b 32) s n 0 h (λ k l. f.0 k 0 (omega arith) l) (λ l. f.1 l 0)) ∙ sym (length-position 32 s)

-- the next word of a split, and the words behind it
pub next_left : (s w r : List ℕ) (done : Bool) → MatchBool done (s ≡ w) ((y : ℕ) × (s ≡ w ++ (y ∷ r))) → IsFirstMatchOrLen (λ (b : ℕ). eqb b 32) s (length w)
    → words s ≡ w ∷ cond done [] (words r)
next_left s w r true e f =
    let n : length w ≡ length_before 32 s = length_first s (length w) (omega (arith, ap length e)) f in
    words_first s ∙ rw (← n, e) (rw (take_all (length w) w (omega arith), rest_end w (suc (length w)) (omega arith)) refl)
next_left s w r false (y, e) f =
    let l : length s ≡ length w + suc (length r) = ap length e ∙ length-append w (y ∷ r) in
    let n : length w ≡ length_before 32 s = length_first s (length w) (omega (arith, l)) f in
    let d : drop (suc (length w)) (w ++ (y ∷ r)) ≡ r = sym (drop-drop 1 (length w) (w ++ (y ∷ r)) ∙ ap (λ (k : ℕ). drop k (w ++ (y ∷ r))) (add-one (length w))) ∙ ap (drop 1) (drop-append_seam w (y ∷ r)) in
    let t : take (length w) (w ++ (y ∷ r)) ≡ w = take-append_seam w (y ∷ r) in
    words_first s ∙ rw (← n) (rw (rest_in s (suc (length w)) (omega (arith, l))) (rw (e, t, d) refl))

pub split_step : {P : Type 0} (s t : Split ℕ P) (w : List ℕ) → split_done s ≡ false
    → MatchBool (split_done t) (split_rest s ≡ w) ((y : ℕ) × (split_rest s ≡ w ++ (y ∷ split_rest t)))
    → IsFirstMatchOrLen (λ (b : ℕ). eqb b 32) (split_rest s) (length w) → left_by s ≡ w ∷ left_by t
split_step s t w d e f = rw d (next_left (split_rest s) w (split_rest t) (split_done t) e f)

-- a line has at most one word more than bytes
pub words_most : (s : List ℕ) → length (words s) ≤ length s + 1
unfolding words to_first
words_most [] = omega arith
words_most (b ∷ s) = go (eqb b 32) (words s) (words_most s)
  where
    go : (t : Bool) (ws : List (List ℕ)) → length ws ≤ length s + 1 → length (cond t ([] ∷ ws) (to_first b ws)) ≤ suc (length s) + 1
    go true ws h = omega arith
    go false [] h = omega arith
    go false (w ∷ ws) h = omega arith
