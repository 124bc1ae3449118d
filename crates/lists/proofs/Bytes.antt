-- The length before a byte.
use Prim.Native.Nat.{ℕ, suc, ◌+◌, ◌≤◌, ◌<◌}
use mathlib.Core.Path.{◌≡◌, refl, sym, ◌∙◌}
use mathlib.Core.Bool.{Bool, true, false, cond, not, true≢false}
use Rattle.std.specs.List.{position, position_or_len}
use Rattle.std.specs.Option.{unwrap_or}
use native.Mathlib.Decide.{dec_lt}
use mathlib.Core.List.{List, [], ◌∷◌, ◌++◌}
use native.Mathlib.Nat.{zero-add}
use native.Mathlib.Omega.{arith}
use borrow.Author.Tests.{lt-ltb, le-ltb}
use lib.Dec.{eqb}
use lib.ListN.{length, drop}
use lib.Seq.{drop-append_seam, drop-drop}
use Rattle.lists.specs.Lists.{every, length_before}

-- ---- the length before a byte

pub length_before_most : (b : ℕ) (bs : List ℕ) → length_before b bs ≤ length bs
unfolding length_before
length_before_most b [] = omega arith
length_before_most b (x ∷ bs) = go (eqb x b) (length_before_most b bs)
  where
    go : (t : Bool) → length_before b bs ≤ length bs → cond t 0 (suc (length_before b bs)) ≤ suc (length bs)
    go true ih = omega arith
    go false ih = omega arith

-- the place of the first, or the length
pub length-position : (b : ℕ) (s : List ℕ) → length_before b s ≡ position_or_len (λ (x : ℕ). eqb x b) s
unfolding length_before
length-position b [] = refl
length-position b (x ∷ s) = go (eqb x b) (length-position b s)
  where
    go : (t : Bool) → length_before b s ≡ position_or_len (λ (y : ℕ). eqb y b) s
        → cond t 0 (suc (length_before b s)) ≡ cond (not t) (1 + position_or_len (λ (y : ℕ). eqb y b) s) 0
    go true ih = refl
    go false ih = omega (arith, ih)

pub length_found : (b : ℕ) (s : List ℕ) → unwrap_or (position (λ (x : ℕ). eqb x b) s) (length s) ≡ length_before b s
length_found b s = go (dec_lt (length_before b s) (length s))
  where
    most : length_before b s ≤ length s
    most = length_before_most b s

    go : Dec (length_before b s < length s) → unwrap_or (position (λ (x : ℕ). eqb x b) s) (length s) ≡ length_before b s
    go (yes l) = rw (← length-position b s, lt-ltb (length_before b s) (length s) l)
    go (no l) = rw (← length-position b s, le-ltb (length_before b s) (length s) (omega (arith, l))) (omega (arith, l, most))

-- bytes that are all others are passed at once
length-behind : (b : ℕ) (xs ys : List ℕ) → every (λ (x : ℕ). not (eqb x b)) xs ≡ true → length_before b (xs ++ ys) ≡ length xs + length_before b ys
unfolding every length_before
length-behind b [] ys e = sym (zero-add (length_before b ys))
length-behind b (x ∷ xs) ys e = go (eqb x b) refl (length-behind b xs ys)
  where
    go : (t : Bool) → eqb x b ≡ t → (every (λ (y : ℕ). not (eqb y b)) xs ≡ true → length_before b (xs ++ ys) ≡ length xs + length_before b ys)
        → length_before b (x ∷ xs ++ ys) ≡ suc (length xs) + length_before b ys
    go true p ih = absurd (true≢false (sym (rw p at e)))
    go false p ih = rw p (omega (arith, ih (rw p at e)))

-- a block of other bytes is passed, of what is left behind `passed` bytes
pub block_passed : (b : ℕ) (s block rest : List ℕ) (passed n t : ℕ) → passed ≤ length s → drop passed s ≡ block ++ rest → length block ≡ n
    → every (λ (x : ℕ). not (eqb x b)) block ≡ true → passed + length_before b (drop passed s) ≡ t
    → (rest ≡ drop (passed + n) s) × ((passed + n) + length_before b (drop (passed + n) s) ≡ t)
block_passed b s block rest passed n t h e l k inv =
    let r : rest ≡ drop (passed + n) s = sym (drop-append_seam block rest) ∙ rw (l, ← e) (drop-drop n passed s) in
    let j : length_before b (drop passed s) ≡ length block + length_before b rest = rw e (length-behind b block rest k) in
    (r, rw (← r) (omega (arith, j, l, inv)))
