-- The lines of an input whose first bytes have been read.
use Prim.Native.Nat.{ℕ, suc, ◌≤◌, ◌<◌}
use mathlib.Core.Path.{◌≡◌, refl, ap}
use mathlib.Core.Bool.{Bool, true, false, cond}
use mathlib.Core.List.{List, [], ◌∷◌, ◌++◌}
use native.Mathlib.Omega.{arith}
use lib.Dec.{eqb}
use lib.ListN.{length, take, drop}
use Rattle.lists.specs.Lists.{to_first, length_before}
use Rattle.stream.specs.Input.{lines_of}

-- the lines with these bytes put in front of the first
unfoldable pub onto : List ℕ → List (List ℕ) → List (List ℕ)
onto [] ls = ls
onto (b ∷ bs) ls = to_first b (onto bs ls)

pub onto_append : (xs ys : List ℕ) (ls : List (List ℕ)) → onto (xs ++ ys) ls ≡ onto xs (onto ys ls)
unfolding onto
onto_append [] ys ls = refl
onto_append (x ∷ xs) ys ls = ap (to_first x) (onto_append xs ys ls)

-- in front of a line
pub onto_line : (xs l : List ℕ) (ls : List (List ℕ)) → onto xs (l ∷ ls) ≡ (xs ++ l) ∷ ls
unfolding onto to_first
onto_line [] l ls = refl
onto_line (x ∷ xs) l ls = ap (to_first x) (onto_line xs l ls)

-- in front of none: a line of their own, if there are any
pub onto-none : (x : ℕ) (xs : List ℕ) → onto (x ∷ xs) [] ≡ (x ∷ xs) ∷ []
unfolding onto to_first
onto-none x [] = refl
onto-none x (y ∷ xs) = ap (to_first x) (onto-none y xs)

-- bytes with a line end among them: they end a line
pub lines_ended : (bs rest : List ℕ) → length_before 10 bs < length bs → lines_of (bs ++ rest) ≡ onto (take (length_before 10 bs) bs) ([] ∷ lines_of (drop (suc (length_before 10 bs)) bs ++ rest))
unfolding length_before lines_of onto
lines_ended [] rest h = absurd (omega arith)
lines_ended (b ∷ bs) rest h = go (eqb b 10) refl h (lines_ended bs rest)
  where
    go : (t : Bool) → eqb b 10 ≡ t → cond t 0 (suc (length_before 10 bs)) < suc (length bs)
        → (length_before 10 bs < length bs → lines_of (bs ++ rest) ≡ onto (take (length_before 10 bs) bs) ([] ∷ lines_of (drop (suc (length_before 10 bs)) bs ++ rest)))
        → lines_of (b ∷ (bs ++ rest)) ≡ onto (take (length_before 10 (b ∷ bs)) (b ∷ bs)) ([] ∷ lines_of (drop (suc (length_before 10 (b ∷ bs))) (b ∷ bs) ++ rest))
    go true e l ih = rw e refl
    go false e l ih = rw e (ap (to_first b) (ih (omega arith)))

-- bytes without one are the start of a line
pub lines_open : (bs rest : List ℕ) → length bs ≤ length_before 10 bs → lines_of (bs ++ rest) ≡ onto bs (lines_of rest)
unfolding length_before lines_of onto
lines_open [] rest h = refl
lines_open (b ∷ bs) rest h = go (eqb b 10) refl h (lines_open bs rest)
  where
    go : (t : Bool) → eqb b 10 ≡ t → suc (length bs) ≤ cond t 0 (suc (length_before 10 bs))
        → (length bs ≤ length_before 10 bs → lines_of (bs ++ rest) ≡ onto bs (lines_of rest)) → lines_of (b ∷ (bs ++ rest)) ≡ onto (b ∷ bs) (lines_of rest)
    go true e l ih = absurd (omega arith)
    go false e l ih = rw e (ap (to_first b) (ih (omega arith)))
