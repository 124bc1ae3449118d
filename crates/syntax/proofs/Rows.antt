-- A list in an array of a fixed length: one number more behind its last.
use Prim.Native.Nat.{ℕ, ◌<◌}
use mathlib.Core.Path.{◌≡◌, sym, ◌∙◌}
use mathlib.Core.List.{List, [], ◌∷◌, ◌++◌}
use native.Mathlib.Omega.{arith}
use native.Mathlib.Decide.{dec_lt}
use lib.ListN.{length, get_or, set, length-set, length-append, get_or-append, get_or-eq_default}
use lib.Seq.{ext_get_or, get_or-set_same, get_or-set_other, get_or-append_seam}
use Rattle.lists.proofs.Lists.{length-list_from, get_d_list_to, list_to_cong}
use Rattle.syntax.specs.Rows.{row}

pub length-row : (n : ℕ) (xs : List ℕ) → length (row n xs) ≡ n
unfolding row
length-row n xs = length-list_from 0 n _

pub get_d_row : (n : ℕ) (xs : List ℕ) (i : ℕ) → i < n → get_or (row n xs) i 0 ≡ get_or xs i 0
unfolding row
get_d_row n xs i h = get_d_list_to n (λ (k : ℕ). get_or xs k 0) i 0 h

pub row_cong : (n : ℕ) (xs ys : List ℕ) → ((i : ℕ) → i < n → get_or xs i 0 ≡ get_or ys i 0) → row n xs ≡ row n ys
unfolding row
row_cong n xs ys e = list_to_cong n (λ (k : ℕ). get_or xs k 0) (λ (k : ℕ). get_or ys k 0) e

-- behind the last number is 0
snoc_other : (xs : List ℕ) (v i : ℕ) → (i ≡ length xs → ⊥) → get_or (xs ++ v ∷ []) i 0 ≡ get_or xs i 0
snoc_other xs v i h = go (dec_lt i (length xs))
  where
    go : Dec (i < length xs) → get_or (xs ++ v ∷ []) i 0 ≡ get_or xs i 0
    go (yes l) = get_or-append xs (v ∷ []) 0 i l
    go (no l) =
        let ne : i ≡ length xs → ⊥ = h in
        get_or-eq_default (xs ++ v ∷ []) 0 (omega (arith, length-append xs (v ∷ []), ne))
        ∙ sym (get_or-eq_default xs 0 (omega arith))

pub set-row : (n : ℕ) (xs : List ℕ) (v : ℕ) → set (row n xs) (length xs) v ≡ row n (xs ++ v ∷ [])
set-row n xs v =
    ext_get_or 0 _ _ (length-set (row n xs) (length xs) v ∙ length-row n xs ∙ sym (length-row n (xs ++ v ∷ [])))
    (λ i l. at i (omega (arith, l, length-set (row n xs) (length xs) v, length-row n xs)))
  where
    at : (i : ℕ) → i < n → get_or (set (row n xs) (length xs) v) i 0 ≡ get_or (row n (xs ++ v ∷ [])) i 0
    at i l = rw (get_d_row n (xs ++ v ∷ []) i l) (go (dec_lt i (length xs)) (dec_lt (length xs) i))
      where
        other : (i ≡ length xs → ⊥) → get_or (set (row n xs) (length xs) v) i 0 ≡ get_or (xs ++ v ∷ []) i 0
        other e = get_or-set_other (row n xs) (length xs) i v 0 e ∙ get_d_row n xs i l ∙ sym (snoc_other xs v i e)

        go : Dec (i < length xs) → Dec (length xs < i) → get_or (set (row n xs) (length xs) v) i 0 ≡ get_or (xs ++ v ∷ []) i 0
        go (yes a) _ = other (λ e. omega (arith, a, e))
        go (no a) (yes b) = other (λ e. omega (arith, b, e))
        go (no a) (no b) =
            let e : i ≡ length xs = omega (arith, a, b) in
            rw e (get_or-set_same (row n xs) (length xs) v 0 (omega (arith, l, e, length-row n xs)) ∙ sym (get_or-append_seam xs v [] 0))
