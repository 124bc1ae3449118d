-- The keys of a side: the test of all of them, and a number for each column.
use mathlib.Core.Path.{◌≡◌, refl, sym}
use mathlib.Core.Bool.{Bool, true, false}
use mathlib.Core.List.{List, [], ◌∷◌, ◌++◌}
use Prim.Native.Nat.{ℕ, suc}
use native.Mathlib.Omega.{arith}
use Rattle.std.proofs.lemmas.List.{append-nil}
use borrow.Rule.Slice.PartMut.{post_of}
use lib.ListN.{length, get_or, take, drop, drop_of_length-le}
use Rattle.std.proofs.Math.Seq.{take-append_seam, drop-append_seam}
use Rattle.std.specs.Prelude.{IsTrue, EachIndex, ◌↔◌}
use Rattle.lists.specs.Lists.{every}
use Rattle.lists.proofs.Every.{every-all, every-at}

-- what an iterator's `all` finds of a list is the test of every member
pub every-is : (f : ℕ → Bool) (xs : List ℕ) (b : Bool) → (IsTrue b ↔ EachIndex xs (λ k. f (get_or xs k 0) ≡ true)) → b ≡ every f xs
every-is f xs true e = sym (every-all f xs 0 (λ j h. e.0 refl j h))
every-is f xs false e = by (every f xs) refl
  where
    by : (v : Bool) → every f xs ≡ v → false ≡ v
    by true h = e.1 (λ k l. every-at f xs k 0 h l)
    by false h = refl

-- a number in front, and two lists of k numbers copied behind it
pub columns_are : (k x : ℕ) (xs ys us vs ws : List ℕ) → us ≡ xs → vs ≡ ys → length xs ≡ k → length ws ≡ k
    → (x ∷ (take k (us ++ ws) ++ (vs ++ post_of (suc k) k (x ∷ (us ++ ws))))) ≡ x ∷ xs ++ ys
columns_are k x xs ys us vs ws e f h l =
    let none : drop (length xs) ws ≡ [] = drop_of_length-le ws {i = length xs} (omega arith) in
    rw (e, f) (rw (← h) (rw (take-append_seam xs ws, drop-append_seam xs ws, none, append-nil ys) refl))
