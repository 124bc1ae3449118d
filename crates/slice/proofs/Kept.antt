-- The weights of the columns, and the numbers that a slice keeps, as the code has them.
use mathlib.Core.Path.{◌≡◌}
use mathlib.Core.Bool.{Bool, true, false, cond}
use mathlib.Core.List.{List, ◌∷◌, ◌++◌}
use Prim.Native.Nat.{ℕ, ◌+◌, ◌*◌, ◌≤◌, ◌<◌}
use native.Mathlib.Decide.{dec_lt}
use native.Mathlib.Omega.{arith}
use lib.Dec.{ltb}
use lib.ListN.{length, get_or, replicate, take, drop}
use Rattle.std.proofs.lemmas.List.{get_or-take, get_or-drop, length-take, get_or_past}
use borrow.Author.Tests.{lt-ltb, le-ltb, eq-eqb, ne_eqb}
use Rattle.slice.specs.Layout.{column, own_in, masked_in, weights}

-- the weights of the server and of the phone
pub server-weights : (k number : ℕ) (keys : List ℕ) → number ≡ 0 → 1 ∷ keys ++ replicate k 0 ≡ weights k number keys
unfolding weights
server-weights k number keys e = rw (eq-eqb number 0 e)

pub phone-weights : (k number : ℕ) (keys : List ℕ) → (number ≡ 0 → ⊥) → 0 ∷ replicate k 0 ++ keys ≡ weights k number keys
unfolding weights
phone-weights k number keys e = rw (ne_eqb number 0 e)

-- eight numbers copied from the slice
pub masked-is : (work ys : List ℕ) → 1384 ≤ length work → ys ≡ take 8 (drop 1376 work) → (j : ℕ) → get_or ys j 0 ≡ masked_in work j
unfolding masked_in
masked-is work ys room e j = go (dec_lt j 8)
  where
    go : Dec (j < 8) → get_or ys j 0 ≡ cond (ltb j 8) (get_or work (1376 + j) 0) 0
    go (yes p) = rw (lt-ltb j 8 p, e, get_or-take 8 (drop 1376 work) j 0 p) (get_or-drop 1376 work j 0)
    go (no p) = rw (le-ltb j 8 (omega arith), e) (get_or_past (take 8 (drop 1376 work)) j 0 (omega (arith, length-take 8 (drop 1376 work))))

-- an own number of a column
pub own_is : (work : List ℕ) (c j : ℕ) → get_or work (c * 1536 + 1344 + j) 0 ≡ own_in work c j
unfolding own_in
own_is work c j = let e : c * 1536 + 1344 + j ≡ c * 1536 + (1344 + j) = omega arith in rw e

-- the registers of a slice of small numbers are small
pub column-below : (s : List ℕ) (c m : ℕ) → 0 < m → ((j : ℕ) → get_or s j 0 < m) → (i : ℕ) → column s c i < m
unfolding column
column-below s c m pos h i = go (ltb i 1344)
  where
    go : (b : Bool) → cond b (get_or s (c * 1536 + i) 0) 0 < m
    go true = h (c * 1536 + i)
    go false = pos
