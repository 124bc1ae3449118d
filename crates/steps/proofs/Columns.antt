-- A column as a part of its slice.
use mathlib.Core.Path.{◌≡◌, refl, fun_ext, ◌∙◌}
use mathlib.Core.List.{List}
use Prim.Native.Nat.{ℕ, zero, suc, ◌*◌, ◌<◌}
use native.Mathlib.Nat.{zero-mul}
use native.Mathlib.Nat.{suc-mul, add_comm}
use native.Mathlib.Decide.{dec_lt}
use native.Mathlib.Omega.{arith}
use borrow.Author.Tests.{lt-ltb, le-ltb}
use Rattle.std.proofs.lemmas.List.{get_or-take, get_or-drop, drop-drop}
use lib.ListN.{get_or, take, drop}
use Rattle.std.specs.Simd.{first_chunks}
use Rattle.settings.specs.Sizes.{places}
use Rattle.slice.specs.Layout.{own_at, registers, column}

pub chunk_at : (n k : ℕ) (xs d : List ℕ) (c : ℕ) → c < k → get_or (first_chunks n k xs) c d ≡ take n (drop (c * n) xs)
chunk_at n zero xs d c h = absurd (omega arith)
chunk_at n (suc k) xs d zero h = rw (zero-mul n) refl
chunk_at n (suc k) xs d (suc c) h = chunk_at n k (drop n xs) d c (omega arith) ∙ rw (drop-drop (c * n) n xs, suc-mul c n, add_comm n (c * n)) refl

pub column_is : (work numbers : List ℕ) (c : ℕ) → numbers ≡ take places (drop (c * places) work) → registers numbers ≡ column work c
unfolding registers column
column_is work numbers c e = fun_ext (λ i. go i (dec_lt i (own_at 0)))
  where
    go : (i : ℕ) → Dec (i < own_at 0) → registers numbers i ≡ column work c i
    go i (yes h) = rw (lt-ltb i (own_at 0) h, e) (get_or-take places (drop (c * places) work) i 0 (omega arith) ∙ get_or-drop (c * places) work i 0)
    go i (no h) = rw (le-ltb i (own_at 0) (omega arith)) refl
