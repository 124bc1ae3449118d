-- What a callee leaves in a lent part, said of the whole.
use mathlib.Core.Path.{◌≡◌, sym, ap, ◌∙◌}
use mathlib.Core.List.{List, [], ◌∷◌, ◌++◌}
use Prim.Native.Nat.{ℕ, zero, suc, ◌+◌, ◌≤◌}
use native.Mathlib.Nat.{zero-add, suc-add}
use native.Mathlib.Omega.{arith}
use lib.ListN.{length, set, take, drop, length-drop}
use lib.Seq.{length-take-le, set-append_left}
use borrow.Rule.Slice.PartMut.{put_mid, mid_of, post_of, put_same}
use Rattle.lists.specs.Lists.{fill}
use Rattle.lists.proofs.Fill.{length-fill}

set-right : (xs ys : List ℕ) (i v : ℕ) → set (xs ++ ys) (length xs + i) v ≡ xs ++ set ys i v
set-right [] ys i v = rw (zero-add i)
set-right (x ∷ xs) ys i v = rw (suc-add (length xs) i) (ap (λ (l : List ℕ). x ∷ l) (set-right xs ys i v))

-- a run filled in the n places from a on
pub fill-part : (s : List ℕ) (a n : ℕ) (f : ℕ → ℕ) → a + n ≤ length s → (m : ℕ) → m ≤ n → put_mid a n s (fill (mid_of a n s) 0 m f) ≡ fill s a m f
unfolding fill
fill-part s a n f r zero h = put_same a n s
fill-part s a n f r (suc m) h =
    let p = fill (mid_of a n s) 0 m f in
    let la : length (take a s) ≡ a = length-take-le a s (omega arith) in
    let lp : length p ≡ n = length-fill (mid_of a n s) 0 m f ∙ length-take-le n (drop a s) (omega (arith, length-drop a s)) in
    rw (zero-add m)
    (sym
    (ap (λ (l : List ℕ). set l (a + m) (f m)) (sym (fill-part s a n f r m (omega arith)))
    ∙ ap (λ (k : ℕ). set (take a s ++ (p ++ post_of a n s)) (k + m) (f m)) (sym la)
    ∙ set-right (take a s) (p ++ post_of a n s) m (f m)
    ∙ ap (λ (l : List ℕ). take a s ++ l) (set-append_left p (post_of a n s) m (f m) (omega arith))))
