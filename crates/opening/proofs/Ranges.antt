-- A test of every number of a range, as `all` makes it.
use mathlib.Core.Path.{◌≡◌, refl, sym, ap, ap₂, ◌∙◌}
use mathlib.Core.Bool.{Bool, ◌&&◌, and-true}
use Prim.Native.Nat.{ℕ, zero, suc, ◌+◌}
use native.Mathlib.Nat.{zero-add, add-zero}
use native.Mathlib.Omega.{arith}
use Rattle.std.proofs.Math.Bool.{and_assoc}
use Rattle.std.specs.List.{list_all, range_with_len}
use Rattle.lists.specs.Lists.{all_to}
use Rattle.lists.proofs.Every.{all_to-same}

-- the first number apart
all_to-first : (n : ℕ) (f : ℕ → Bool) → all_to (suc n) f ≡ (f 0 && all_to n (λ (i : ℕ). f (suc i)))
unfolding all_to
all_to-first zero f = sym (and-true (f 0))
all_to-first (suc n) f = ap (λ (b : Bool). b && f (suc n)) (all_to-first n f) ∙ and_assoc (f 0) (all_to n (λ (i : ℕ). f (suc i))) (f (suc n))

range-from : (f : ℕ → Bool) (a n : ℕ) → list_all f (range_with_len a n) ≡ all_to n (λ (i : ℕ). f (a + i))
range-from f a zero = unfold all_to in refl
range-from f a (suc n) =
    ap₂ ◌&&◌ (ap f (sym (add-zero a)))
    (range-from f (a + 1) n ∙ all_to-same n _ _ (λ i l. let e : a + 1 + i ≡ a + suc i = omega arith in ap f e))
    ∙ sym (all_to-first n (λ (i : ℕ). f (a + i)))

pub range_is : (f : ℕ → Bool) (n : ℕ) → list_all f (range_with_len 0 n) ≡ all_to n f
range_is f n = range-from f 0 n ∙ all_to-same n _ _ (λ i l. ap f (zero-add i))
