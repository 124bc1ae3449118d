-- Sums over a range, unit vectors, and what a sum against a unit vector selects.
use mathlib.Core.Path.{◌≡◌, refl, ap, ap₂, ◌∙◌}
use mathlib.Core.Bool.{cond}
use mathlib.Core.Logic.{◌≢◌, ◌⊎◌, inl, inr}
use Prim.Native.Nat.{ℕ, zero, suc, ◌+◌, ◌*◌, ◌-◌, ◌≤◌, ◌<◌, min}
use native.Mathlib.Nat.{eq-or-lt_of_le, le_of_suc-le-suc}
use native.Mathlib.Omega.{arith}
use native.Mathlib.Decide.{dec_lt}
use lib.Dec.{ltb}
use Rattle.field.specs.Sums.{sum_to}
use borrow.Author.Tests.{lt-ltb, le-ltb}

pub sum_cong : (n : ℕ) (f g : ℕ → ℕ) → ((j : ℕ) → j < n → f j ≡ g j) → sum_to n f ≡ sum_to n g
unfolding sum_to
sum_cong zero f g h = refl
sum_cong (suc n) f g h = ap₂ ◌+◌ (sum_cong n f g (λ j l. h j (omega arith))) (h n (omega arith))

pub sum-zero : (n : ℕ) (f : ℕ → ℕ) → ((j : ℕ) → j < n → f j ≡ 0) → sum_to n f ≡ 0
unfolding sum_to
sum-zero zero f h = refl
sum-zero (suc n) f h = omega (arith, sum-zero n f (λ j l. h j (omega arith)), h n (omega arith))

-- a sum with one term that counts
pub sum_one : (n d : ℕ) (f : ℕ → ℕ) → d < n → ((j : ℕ) → j < n → j ≢ d → f j ≡ 0) → sum_to n f ≡ f d
unfolding sum_to
sum_one zero d f l h = absurd (omega arith)
sum_one (suc n) d f l h = go (eq-or-lt_of_le (le_of_suc-le-suc l)) (sum_one n d f)
  where
    go : (d ≡ n) ⊎ (d < n) → (d < n → ((j : ℕ) → j < n → j ≢ d → f j ≡ 0) → sum_to n f ≡ f d) → sum_to n f + f n ≡ f d
    go (inl e) ih = rw e (omega (arith, sum-zero n f (λ j k. h j (omega arith) (omega arith))))
    go (inr k) ih = omega (arith, ih k (λ j i. h j (omega arith)), h n (omega arith) (omega arith))

-- a vector that is 1 at d and 0 elsewhere selects a term
pub select : (n d : ℕ) (f v : ℕ → ℕ) → d < n → v d ≡ 1 → ((j : ℕ) → j < n → j ≢ d → v j ≡ 0) → sum_to n (λ j. f j * v j) ≡ f d
select n d f v l one off =
    sum_one n d (λ j. f j * v j) l (λ j k ne. rw (off j k ne) (omega arith))
    ∙ rw one (omega arith)

pub sum-within : (f : ℕ → ℕ) (m i : ℕ) → i < m → sum_to i f + f i ≤ sum_to m f
unfolding sum_to
sum-within f zero i h = absurd (omega arith)
sum-within f (suc m) i h = go (eq-or-lt_of_le h) (λ l. sum-within f m i l)
  where
    go : (suc i ≡ suc m) ⊎ (suc i < suc m) → (i < m → sum_to i f + f i ≤ sum_to m f) → sum_to i f + f i ≤ sum_to m f + f m
    go (inl e) ih = let z : i ≡ m = omega arith in rw z (omega arith)
    go (inr l) ih = omega (arith, ih (omega arith))

pub sum-most : (n : ℕ) (f : ℕ → ℕ) → ((j : ℕ) → j < n → f j ≤ 1) → sum_to n f ≤ n
unfolding sum_to
sum-most zero f h = omega arith
sum-most (suc n) f h = omega (arith, sum-most n f (λ j l. h j (omega arith)), h n (omega arith))

pub sum-front : (n : ℕ) (f : ℕ → ℕ) → sum_to (suc n) f ≡ f 0 + sum_to n (λ j. f (suc j))
unfolding sum_to
sum-front zero f = omega arith
sum-front (suc n) f = omega (arith, sum-front n f)

-- ---- sums by weights

-- weights 0, and then 1
pub sum_from : (n from : ℕ) (w r : ℕ → ℕ) → ((j : ℕ) → j < from → w j ≡ 0) → ((j : ℕ) → from ≤ j → w j ≡ 1) → sum_to n (λ j. w j * r j) ≡ sum_to (n - from) (λ j. r (from + j))
unfolding sum_to
sum_from zero from w r none one = let e : 0 - from ≡ 0 = omega arith in rw e refl
sum_from (suc n) from w r none one = go (dec_lt n from) (sum_from n from w r none one)
  where
    go : Dec (n < from) → sum_to n (λ j. w j * r j) ≡ sum_to (n - from) (λ j. r (from + j)) → sum_to n (λ j. w j * r j) + w n * r n ≡ sum_to (suc n - from) (λ j. r (from + j))
    go (yes h) ih =
        let e : suc n - from ≡ n - from = omega arith in
        rw (ih, none n h, e) (omega arith)
    go (no h) ih =
        let e : suc n - from ≡ suc (n - from) = omega arith in
        let here : from + (n - from) ≡ n = omega arith in
        rw (ih, one n (omega arith), e, here) (omega arith)

-- weights 1, and then 0
pub sum_below : (n d : ℕ) (w r : ℕ → ℕ) → ((j : ℕ) → j < d → w j ≡ 1) → ((j : ℕ) → d ≤ j → w j ≡ 0) → sum_to n (λ j. w j * r j) ≡ sum_to (min d n - 0) (λ j. r (0 + j))
unfolding sum_to
sum_below zero d w r one none = let e : min d 0 - 0 ≡ 0 = omega arith in rw e refl
sum_below (suc n) d w r one none = go (dec_lt n d) (sum_below n d w r one none)
  where
    go : Dec (n < d) → sum_to n (λ j. w j * r j) ≡ sum_to (min d n - 0) (λ j. r (0 + j)) → sum_to n (λ j. w j * r j) + w n * r n ≡ sum_to (min d (suc n) - 0) (λ j. r (0 + j))
    go (yes h) ih =
        let e : min d (suc n) - 0 ≡ suc n = omega arith in
        let before : min d n - 0 ≡ n = omega arith in
        let here : 0 + n ≡ n = omega arith in
        rw (ih, one n h, e, before, here) (omega arith)
    go (no h) ih =
        let e : min d (suc n) - 0 ≡ min d n - 0 = omega arith in
        rw (ih, none n (omega arith), e) (omega arith)

-- one weight of 0 becomes 1
pub sum_raised : (n at : ℕ) (w v r : ℕ → ℕ) → ((j : ℕ) → j < n → j ≢ at → v j ≡ w j) → (at < n → v at ≡ w at + 1)
    → sum_to n (λ j. v j * r j) ≡ sum_to n (λ j. w j * r j) + cond (ltb at n) (r at) 0
unfolding sum_to
sum_raised zero at w v r same more = rw (le-ltb at 0 (omega arith)) refl
sum_raised (suc n) at w v r same more = go (dec_lt at n) (dec_lt at (suc n)) (sum_raised n at w v r (λ j l. same j (omega arith)) (λ l. more (omega arith)))
  where
    go : Dec (at < n) → Dec (at < suc n) → sum_to n (λ j. v j * r j) ≡ sum_to n (λ j. w j * r j) + cond (ltb at n) (r at) 0
        → sum_to n (λ j. v j * r j) + v n * r n ≡ sum_to n (λ j. w j * r j) + w n * r n + cond (ltb at (suc n)) (r at) 0
    go (yes h) d ih =
        rw (ih, lt-ltb at n h, lt-ltb at (suc n) (omega arith), same n (omega arith) (omega arith)) (omega arith)
    go (no h) (yes l) ih =
        let e : at ≡ n = omega arith in
        let last : v n ≡ w n + 1 = rw e at (more l) in
        rw (ih, le-ltb at n (omega arith), lt-ltb at (suc n) l, last, e) (omega arith)
    go (no h) (no l) ih =
        rw (ih, le-ltb at n (omega arith), le-ltb at (suc n) (omega arith), same n (omega arith) (omega arith)) (omega arith)

-- weights w and what they grow by to become v, m added to each so that no difference is below 0
pub sum_risen : (n m : ℕ) (w v r : ℕ → ℕ) → ((j : ℕ) → j < n → w j ≤ m)
    → sum_to n (λ j. w j * r j) + sum_to n (λ j. (v j + m - w j) * r j) ≡ sum_to n (λ j. v j * r j) + m * sum_to n r
unfolding sum_to
sum_risen zero m w v r most = omega arith
sum_risen (suc n) m w v r most =
    let here : w n + (v n + m - w n) ≡ v n + m = omega (arith, most n (omega arith)) in
    omega (arith, sum_risen n m w v r (λ j l. most j (omega arith)), ap (λ (x : ℕ). x * r n) here)
