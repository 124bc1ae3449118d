-- Sums modulo any number: split, swapped, term by term, and the product of two polynomials' values.
use mathlib.Core.Path.{◌≡◌, refl, sym, ap, ◌∙◌}
use mathlib.Core.Bool.{cond}
use Prim.Native.Nat.{ℕ, zero, suc, ◌+◌, ◌*◌, ◌-◌, ◌^◌, ◌≤◌, ◌<◌}
use native.Mathlib.Nat.{add-zero, add-suc}
use native.Mathlib.Omega.{arith}
use lib.Dec.{leb}
use lib.Pow.{pow-add}
use borrow.Author.Tests.{le-leb, lt-leb}
use Rattle.field.specs.Sums.{sum_to}
use Rattle.field.specs.Congruence.{◌⊩◌≈◌}
use Rattle.field.proofs.Sums.{sum_cong}
use Rattle.field.proofs.Congruence.{≈_refl, ≈_eq, ≈_sym, ≈_trans, ≈_add, ≈_mul}

sum-add : (n : ℕ) (f g : ℕ → ℕ) → sum_to n (λ j. f j + g j) ≡ sum_to n f + sum_to n g
unfolding sum_to
sum-add zero f g = refl
sum-add (suc n) f g = omega (arith, sum-add n f g)

pub sum-scale : (n m : ℕ) (f : ℕ → ℕ) → sum_to n (λ j. m * f j) ≡ m * sum_to n f
unfolding sum_to
sum-scale zero m f = omega arith
sum-scale (suc n) m f = omega (arith, sum-scale n m f)

pub sum-split : (m n : ℕ) (f : ℕ → ℕ) → sum_to (m + n) f ≡ sum_to m f + sum_to n (λ j. f (m + j))
unfolding sum_to
sum-split m zero f = rw (add-zero m) (omega arith)
sum-split m (suc n) f = rw (add-suc m n) (omega (arith, sum-split m n f))

pub sum_times : (n : ℕ) (f : ℕ → ℕ) (c : ℕ) → sum_to n f * c ≡ sum_to n (λ j. f j * c)
unfolding sum_to
sum_times zero f c = omega arith
sum_times (suc n) f c = omega (arith, sum_times n f c)

pub sum-swap : (n m : ℕ) (f : ℕ → ℕ → ℕ) → sum_to n (λ i. sum_to m (f i)) ≡ sum_to m (λ j. sum_to n (λ i. f i j))
unfolding sum_to
sum-swap zero m f = sym (nothing m)
  where
    nothing : (m : ℕ) → sum_to m (λ j. 0) ≡ 0
    nothing zero = refl
    nothing (suc m) = omega (arith, nothing m)
sum-swap (suc n) m f = ap (λ x. x + sum_to m (f n)) (sum-swap n m f) ∙ sym (sum-add m (λ j. sum_to n (λ i. f i j)) (f n))

module _ {q : ℕ} where
  pub sum_≈ : (n : ℕ) (f g : ℕ → ℕ) → ((j : ℕ) → j < n → q ⊩ f j ≈ g j) → q ⊩ sum_to n f ≈ sum_to n g
  unfolding sum_to
  sum_≈ zero f g h = ≈_refl 0
  sum_≈ (suc n) f g h = ≈_add (sum_≈ n f g (λ j l. h j (omega arith))) (h n (omega arith))

-- the value at r of the polynomial with the coefficients f 0 .. f (n - 1)
abbrev pub value : ℕ → (ℕ → ℕ) → ℕ → ℕ
value n f r = sum_to n (λ (j : ℕ). f j * r ^ j)

-- modulo X^n − m: coefficient k of X^i · b
abbrev pub term : ℕ → ℕ → (ℕ → ℕ) → ℕ → ℕ → ℕ
term n m b i k = cond (leb i k) (b (k - i)) (m * b (n + k - i))

module _ {q : ℕ} (r : ℕ) where
  -- X^i · b has the value r^i times that of b
  shifted : (i p m : ℕ) (b : ℕ → ℕ) → q ⊩ r ^ (i + p) ≈ m → q ⊩ sum_to (i + p) (λ k. term (i + p) m b i k * r ^ k) ≈ r ^ i * value (p + i) b r
  shifted i p m b e =
      ≈_trans (≈_eq (sum-split i p (λ k. term (i + p) m b i k * r ^ k)))
      (≈_trans (≈_add (sum_≈ i (λ k. term (i + p) m b i k * r ^ k) (λ k. r ^ i * (b (p + k) * r ^ (p + k))) front) (≈_eq (sum_cong p (λ j. term (i + p) m b i (i + j) * r ^ (i + j)) (λ j. r ^ i * (b j * r ^ j)) back)))
      (≈_eq (omega (arith, sum-scale i (r ^ i) (λ k. b (p + k) * r ^ (p + k)), sum-scale p (r ^ i) (λ j. b j * r ^ j), ap (λ x. r ^ i * x) (sum-split p i (λ j. b j * r ^ j))))))
    where
      front : (k : ℕ) → k < i → q ⊩ term (i + p) m b i k * r ^ k ≈ r ^ i * (b (p + k) * r ^ (p + k))
      front k l =
          let s : i + p + k - i ≡ p + k = omega arith in
          rw (lt-leb i k l, s)
          (≈_trans (≈_eq (omega arith)) (≈_trans (≈_mul (≈_sym e) (≈_refl (b (p + k) * r ^ k))) (≈_eq (omega (arith, ap (λ x. x * (b (p + k) * r ^ k)) (pow-add r i p), ap (λ x. r ^ i * (b (p + k) * x)) (pow-add r p k))))))

      back : (j : ℕ) → j < p → term (i + p) m b i (i + j) * r ^ (i + j) ≡ r ^ i * (b j * r ^ j)
      back j l =
          let s : i + j - i ≡ j = omega arith in
          rw (le-leb i (i + j) (omega arith), s, pow-add r i j) (omega arith)

  shift_value : (n m : ℕ) (b : ℕ → ℕ) → q ⊩ r ^ n ≈ m → (i : ℕ) → i ≤ n → q ⊩ sum_to n (λ k. term n m b i k * r ^ k) ≈ r ^ i * value n b r
  shift_value n m b e i l =
      let s : n ≡ i + (n - i) = omega arith in
      let t : n - i + i ≡ n = omega arith in
      let e' : q ⊩ r ^ (i + (n - i)) ≈ m = rw (← s) e in
      rw (← s, t) at (shifted i (n - i) m b e')

  -- the value of a product is the product of the values
  pub product_value : (n m : ℕ) (a b : ℕ → ℕ) → q ⊩ r ^ n ≈ m → q ⊩ value n (λ k. sum_to n (λ i. a i * term n m b i k)) r ≈ value n a r * value n b r
  product_value n m a b e =
      ≈_trans (≈_eq (sum_cong n (λ k. sum_to n (λ i. a i * term n m b i k) * r ^ k) (λ k. sum_to n (λ i. a i * (term n m b i k * r ^ k))) inner ∙ sum-swap n n (λ k i. a i * (term n m b i k * r ^ k))))
      (≈_trans (sum_≈ n (λ i. sum_to n (λ k. a i * (term n m b i k * r ^ k))) (λ i. a i * r ^ i * value n b r) outer)
      (≈_eq (sym (sum_times n (λ i. a i * r ^ i) (value n b r)))))
    where
      inner : (k : ℕ) → k < n → sum_to n (λ i. a i * term n m b i k) * r ^ k ≡ sum_to n (λ i. a i * (term n m b i k * r ^ k))
      inner k l = sum_times n (λ i. a i * term n m b i k) (r ^ k) ∙ sum_cong n _ _ (λ i h. omega arith)

      outer : (i : ℕ) → i < n → q ⊩ sum_to n (λ k. a i * (term n m b i k * r ^ k)) ≈ a i * r ^ i * value n b r
      outer i l = ≈_trans (≈_eq (sum-scale n (a i) (λ k. term n m b i k * r ^ k))) (≈_trans (≈_mul (≈_refl (a i)) (shift_value n m b e i (omega arith))) (≈_eq (omega arith)))

  -- the halves of a polynomial folded: 2h coefficients become h, and the value at r stays
  pub halve : (h : ℕ) (f g : ℕ → ℕ) → ((j : ℕ) → j < h → q ⊩ g j ≈ f j + r ^ h * f (h + j)) → q ⊩ value h g r ≈ value (h + h) f r
  halve h f g e =
      ≈_trans (sum_≈ h (λ j. g j * r ^ j) (λ j. f j * r ^ j + f (h + j) * r ^ (h + j)) folded)
      (≈_eq (sum-add h (λ j. f j * r ^ j) (λ j. f (h + j) * r ^ (h + j)) ∙ sym (sum-split h h (λ j. f j * r ^ j))))
    where
      folded : (j : ℕ) → j < h → q ⊩ g j * r ^ j ≈ f j * r ^ j + f (h + j) * r ^ (h + j)
      folded j l = ≈_trans (≈_mul (e j l) (≈_refl (r ^ j))) (≈_eq (omega (arith, ap (λ x. f (h + j) * x) (pow-add r h j))))
