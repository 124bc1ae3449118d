-- The product by transform is the schoolbook product, and products join.
use mathlib.Core.Path.{◌≡◌, refl, sym, ap, ap₂, ◌∙◌}
use mathlib.Core.List.{List}
use Prim.Native.Nat.{ℕ, ◌+◌, ◌*◌, ◌-◌, ◌%◌, ◌^◌, ◌≤◌, ◌<◌}
use native.Mathlib.Nat.{mod-lt, mod-eq_of_lt}
use native.Mathlib.Omega.{arith}
use native.Mathlib.Decide.{dec_lt}
use borrow.Author.Tests.{le-leb, lt-leb}
use lib.ListN.{length, get_or, get_or-eq_default}
use lib.Seq.{ext_get_or}
use Rattle.lists.proofs.Lists.{length-list_from, get_d_list_to, list_to_cong}
use Rattle.field.specs.Field.{q, sub, mul}
use Rattle.field.specs.Sums.{sum_to}
use Rattle.field.specs.Congruence.{◌⊩◌≈◌}
use Rattle.field.specs.Forms.{Adds}
use Rattle.field.proofs.Sums.{sum_cong}
use Rattle.field.proofs.Forms.{sum-join, sub-join}
use Rattle.field.proofs.Congruence.{≈_refl, ≈_eq, ≈_sym, ≈_trans, ≈_mul, ≈_mod, ≈_lt}
use Rattle.field.proofs.Solve.{at, ◌⊕◌, ◌⊖◌, ◌⊗◌, red, less, solve}
use Rattle.ring.specs.Factors.{root}
use Rattle.ring.specs.Product.{coefficient, product}
use Rattle.ring.specs.Ntt.{forward_low, forward_high, ntt, inverse_ntt, pointwise, scaled}
use Rattle.ring.specs.Layers.{forward_factor, forward_layer, forward_to, inverse_from, lazy_to, lazy_inverse_from, reduced}
use Rattle.ring.proofs.Sums.{sum-split, sum-scale, sum_≈, value, term, product_value}
use Rattle.ring.proofs.Table.{root_minus}
use Rattle.ring.proofs.Evaluation.{entry_value}
use Rattle.ring.proofs.Back.{layers_back}
use Rattle.ring.proofs.Standard.{ntt-is, inverse_is}
use Rattle.ring.proofs.Layers.{length_forward}
use Rattle.ring.proofs.Lazy.{layer_related, forward_near, inverse_near}

-- ---- the schoolbook product

pub coefficient-below : (a b : List ℕ) (k : ℕ) → coefficient a b k < q
unfolding coefficient
coefficient-below a b k = mod-lt _ (omega arith)

pub length-product : (a b : List ℕ) → length (product a b) ≡ 256
unfolding product
length-product a b = length-list_from 0 256 (coefficient a b)

product_at : (a b : List ℕ) (k : ℕ) → k < 256 → get_or (product a b) k 0 ≡ coefficient a b k
unfolding product
product_at a b k h = get_d_list_to 256 (coefficient a b) k 0 h

minus_sum : (m : ℕ) → 0 < m → (x y : ℕ) → m ⊩ sub m x y ≈ x + (m - 1) * y
minus_sum m pos x y = solve m pos (red (at x ⊖ at y)) (at x ⊕ less ⊗ at y) (omega arith)

-- a coefficient as one sum, with −1 as q − 1
coefficient-is : (a b : List ℕ) (k : ℕ) → k < 256 → q ⊩ coefficient a b k ≈ sum_to 256 (λ i. get_or a i 0 * term 256 (q - 1) (λ j. get_or b j 0) i k)
unfolding coefficient
coefficient-is a b k h =
    let s : k + 1 + (255 - k) ≡ 256 = omega arith in
    ≈_trans (minus_sum q (omega arith) _ _) (≈_eq (sym (rw s at whole)))
  where
    f : ℕ → ℕ
    f i = get_or a i 0 * term 256 (q - 1) (λ j. get_or b j 0) i k

    g : ℕ → ℕ
    g j = get_or a (k + 1 + j) 0 * get_or b (256 + k - (k + 1 + j)) 0

    first : (i : ℕ) → i < k + 1 → f i ≡ get_or a i 0 * get_or b (k - i) 0
    first i l = rw (le-leb i k (omega arith)) refl

    second : (j : ℕ) → j < 255 - k → f (k + 1 + j) ≡ (q - 1) * g j
    second j l = rw (lt-leb (k + 1 + j) k (omega arith)) (omega arith)

    whole : sum_to (k + 1 + (255 - k)) f ≡ sum_to (k + 1) (λ i. get_or a i 0 * get_or b (k - i) 0) + (q - 1) * sum_to (255 - k) g
    whole = sum-split (k + 1) (255 - k) f ∙ omega (arith, sum_cong (k + 1) f _ first, sum_cong (255 - k) (λ j. f (k + 1 + j)) (λ j. (q - 1) * g j) second, sum-scale (255 - k) (q - 1) g)

-- its value at a root of X^256 + 1 is the product of the values
value_of : (a b : List ℕ) (r : ℕ) → q ⊩ r ^ 256 ≈ q - 1 → q ⊩ value 256 (λ k. get_or (product a b) k 0) r ≈ value 256 (λ i. get_or a i 0) r * value 256 (λ j. get_or b j 0) r
value_of a b r e =
    ≈_trans (sum_≈ 256 (λ k. get_or (product a b) k 0 * r ^ k) (λ k. sum_to 256 (λ i. get_or a i 0 * term 256 (q - 1) (λ j. get_or b j 0) i k) * r ^ k)
    (λ k l. ≈_mul (≈_trans (≈_eq (product_at a b k l)) (coefficient-is a b k l)) (≈_refl (r ^ k))))
    (product_value r 256 (q - 1) (λ i. get_or a i 0) (λ j. get_or b j 0) e)

-- ---- the inverse

pub length-scaled : (w : List ℕ) → length (scaled w) ≡ 256
unfolding scaled
length-scaled w = length-list_from 0 256 _

scaled_at : (w : List ℕ) (i : ℕ) → i < 256 → get_or (scaled w) i 0 ≡ mul q 8347681 (get_or w i 0)
unfolding scaled
scaled_at w i l = get_d_list_to 256 _ i 0 l

pub scaled_near : (w : List ℕ) (i : ℕ) → i < 256 → q ⊩ get_or (scaled w) i 0 ≈ 8347681 * get_or w i 0
scaled_near w i l = ≈_trans (≈_eq (scaled_at w i l)) (≈_mod (8347681 * get_or w i 0))

pub inverse_size : (t : List ℕ) → length (inverse_ntt t) ≡ 256
inverse_size t = ap length (inverse_is t) ∙ length-scaled (inverse_from 8 t)

pub inverse_below : (t : List ℕ) (i : ℕ) → i < 256 → get_or (inverse_ntt t) i 0 < q
inverse_below t i l = rw (inverse_is t, scaled_at (inverse_from 8 t) i l) (mod-lt _ (omega arith))

-- 8,347,681 takes the factors 2 of the eight layers back
pub eight_back : (x : ℕ) → q ⊩ 8347681 * 2 ^ 8 * x ≈ x
eight_back x = ≈_trans (≈_mul {a = 8347681 * 2 ^ 8} {b = 1} (record { path = refl }) (≈_refl x)) (≈_eq (omega arith))

-- a list with the transform of c, up to multiples of q, has c itself as its inverse
pub back_to : (u c : List ℕ) → length u ≡ 256 → length c ≡ 256 → ((i : ℕ) → i < 256 → get_or c i 0 < q)
    → ((i : ℕ) → i < 256 → q ⊩ get_or u i 0 ≈ get_or (forward_to 8 c) i 0) → inverse_ntt u ≡ c
back_to u c lu lc low same =
    inverse_is u
    ∙ ext_get_or 0 _ _ (length-scaled (inverse_from 8 u) ∙ sym lc)
    (λ i l. let h : i < 256 = omega (arith, length-scaled (inverse_from 8 u)) in
    ≈_lt (near i h) (rw (scaled_at (inverse_from 8 u) i h) (mod-lt _ (omega arith))) (low i h))
  where
    near : (i : ℕ) → i < 256 → q ⊩ get_or (scaled (inverse_from 8 u)) i 0 ≈ get_or c i 0
    near i h =
        ≈_trans (scaled_near (inverse_from 8 u) i h)
        (≈_trans (≈_mul (≈_refl 8347681) (layers_back 8 (omega arith) 1 c u lc lu (λ j l. ≈_trans (same j l) (≈_eq (omega arith))) i h))
        (≈_trans (≈_eq (omega arith)) (eight_back (get_or c i 0))))

-- ---- the product by transform

entries : (a b : List ℕ) → length a ≡ 256 → length b ≡ 256 → (i : ℕ) → i < 256 → q ⊩ get_or (pointwise (forward_to 8 a) (forward_to 8 b)) i 0 ≈ get_or (forward_to 8 (product a b)) i 0
unfolding pointwise
entries a b la lb i l =
    ≈_trans (≈_eq (get_d_list_to 256 (λ (j : ℕ). mul q (get_or (forward_to 8 a) j 0) (get_or (forward_to 8 b) j 0)) i 0 l))
    (≈_trans (≈_mod (get_or (forward_to 8 a) i 0 * get_or (forward_to 8 b) i 0))
    (≈_trans (≈_mul (entry_value a i la l) (entry_value b i lb l))
    (≈_trans (≈_sym (value_of a b (root i) (root_minus i l))) (≈_sym (entry_value (product a b) i (length-product a b) l)))))

length-pointwise : (u v : List ℕ) → length (pointwise u v) ≡ 256
unfolding pointwise
length-pointwise u v = length-list_from 0 256 _

pub product-same : (a b : List ℕ) → length a ≡ 256 → length b ≡ 256 → inverse_ntt (pointwise (ntt a) (ntt b)) ≡ product a b
product-same a b la lb =
    ap₂ (λ u v. inverse_ntt (pointwise u v)) (ntt-is a) (ntt-is b)
    ∙ back_to (pointwise (forward_to 8 a) (forward_to 8 b)) (product a b) (length-pointwise _ _) (length-product a b) (λ i h. rw (product_at a b i h) (coefficient-below a b i)) (entries a b la lb)

low_below : (z x y : ℕ) → forward_low z x y < q
unfolding forward_low
low_below z x y = mod-lt _ (omega arith)

high_below : (z x y : ℕ) → forward_high z x y < q
unfolding forward_high
high_below z x y = mod-lt _ (omega arith)

-- ---- the code's transforms, whose sums are not reduced

pub ntt-size : (w : List ℕ) → length w ≡ 256 → length (ntt w) ≡ 256
ntt-size w size = ap length (ntt-is w) ∙ length_forward 8 w ∙ size

-- each number of the transform is below q
pub ntt-below : (w : List ℕ) → length w ≡ 256 → (i : ℕ) → i < 256 → get_or (ntt w) i 0 < q
unfolding forward_to forward_layer
ntt-below w size i l =
    rw (ntt-is w)
    (layer_related forward_low forward_high forward_low forward_high 1 128 refl (forward_factor 128) (λ x y. 0 ≤ x) (λ x y. x < q)
    (λ b x y x' y' h k. low_below _ x y) (λ b x y x' y' h k. high_below _ x y)
    (forward_to 7 w) (forward_to 7 w) (length_forward 7 w ∙ size) (length_forward 7 w ∙ size) (λ j m. omega arith) i l)

-- a polynomial's transform, not reduced, is as good as the reduced one where the product is reduced
module _ (w : List ℕ) (size : length w ≡ 256) (low : (i : ℕ) → get_or w i 0 < q) where
  near_ntt : (i : ℕ) → i < 256 → q ⊩ get_or (lazy_to 8 w) i 0 ≈ get_or (ntt w) i 0
  near_ntt i l = rw (ntt-is w) (forward_near 8 (omega arith) w size low i l).same

  pub on_the_right : (u : List ℕ) → pointwise u (lazy_to 8 w) ≡ pointwise u (ntt w)
  unfolding pointwise
  on_the_right u = list_to_cong 256 _ _ (λ i l. (≈_mul (≈_refl (get_or u i 0)) (near_ntt i l)).path)

  pub on_the_left : (v : List ℕ) → pointwise (lazy_to 8 w) v ≡ pointwise (ntt w) v
  unfolding pointwise
  on_the_left v = list_to_cong 256 _ _ (λ i l. (≈_mul (near_ntt i l) (≈_refl (get_or v i 0))).path)

  pub reduced-is : reduced (lazy_to 8 w) ≡ ntt w
  unfolding reduced
  reduced-is =
      ext_get_or 0 _ _ (length-list_from 0 256 rest ∙ sym (ntt-size w size))
      (λ i l. let h : i < 256 = omega (arith, length-list_from 0 256 rest) in
      get_d_list_to 256 rest i 0 h ∙ (near_ntt i h).path ∙ mod-eq_of_lt (ntt-below w size i h))
    where
      rest : ℕ → ℕ
      rest i = get_or (lazy_to 8 w) i 0 % q

  -- the inverse, not reduced, and then scaled
  pub scaled-is : scaled (lazy_inverse_from 8 w) ≡ inverse_ntt w
  unfolding scaled
  scaled-is =
      list_to_cong 256 _ _ (λ i l. (≈_mul (≈_refl 8347681) (inverse_near 8 (omega arith) w w size size (λ j m. record { below = omega (arith, low j); same = ≈_refl (get_or w j 0) }) i l)).path)
      ∙ sym (inverse_is w)

-- ---- products join

-- the place in b of term k + 1 + j of coefficient k
abbrev from : ℕ → ℕ → ℕ
from k j = 256 + k - (k + 1 + j)

module _ (m : ℕ) (a r₁ r₂ r : List ℕ) (h : (i : ℕ) → Adds q m (get_or r₁ i 0) (get_or r₂ i 0) (get_or r i 0)) where
  coefficient-join : (k : ℕ) → Adds q m (coefficient a r₁ k) (coefficient a r₂ k) (coefficient a r k)
  unfolding coefficient
  coefficient-join k =
      sub-join (omega arith)
      (record { total = sum-join q m (λ i. get_or r₁ (k - i) 0) (λ i. get_or r₂ (k - i) 0) (λ i. get_or r (k - i) 0) (λ i. get_or a i 0) (k + 1) (λ i. h (k - i)) })
      (record { total = sum-join q m (λ j. get_or r₁ (from k j) 0) (λ j. get_or r₂ (from k j) 0) (λ j. get_or r (from k j) 0) (λ j. get_or a (k + 1 + j) 0) (255 - k) (λ j. h (from k j)) })

  pub product-join : (k : ℕ) → Adds q m (get_or (product a r₁) k 0) (get_or (product a r₂) k 0) (get_or (product a r) k 0)
  product-join k = go (dec_lt k 256)
    where
      behind : (b : List ℕ) → 256 ≤ k → get_or (product a b) k 0 ≡ 0
      behind b l = get_or-eq_default (product a b) 0 (omega (arith, length-product a b))

      go : Dec (k < 256) → Adds q m (get_or (product a r₁) k 0) (get_or (product a r₂) k 0) (get_or (product a r) k 0)
      go (yes l) = rw (product_at a r₁ k l, product_at a r₂ k l, product_at a r k l) (coefficient-join k)
      go (no l) = rw (behind r₁ (omega arith), behind r₂ (omega arith), behind r (omega arith)) (record { total = ≈_eq (omega arith) })
