-- Numbers whose sums are not reduced stay below a bound, and leave the remainders of the reduced ones.
use mathlib.Core.Path.{◌≡◌, refl, ap, ◌∙◌}
use mathlib.Core.List.{List}
use Prim.Native.Nat.{ℕ, zero, suc, ◌+◌, ◌*◌, ◌-◌, ◌^◌, ◌≤◌, ◌<◌}
use native.Mathlib.Nat.{mod-lt, mod-mod, mul-le-mul_right}
use native.Mathlib.Omega.{arith}
use native.Mathlib.Decide.{dec_lt}
use lib.ListN.{length, get_or, get_or-eq_default}
use lib.Pow.{pow_pos}
use Rattle.field.specs.Field.{q, add, sub, mul}
use Rattle.field.specs.Congruence.{◌⊩◌≈◌}
use Rattle.field.proofs.Congruence.{≈_refl, ≈_eq, ≈_sym, ≈_trans, ≈_add, ≈_mul, ≈_unmod, ≈_mult, ≈_cancel}
use Rattle.field.proofs.Solve.{at, ◌⊕◌, ◌⊖◌, red, solve}
use Rattle.ring.specs.Ntt.{Rule, forward_low, forward_high, inverse_low, inverse_high}
use Rattle.ring.specs.Layers.{layer, forward_factor, inverse_factor, forward_layer, inverse_layer, forward_to, inverse_from, lazy_low, lazy_high, lazy_inverse_low, lazy_inverse_high, lazy_layer, lazy_inverse_layer, lazy_to, lazy_inverse_from}
use Rattle.ring.proofs.Layers.{length-layer, layer-low, layer-high, Place, lower, upper, place, sizes, twice, length_forward, length_inverse_layer}

-- ---- A relation between the numbers of two lists, before and after a layer

module _ (low high low' high' : Rule) (half blocks : ℕ) (e : blocks * half ≡ 128) (z : ℕ → ℕ) (R S : ℕ → ℕ → Type 0)
    (lows : (b x y x' y' : ℕ) → R x x' → R y y' → S (low (z b) x y) (low' (z b) x' y'))
    (highs : (b x y x' y' : ℕ) → R x x' → R y y' → S (high (z b) x y) (high' (z b) x' y'))
    (w w' : List ℕ) (size : length w ≡ 256) (size' : length w' ≡ 256) (before : (i : ℕ) → i < 256 → R (get_or w i 0) (get_or w' i 0)) where
  pub layer_related : (i : ℕ) → i < 256 → S (get_or (layer low high half z blocks w) i 0) (get_or (layer low' high' half z blocks w') i 0)
  layer_related i l = go (place half blocks i e l)
    where
      room : blocks * (2 * half) ≡ 256
      room = omega (arith, e)

      inside : (b j : ℕ) → b < blocks → j < half → b * (2 * half) + j + half < 256
      inside b j lb lj =
          let m : suc b * (2 * half) ≤ blocks * (2 * half) = mul-le-mul_right (2 * half) lb in
          omega (arith, room)

      go : Place half blocks i → S (get_or (layer low high half z blocks w) i 0) (get_or (layer low' high' half z blocks w') i 0)
      go (lower b j lb lj p) =
          rw (p, layer-low low high half z w blocks (omega (arith, room)) b j lb lj, layer-low low' high' half z w' blocks (omega (arith, room)) b j lb lj)
          (lows b _ _ _ _ (before (b * (2 * half) + j) (omega (arith, inside b j lb lj))) (before (b * (2 * half) + j + half) (inside b j lb lj)))
      go (upper b j lb lj p) =
          rw (p, layer-high low high half z w blocks (omega (arith, room)) b j lb lj, layer-high low' high' half z w' blocks (omega (arith, room)) b j lb lj)
          (highs b _ _ _ _ (before (b * (2 * half) + j) (omega (arith, inside b j lb lj))) (before (b * (2 * half) + j + half) (inside b j lb lj)))

-- a bound of the 256 numbers is one of every place
pub everywhere : (w : List ℕ) (bound : ℕ) → 0 < bound → length w ≡ 256 → ((i : ℕ) → i < 256 → get_or w i 0 < bound) → (i : ℕ) → get_or w i 0 < bound
everywhere w bound pos size h i = go (dec_lt i 256)
  where
    go : Dec (i < 256) → get_or w i 0 < bound
    go (yes l) = h i l
    go (no l) = rw (get_or-eq_default w 0 {n = i} (omega arith)) pos

-- ---- The rules

-- x is below the bound, and leaves the remainder of y
pub record Near (bound x y : ℕ) : Type 0 where
  pub below : x < bound
  pub same : q ⊩ x ≈ y

module _ (m : ℕ) (pos : 0 < m) where
  product-same : (z y y' : ℕ) → m ⊩ y ≈ y' → mul m z y ≡ mul m z y'
  product-same z y y' h = (≈_mul (≈_refl z) h).path

  low_same : (z x y x' y' : ℕ) → m ⊩ x ≈ x' → m ⊩ y ≈ y' → m ⊩ x + mul m z y ≈ add m x' (mul m z y')
  low_same z x y x' y' h k = rw (product-same z y y' k) (≈_trans (≈_add h (≈_refl (mul m z y'))) (≈_unmod (x' + mul m z y')))

  high_same : (z x y x' y' : ℕ) → m ⊩ x ≈ x' → m ⊩ y ≈ y' → m ⊩ x + (m - mul m z y) ≈ sub m x' (mul m z y')
  high_same z x y x' y' h k =
      rw (product-same z y y' k, mod-mod (z * y') m) (≈_trans (≈_add h (≈_refl (m - mul m z y'))) (≈_unmod (x' + (m - mul m z y'))))

  sum_same : (x y x' y' : ℕ) → m ⊩ x ≈ x' → m ⊩ y ≈ y' → m ⊩ x + y ≈ add m x' y'
  sum_same x y x' y' h k = ≈_trans (≈_add h k) (≈_unmod (x' + y'))

  -- a difference raised by a multiple of m above y
  raised_same : (c x y x' y' : ℕ) → y ≤ c * m → m ⊩ x ≈ x' → m ⊩ y ≈ y' → m ⊩ x + (c * m - y) ≈ sub m x' y'
  raised_same c x y x' y' l h k =
      ≈_cancel y
      (≈_trans (≈_eq (let s : x + (c * m - y) + y ≡ x + c * m = omega arith in s))
      (≈_trans (≈_mult x c)
      (≈_trans h
      (≈_trans (≈_sym (solve m pos (red (at x' ⊖ at y') ⊕ at y') (at x') (omega arith))) (≈_add (≈_refl (sub m x' y')) (≈_sym k))))))

module _ (bound : ℕ) (z x y x' y' : ℕ) (h : Near bound x x') (k : Near bound y y') where
  forward_low_lem : Near (bound + q) (lazy_low z x y) (forward_low z x' y')
  unfolding lazy_low forward_low
  forward_low_lem =
      record {
        below = omega (arith, h.below, mod-lt (z * y) {m = q} (omega arith));
        same = low_same q (omega arith) z x y x' y' h.same k.same;
      }

  forward_high_lem : Near (bound + q) (lazy_high z x y) (forward_high z x' y')
  unfolding lazy_high forward_high
  forward_high_lem =
      record {
        below = omega (arith, h.below, mod-lt (z * y) {m = q} (omega arith));
        same = high_same q (omega arith) z x y x' y' h.same k.same;
      }

  inverse_low_lem : Near (bound + bound) (lazy_inverse_low z x y) (inverse_low z x' y')
  unfolding lazy_inverse_low inverse_low
  inverse_low_lem =
      record { below = omega (arith, h.below, k.below); same = sum_same q (omega arith) x y x' y' h.same k.same }

module _ (c : ℕ) (some : 0 < c) (z x y x' y' : ℕ) (h : Near (c * q) x x') (k : Near (c * q) y y') where
  inverse_high_lem : Near (c * q + c * q) (lazy_inverse_high (c * q) z x y) (inverse_high z x' y')
  unfolding lazy_inverse_high inverse_high
  inverse_high_lem =
      record {
        below = omega (arith, mod-lt (z * (x + (c * q - y))) {m = q} (omega arith));
        same = ≈_eq (product-same q (omega arith) z (x + (c * q - y)) (sub q x' y') (raised_same q (omega arith) c x y x' y' (omega (arith, k.below)) h.same k.same));
      }

-- ---- The layers

length_lazy : (k : ℕ) (w : List ℕ) → length (lazy_to k w) ≡ length w
unfolding lazy_to lazy_layer
length_lazy zero w = refl
length_lazy (suc k) w = length-layer _ _ _ _ _ _ ∙ length_lazy k w

length_lazy_inverse : (k : ℕ) (w : List ℕ) → length (lazy_inverse_layer k w) ≡ length w
unfolding lazy_inverse_layer
length_lazy_inverse k w = length-layer _ _ _ _ _ _

inverse_step : (k : ℕ) → k < 8 → (w w' : List ℕ) → length w ≡ 256 → length w' ≡ 256 → ((i : ℕ) → i < 256 → Near (2 ^ (8 - suc k) * q) (get_or w i 0) (get_or w' i 0)) →
    (i : ℕ) → i < 256 → Near (2 ^ (8 - k) * q) (get_or (lazy_inverse_layer k w) i 0) (get_or (inverse_layer k w') i 0)
unfolding lazy_inverse_layer inverse_layer
inverse_step k h w w' size size' near i l =
    let d : 8 - suc k ≡ 7 - k = omega arith in
    let e : 2 ^ (8 - k) * q ≡ 2 ^ (7 - k) * q + 2 ^ (7 - k) * q = rw (twice k h) (omega arith) in
    rw e
    (layer_related lazy_inverse_low (lazy_inverse_high (2 ^ (7 - k) * q)) inverse_low inverse_high (2 ^ (7 - k)) (2 ^ k) (sizes k h) (inverse_factor (2 ^ k)) (Near (2 ^ (7 - k) * q)) (Near (2 ^ (7 - k) * q + 2 ^ (7 - k) * q))
    (λ b x y x' y'. inverse_low_lem (2 ^ (7 - k) * q) _ x y x' y') (λ b x y x' y'. inverse_high_lem (2 ^ (7 - k)) (pow_pos (7 - k)) _ x y x' y')
    w w' size size' (λ j m. rw d at (near j m)) i l)

-- in place of the reduced layers: below (k + 1) q before layer k
pub forward_near : (k : ℕ) → k ≤ 8 → (w : List ℕ) → length w ≡ 256 → ((i : ℕ) → get_or w i 0 < q) → (i : ℕ) → i < 256 → Near (suc k * q) (get_or (lazy_to k w) i 0) (get_or (forward_to k w) i 0)
unfolding lazy_to forward_to lazy_layer forward_layer
forward_near zero h w size low i l = record { below = omega (arith, low i); same = ≈_refl (get_or w i 0) }
forward_near (suc k) h w size low i l =
    let e : suc k * q + q ≡ suc (suc k) * q = omega arith in
    rw (← e)
    (layer_related lazy_low lazy_high forward_low forward_high (2 ^ (7 - k)) (2 ^ k) (sizes k (omega arith)) (forward_factor (2 ^ k)) (Near (suc k * q)) (Near (suc k * q + q))
    (λ b x y x' y'. forward_low_lem (suc k * q) _ x y x' y') (λ b x y x' y'. forward_high_lem (suc k * q) _ x y x' y')
    (lazy_to k w) (forward_to k w) (length_lazy k w ∙ size) (length_forward k w ∙ size) (forward_near k (omega arith) w size low) i l)

-- the same of the inverse: below 2^(7 − k) q before layer k
pub inverse_near : (k : ℕ) → k ≤ 8 → (w w' : List ℕ) → length w ≡ 256 → length w' ≡ 256 → ((i : ℕ) → i < 256 → Near (2 ^ (8 - k) * q) (get_or w i 0) (get_or w' i 0)) →
    (i : ℕ) → i < 256 → q ⊩ get_or (lazy_inverse_from k w) i 0 ≈ get_or (inverse_from k w') i 0
unfolding lazy_inverse_from inverse_from
inverse_near zero h w w' size size' near i l = (near i l).same
inverse_near (suc k) h w w' size size' near i l =
    inverse_near k (omega arith) (lazy_inverse_layer k w) (inverse_layer k w') (length_lazy_inverse k w ∙ size) (length_inverse_layer k w' ∙ size') (inverse_step k (omega arith) w w' size size' near) i l

-- ---- What the loops over the layers keep

pub forward_bound : (k : ℕ) → k ≤ 8 → (w₀ w : List ℕ) → length w₀ ≡ 256 → ((i : ℕ) → get_or w₀ i 0 < q) → w ≡ lazy_to k w₀ → (i : ℕ) → get_or w i 0 < suc k * q
forward_bound k h w₀ w size low e =
    everywhere w (suc k * q) (omega arith) (ap length e ∙ length_lazy k w₀ ∙ size) (λ i l. rw (← ap (λ v. get_or v i 0) e) at (forward_near k h w₀ size low i l).below)

pub inverse_bound : (k : ℕ) → k < 8 → (w w' : List ℕ) → length w ≡ 256 → ((i : ℕ) → get_or w i 0 < 2 ^ (8 - suc k) * q) → w' ≡ lazy_inverse_layer k w → (i : ℕ) → get_or w' i 0 < 2 ^ (8 - k) * q
inverse_bound k h w w' size low e =
    everywhere w' (2 ^ (8 - k) * q) (omega (arith, pow_pos (8 - k))) (ap length e ∙ length_lazy_inverse k w ∙ size)
    (λ i l. rw (← ap (λ v. get_or v i 0) e) at (inverse_step k h w w size size (λ j m. record { below = low j; same = ≈_refl (get_or w j 0) }) i l).below)
