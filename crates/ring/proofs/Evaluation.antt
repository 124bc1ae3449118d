-- Each entry of the transform is the polynomial's value at a root: a layer halves the blocks, and the value of an entry's block stays.
use mathlib.Core.Path.{◌≡◌, ◌∙◌}
use mathlib.Core.List.{List}
use Prim.Native.Nat.{ℕ, zero, suc, ◌+◌, ◌*◌, ◌-◌, ◌/◌, ◌^◌, ◌≤◌, ◌<◌}
use native.Mathlib.Nat.{pow-zero, zero-add}
use native.Mathlib.Omega.{arith}
use lib.ListN.{length, get_or}
use Rattle.field.specs.Field.{q, add, sub, mul}
use Rattle.field.specs.Sums.{sum_to}
use Rattle.field.specs.Congruence.{◌⊩◌≈◌}
use Rattle.field.proofs.Division.{split_div}
use Rattle.field.proofs.Sums.{sum_cong}
use Rattle.field.proofs.Congruence.{≈_refl, ≈_eq, ≈_sym, ≈_trans, ≈_mul}
use Rattle.field.proofs.Solve.{at, ◌⊕◌, ◌⊖◌, ◌⊗◌, red, solve_by}
use Rattle.ring.specs.Factors.{root}
use Rattle.ring.specs.Ntt.{forward_low, forward_high}
use Rattle.ring.specs.Layers.{forward_factor, forward_layer, forward_to}
use Rattle.ring.proofs.Layers.{layer-low, layer-high, Place, lower, upper, place, sizes, twice, length_forward}
use Rattle.ring.proofs.Sums.{value, halve}
use Rattle.ring.proofs.Table.{root-low, root-high}

-- the two rules, where the root's power is the factor or its negative
module _ (m : ℕ) (pos : 0 < m) where
  low-fold : (z x y p : ℕ) → m ⊩ p ≈ z → m ⊩ add m x (mul m z y) ≈ x + p * y
  low-fold z x y p e = solve_by m pos (at (z * y)) (at (p * y)) (≈_mul (≈_sym e) (≈_refl y)) (red (at x ⊕ red (at z ⊗ at y))) (at x ⊕ at p ⊗ at y) (omega arith)

  high-fold : (z x y p : ℕ) → m ⊩ p + z ≈ 0 → m ⊩ sub m x (mul m z y) ≈ x + p * y
  high-fold z x y p e = solve_by m pos (at (0 * y)) (at ((p + z) * y)) (≈_mul (≈_sym e) (≈_refl y)) (red (at x ⊖ red (at z ⊗ at y))) (at x ⊕ at p ⊗ at y) (omega arith)

-- the value at r of the block of n numbers in which place i stands
abbrev block_value : ℕ → List ℕ → ℕ → ℕ → ℕ
block_value n w i r = value n (λ (j : ℕ). get_or w (i / n * n + j) 0) r

module _ (k : ℕ) (small : k < 8) (w : List ℕ) (size : length w ≡ 256) where
  abbrev half : ℕ
  half = 2 ^ (7 - k)

  fits : 2 ^ k * (2 * half) ≤ length w
  fits = omega (arith, sizes k small)

  lower_step : (b j : ℕ) → b < 2 ^ k → j < half → q ⊩ value half (λ t. get_or (forward_layer k w) (b * (2 * half) + t) 0) (root (b * (2 * half) + j)) ≈ value (half + half) (λ t. get_or w (b * (2 * half) + t) 0) (root (b * (2 * half) + j))
  unfolding forward_layer forward_low
  lower_step b j l h =
      halve (root (b * (2 * half) + j)) half (λ t. get_or w (b * (2 * half) + t) 0) (λ t. get_or (forward_layer k w) (b * (2 * half) + t) 0)
      (λ t s. let e : b * (2 * half) + t + half ≡ b * (2 * half) + (half + t) = omega arith in
      rw (layer-low forward_low forward_high half (forward_factor (2 ^ k)) w (2 ^ k) fits b t l s, e)
      (low-fold q (omega arith) (forward_factor (2 ^ k) b) _ _ _ (root-low k b j small l h)))

  upper_step : (b j : ℕ) → b < 2 ^ k → j < half →
      q ⊩ value half (λ t. get_or (forward_layer k w) (b * (2 * half) + half + t) 0) (root (b * (2 * half) + j + half)) ≈ value (half + half) (λ t. get_or w (b * (2 * half) + t) 0) (root (b * (2 * half) + j + half))
  unfolding forward_layer forward_high
  upper_step b j l h =
      halve (root (b * (2 * half) + j + half)) half (λ t. get_or w (b * (2 * half) + t) 0) (λ t. get_or (forward_layer k w) (b * (2 * half) + half + t) 0)
      (λ t s. let e : b * (2 * half) + t + half ≡ b * (2 * half) + (half + t) = omega arith in
      let f : b * (2 * half) + half + t ≡ b * (2 * half) + t + half = omega arith in
      rw (f, layer-high forward_low forward_high half (forward_factor (2 ^ k)) w (2 ^ k) fits b t l s, e)
      (high-fold q (omega arith) (forward_factor (2 ^ k) b) _ _ _ (root-high k b j small l h)))

  step : (i : ℕ) → i < 256 → q ⊩ block_value half (forward_layer k w) i (root i) ≈ block_value (half + half) w i (root i)
  step i l = go (place half (2 ^ k) i (sizes k small) l)
    where
      go : Place half (2 ^ k) i → q ⊩ block_value half (forward_layer k w) i (root i) ≈ block_value (half + half) w i (root i)
      go (lower b j lb lj e) =
          let d : i / half ≡ 2 * b = split_div (record { parts = omega arith; small = lj }) in
          let d' : i / (half + half) ≡ b = split_div {l = j} (record { parts = omega arith; small = omega arith }) in
          let s : 2 * b * half ≡ b * (2 * half) = omega arith in
          let s' : b * (half + half) ≡ b * (2 * half) = omega arith in
          rw (d, d', s, s', e) (lower_step b j lb lj)
      go (upper b j lb lj e) =
          let d : i / half ≡ 2 * b + 1 = split_div (record { parts = omega arith; small = lj }) in
          let d' : i / (half + half) ≡ b = split_div {l = j + half} (record { parts = omega arith; small = omega arith }) in
          let s : (2 * b + 1) * half ≡ b * (2 * half) + half = omega arith in
          let s' : b * (half + half) ≡ b * (2 * half) = omega arith in
          rw (d, d', s, s', e) (upper_step b j lb lj)

values_to : (k : ℕ) → k ≤ 8 → (w : List ℕ) → length w ≡ 256 → (i : ℕ) → i < 256 → q ⊩ block_value (2 ^ (8 - k)) (forward_to k w) i (root i) ≈ value 256 (λ j. get_or w j 0) (root i)
unfolding forward_to
values_to zero h w size i l =
    let e : i / 256 * 256 ≡ 0 = omega arith in
    ≈_eq (sum_cong 256 _ _ (λ j s. rw (e, zero-add j)))
values_to (suc k) h w size i l =
    let e : 8 - suc k ≡ 7 - k = omega arith in
    rw e (≈_trans (step k (omega arith) (forward_to k w) (length_forward k w ∙ size) i l) (rw (twice k (omega arith)) at (values_to k (omega arith) w size i l)))

pub entry_value : (w : List ℕ) (i : ℕ) → length w ≡ 256 → i < 256 → q ⊩ get_or (forward_to 8 w) i 0 ≈ value 256 (λ j. get_or w j 0) (root i)
unfolding sum_to
entry_value w i size l =
    let e : i / 1 * 1 + 0 ≡ i = omega arith in
    ≈_trans (≈_eq (rw (e, pow-zero (root i)) (omega arith))) (values_to 8 (omega arith) w size i l)
