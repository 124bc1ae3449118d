-- A layer that takes another back, up to the factor 2; each layer of the inverse takes its layer of the transform back.
use mathlib.Core.Path.{◌≡◌, ◌∙◌}
use mathlib.Core.List.{List}
use Prim.Native.Nat.{ℕ, zero, suc, ◌+◌, ◌*◌, ◌-◌, ◌^◌, ◌≤◌, ◌<◌}
use native.Mathlib.Nat.{pow-suc, mul-le-mul_right}
use native.Mathlib.Omega.{arith}
use lib.ListN.{length, get_or}
use Rattle.field.specs.Field.{q, add, sub, mul}
use Rattle.field.specs.Congruence.{◌⊩◌≈◌}
use Rattle.field.proofs.Congruence.{≈_refl, ≈_eq, ≈_sym, ≈_trans, ≈_add, ≈_mul, ≈_mod}
use Rattle.field.proofs.Solve.{at, ◌⊕◌, ◌⊖◌, ◌⊗◌, red, solve, solve_by}
use Rattle.ring.specs.Ntt.{Rule, forward_low, forward_high, inverse_low, inverse_high}
use Rattle.ring.specs.Layers.{layer, forward_factor, inverse_factor, forward_layer, inverse_layer, forward_to, inverse_from}
use Rattle.ring.proofs.Layers.{length_inverse_layer, layer-low, layer-high, Place, lower, upper, place, sizes, length_forward}
use Rattle.ring.proofs.Table.{factors_inverse}

-- ---- The rules

-- a sum and a difference, times s, and back
module _ (m : ℕ) (pos : 0 < m) (s x y u v : ℕ) (h : m ⊩ u ≈ s * add m x y) (k : m ⊩ v ≈ s * sub m x y) where
  pub sum_back : m ⊩ add m u v ≈ 2 * s * x
  sum_back =
      ≈_trans (≈_mod (u + v))
      (≈_trans (≈_add h k)
      (solve m pos (at s ⊗ red (at x ⊕ at y) ⊕ at s ⊗ red (at x ⊖ at y)) (at (2 * s) ⊗ at x) (omega arith)))

  pub difference_back : m ⊩ sub m u v ≈ 2 * s * y
  difference_back =
      solve_by m pos (at u ⊕ at s ⊗ red (at x ⊖ at y)) (at s ⊗ red (at x ⊕ at y) ⊕ at v) (≈_add h (≈_sym k))
      (red (at u ⊖ at v)) (at (2 * s) ⊗ at y) (omega arith)

-- a product with z, times s, and back
pub product-back : (m : ℕ) → 0 < m → (s c z y v : ℕ) → m ⊩ c * z ≈ 1 → m ⊩ v ≈ s * mul m z y → m ⊩ mul m c v ≈ s * y
product-back m pos s c z y v e h =
    ≈_trans (≈_mod (c * v))
    (≈_trans (≈_mul (≈_refl c) h)
    (solve_by m pos (at (c * z * (s * y))) (at (1 * (s * y))) (≈_mul e (≈_refl (s * y)))
    (at c ⊗ (at s ⊗ red (at z ⊗ at y))) (at s ⊗ at y) (omega arith)))

-- ---- A layer and back

-- each number of u is s times that of x, modulo q
abbrev pub Times : ℕ → List ℕ → List ℕ → Type 0
Times s u x = (i : ℕ) → i < 256 → q ⊩ get_or u i 0 ≈ s * get_or x i 0

-- a pair made by two rules, times s, and back by two others
abbrev PairBack : Rule → Rule → Rule → Rule → ℕ → ℕ → ℕ → Type 0
PairBack low high low' high' z z' s =
    (x y u v : ℕ) → q ⊩ u ≈ s * low z x y → q ⊩ v ≈ s * high z x y → (q ⊩ low' z' u v ≈ 2 * s * x) × (q ⊩ high' z' u v ≈ 2 * s * y)

-- two layers, where each pair of the first is taken back
module _ (low high low' high' : Rule) (half blocks : ℕ) (e : blocks * half ≡ 128) (z z' : ℕ → ℕ) (s : ℕ)
    (pairs : (b : ℕ) → b < blocks → PairBack low high low' high' (z b) (z' b) s)
    (x u : List ℕ) (size : length x ≡ 256) (size' : length u ≡ 256) (same : Times s u (layer low high half z blocks x)) where
  room : blocks * (2 * half) ≡ 256
  room = omega (arith, e)

  module _ (b j : ℕ) (lb : b < blocks) (lj : j < half) where
    abbrev p : ℕ
    p = b * (2 * half) + j

    inside : p + half < 256
    inside =
        let m : suc b * (2 * half) ≤ blocks * (2 * half) = mul-le-mul_right (2 * half) lb in
        omega (arith, room)

    low-is : q ⊩ get_or u p 0 ≈ s * low (z b) (get_or x p 0) (get_or x (p + half) 0)
    low-is = rw (layer-low low high half z x blocks (omega (arith, room)) b j lb lj) at (same p (omega (arith, inside)))

    high_is : q ⊩ get_or u (p + half) 0 ≈ s * high (z b) (get_or x p 0) (get_or x (p + half) 0)
    high_is = rw (layer-high low high half z x blocks (omega (arith, room)) b j lb lj) at (same (p + half) inside)

  pub layer-back : Times (2 * s) (layer low' high' half z' blocks u) x
  layer-back i l = go (place half blocks i e l)
    where
      go : Place half blocks i → q ⊩ get_or (layer low' high' half z' blocks u) i 0 ≈ 2 * s * get_or x i 0
      go (lower b j lb lj d) =
          rw (d, layer-low low' high' half z' u blocks (omega (arith, room)) b j lb lj)
          (pairs b lb _ _ _ _ (low-is b j lb lj) (high_is b j lb lj)).0
      go (upper b j lb lj d) =
          rw (d, layer-high low' high' half z' u blocks (omega (arith, room)) b j lb lj)
          (pairs b lb _ _ _ _ (low-is b j lb lj) (high_is b j lb lj)).1

-- ---- The inverse after the transform

inverse_back : (k : ℕ) → k < 8 → (s : ℕ) (x u : List ℕ) → length x ≡ 256 → length u ≡ 256
    → Times s u (forward_layer k x) → Times (2 * s) (inverse_layer k u) x
unfolding forward_layer inverse_layer forward_low forward_high inverse_low inverse_high
inverse_back k small s =
    layer-back forward_low forward_high inverse_low inverse_high (2 ^ (7 - k)) (2 ^ k) (sizes k small) (forward_factor (2 ^ k)) (inverse_factor (2 ^ k)) s
    (λ b l x y u v h g.
    let d = difference_back q (omega arith) s x _ u v h g in
    (sum_back q (omega arith) s x _ u v h g, product-back q (omega arith) (2 * s) _ _ y _ (factors_inverse k b small l) d))

-- k layers and back
pub layers_back : (k : ℕ) → k ≤ 8 → (s : ℕ) (x u : List ℕ) → length x ≡ 256 → length u ≡ 256
    → Times s u (forward_to k x) → Times (s * 2 ^ k) (inverse_from k u) x
unfolding forward_to inverse_from
layers_back zero h s x u lx lu same i l = ≈_trans (same i l) (≈_eq (omega arith))
layers_back (suc k) h s x u lx lu same i l =
    ≈_trans
    (layers_back k (omega arith) (2 * s) x (inverse_layer k u) lx (length_inverse_layer k u ∙ lu)
    (inverse_back k (omega arith) s (forward_to k x) u (length_forward k x ∙ lx) lu same) i l)
    (≈_eq (rw (pow-suc 2 k) (omega arith)))
