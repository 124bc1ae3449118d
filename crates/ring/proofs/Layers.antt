-- A layer, place by place: for any two rules, any half block and any factors.
use mathlib.Core.Path.{◌≡◌, refl, sym, ap, ap₂, ◌∙◌}
use mathlib.Core.Logic.{◌≢◌}
use mathlib.Core.List.{List}
use Prim.Native.Nat.{ℕ, zero, suc, ◌+◌, ◌*◌, ◌-◌, ◌/◌, ◌%◌, ◌^◌, ◌≤◌, ◌<◌}
use native.Mathlib.Nat.{add-zero, mul-le-mul_right, lt_of_mul-lt-mul_right, two-pow-succ}
use native.Mathlib.Omega.{arith}
use native.Mathlib.Decide.{dec_lt}
use lib.Pow.{pow-add}
use lib.ListN.{length, get_or, set, length-set}
use lib.Seq.{get_or-set_same, get_or-set_other}
use Rattle.field.proofs.Division.{Split, split}
use Rattle.ring.specs.Ntt.{Rule, pair, block}
use Rattle.ring.specs.Layers.{layer, forward_layer, inverse_layer, forward_to, inverse_from}

module _ (low high : Rule) (half : ℕ) where
  pub length-pair : (z j : ℕ) (w : List ℕ) → length (pair low high half z j w) ≡ length w
  unfolding pair
  length-pair z j w = simp length-set

  pub length-block : (z start n : ℕ) (w : List ℕ) → length (block low high half z start n w) ≡ length w
  unfolding block
  length-block z start zero w = refl
  length-block z start (suc n) w = length-pair z (start + n) _ ∙ length-block z start n w

  pub length-layer : (z : ℕ → ℕ) (n : ℕ) (w : List ℕ) → length (layer low high half z n w) ≡ length w
  unfolding layer
  length-layer z zero w = refl
  length-layer z (suc n) w = length-block (z n) (n * (2 * half)) half _ ∙ length-layer z n w

  -- ---- a pair

  module _ (z j : ℕ) (w : List ℕ) where
    abbrev new_low : ℕ
    new_low = low z (get_or w j 0) (get_or w (j + half) 0)

    abbrev new_high : ℕ
    new_high = high z (get_or w j 0) (get_or w (j + half) 0)

    pair-other : (p : ℕ) → p ≢ j → p ≢ j + half → get_or (pair low high half z j w) p 0 ≡ get_or w p 0
    unfolding pair
    pair-other p a b = get_or-set_other (set w (j + half) new_high) j p new_low 0 a ∙ get_or-set_other w (j + half) p new_high 0 b

    pair-low : j < length w → get_or (pair low high half z j w) j 0 ≡ new_low
    unfolding pair
    pair-low h = get_or-set_same (set w (j + half) new_high) j new_low 0 (omega (arith, length-set w (j + half) new_high))

    pair-high : 0 < half → j + half < length w → get_or (pair low high half z j w) (j + half) 0 ≡ new_high
    unfolding pair
    pair-high pos h = get_or-set_other (set w (j + half) new_high) j (j + half) new_low 0 (omega arith) ∙ get_or-set_same w (j + half) new_high 0 h

  -- one of the two halves of a block: its places are s behind those of the lower half, and a pair puts f there
  record Side (f : Rule) (s : ℕ) : Type 0 where
    inside : s ≤ half
    apart : (i j : ℕ) → i < half → j < half → i ≢ j → (j + s ≢ i) × (j + s ≢ i + half)
    made : (z j : ℕ) (w : List ℕ) → 0 < half → j + half < length w → get_or (pair low high half z j w) (j + s) 0 ≡ f z (get_or w j 0) (get_or w (j + half) 0)

  low-side : Side low 0
  low-side =
      record {
        inside = omega arith;
        apart = λ i j h k ne. (omega arith, omega arith);
        made = λ z j w p h. rw (add-zero j) (pair-low z j w (omega arith));
      }

  high-side : Side high half
  high-side = record { inside = omega arith; apart = λ i j h k ne. (omega arith, omega arith); made = pair-high }

  -- ---- a block

  module _ (z start : ℕ) (w : List ℕ) where
    pub block-other : (n p : ℕ) → ((i : ℕ) → i < n → (p ≢ start + i) × (p ≢ start + i + half)) → get_or (block low high half z start n w) p 0 ≡ get_or w p 0
    unfolding block
    block-other zero p h = refl
    block-other (suc n) p h =
        let l = h n (omega arith) in
        pair-other z (start + n) _ p l.0 l.1 ∙ block-other n p (λ i k. h i (omega arith))

    module _ (fits : start + (half + half) ≤ length w) (f : Rule) (s : ℕ) (side : Side f s) where
      abbrev Replaced : ℕ → ℕ → Type 0
      Replaced n j = get_or (block low high half z start n w) (start + j + s) 0 ≡ f z (get_or w (start + j) 0) (get_or w (start + j + half) 0)

      block_at : (n : ℕ) → n ≤ half → (j : ℕ) → j < n → Replaced n j
      unfolding block
      block_at zero m j l = absurd (omega arith)
      block_at (suc n) m j l = go (dec_lt j n) (block_at n (omega arith) j)
        where
          go : Dec (j < n) → (j < n → Replaced n j) → get_or (pair low high half z (start + n) (block low high half z start n w)) (start + j + s) 0 ≡ f z (get_or w (start + j) 0) (get_or w (start + j + half) 0)
          go (yes p) ih =
              let d = side.apart n j (omega arith) (omega arith) (omega arith) in
              pair-other z (start + n) _ (start + j + s) (omega arith) (omega arith) ∙ ih p
          go (no p) ih =
              let e : n ≡ j = omega arith in
              rw e
              (side.made z (start + j) _ (omega arith) (omega (arith, length-block z start j w))
              ∙ ap₂ (f z) (block-other j (start + j) (λ i k. (omega arith, omega arith))) (block-other j (start + j + half) (λ i k. (omega arith, omega arith))))

  -- ---- a layer

  module _ (z : ℕ → ℕ) (w : List ℕ) where
    pub layer-behind : (n p : ℕ) → n * (2 * half) ≤ p → get_or (layer low high half z n w) p 0 ≡ get_or w p 0
    unfolding layer
    layer-behind zero p h = refl
    layer-behind (suc n) p h =
        block-other (z n) (n * (2 * half)) _ half p (λ i k. (omega arith, omega arith)) ∙ layer-behind n p (omega arith)

    module _ (f : Rule) (s : ℕ) (side : Side f s) where
      abbrev Made : List ℕ → ℕ → ℕ → Type 0
      Made u b j = get_or u (b * (2 * half) + j + s) 0 ≡ f (z b) (get_or w (b * (2 * half) + j) 0) (get_or w (b * (2 * half) + j + half) 0)

      layer-at : (n : ℕ) → n * (2 * half) ≤ length w → (b j : ℕ) → b < n → j < half → Made (layer low high half z n w) b j
      unfolding layer
      layer-at zero fits b j l k = absurd (omega arith)
      layer-at (suc n) fits b j l k = go (dec_lt b n) (λ p. layer-at n (omega arith) b j p k)
        where
          go : Dec (b < n) → (b < n → Made (layer low high half z n w) b j) → Made (block low high half (z n) (n * (2 * half)) half (layer low high half z n w)) b j
          go (yes p) ih =
              let m : suc b * (2 * half) ≤ n * (2 * half) = mul-le-mul_right (2 * half) p in
              let i : s ≤ half = side.inside in
              block-other (z n) (n * (2 * half)) _ half (b * (2 * half) + j + s) (λ i t. (omega arith, omega arith)) ∙ ih p
          go (no p) ih =
              let e : n ≡ b = omega arith in
              rw e
              (block_at (z b) (b * (2 * half)) _ (omega (arith, length-layer z b w, rw e at fits)) f s side half (omega arith) j k
              ∙ ap₂ (f (z b)) (layer-behind b (b * (2 * half) + j) (omega arith)) (layer-behind b (b * (2 * half) + j + half) (omega arith)))

    -- the j-th place of either half of block b
    module _ (n : ℕ) (fits : n * (2 * half) ≤ length w) (b j : ℕ) (l : b < n) (k : j < half) where
      pub layer-low : get_or (layer low high half z n w) (b * (2 * half) + j) 0 ≡ low (z b) (get_or w (b * (2 * half) + j) 0) (get_or w (b * (2 * half) + j + half) 0)
      layer-low = rw (add-zero (b * (2 * half) + j)) at (layer-at low 0 low-side n fits b j l k)

      pub layer-high : get_or (layer low high half z n w) (b * (2 * half) + j + half) 0 ≡ high (z b) (get_or w (b * (2 * half) + j) 0) (get_or w (b * (2 * half) + j + half) 0)
      layer-high = layer-at high half high-side n fits b j l k

-- ---- where a place stands in a layer

-- place i is the j-th of the lower or of the upper half of block b
pub data Place (half blocks i : ℕ) : Type 0 where
  lower : (b j : ℕ) → b < blocks → j < half → i ≡ b * (2 * half) + j → Place half blocks i
  upper : (b j : ℕ) → b < blocks → j < half → i ≡ b * (2 * half) + j + half → Place half blocks i

pub place : (half blocks i : ℕ) → blocks * half ≡ 128 → i < 256 → Place half blocks i
place half blocks i e h = go (dec_lt 0 half)
  where
    sides : (b o : ℕ) → b < blocks → Split i (2 * half) b o → Dec (o < half) → Place half blocks i
    sides b o l s (yes p) = lower b o l p s.parts
    sides b o l s (no p) = upper b (o - half) l (omega arith) (omega arith)

    go : Dec (0 < half) → Place half blocks i
    go (yes p) =
        let s = split i {b = 2 * half} (omega arith) in
        sides (i / (2 * half)) (i % (2 * half)) (lt_of_mul-lt-mul_right (2 * half) {m = i / (2 * half)} {n = blocks} (omega arith)) s (dec_lt (i % (2 * half)) half)
    go (no p) =
        let z : half ≡ 0 = omega arith in
        absurd (omega (arith, rw z at e))

-- ---- the sizes of layer k

pub sizes : (k : ℕ) → k < 8 → 2 ^ k * 2 ^ (7 - k) ≡ 128
sizes k h = sym (pow-add 2 k (7 - k)) ∙ ap (λ n. 2 ^ n) (let e : k + (7 - k) ≡ 7 = omega arith in e)

pub twice : (k : ℕ) → k < 8 → 2 ^ (8 - k) ≡ 2 ^ (7 - k) + 2 ^ (7 - k)
twice k h = ap (λ n. 2 ^ n) (let e : 8 - k ≡ suc (7 - k) = omega arith in e) ∙ two-pow-succ (7 - k)

pub length_forward : (k : ℕ) (w : List ℕ) → length (forward_to k w) ≡ length w
unfolding forward_to forward_layer
length_forward zero w = refl
length_forward (suc k) w = length-layer _ _ _ _ _ _ ∙ length_forward k w

pub length_inverse_layer : (k : ℕ) (w : List ℕ) → length (inverse_layer k w) ≡ length w
unfolding inverse_layer
length_inverse_layer k w = length-layer _ _ _ _ _ _

pub length_inverse : (k : ℕ) (w : List ℕ) → length (inverse_from k w) ≡ length w
unfolding inverse_from
length_inverse zero w = refl
length_inverse (suc k) w = length_inverse k _ ∙ length_inverse_layer k w
