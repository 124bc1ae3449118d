-- A turn of each loop.
use mathlib.Core.Path.{◌≡◌, refl, sym, ap, ap₂, ◌∙◌}
use mathlib.Core.List.{List}
use Prim.Native.Nat.{ℕ, suc, ◌+◌, ◌*◌, ◌-◌, ◌^◌, ◌≤◌, ◌<◌}
use native.Mathlib.Numerals.{add-one}
use native.Mathlib.Omega.{arith}
use native.Mathlib.Decide.{dec_lt}
use native.Mathlib.Nat.{mul-le-mul_left, mul-le-mul_right}
use lib.ListN.{length, get_or, set}
use Rattle.field.specs.Field.{q}
use Rattle.lists.specs.Lists.{fill, list_to}
use Rattle.lists.proofs.Fill.{fill_none, front-more, front-behind, whole_is}
use Rattle.ring.specs.Ntt.{Rule, pair, block}
use Rattle.ring.specs.Layers.{layer, forward_factor, inverse_factor, lazy_low, lazy_high, lazy_inverse_low, lazy_inverse_high, lazy_layer, lazy_inverse_layer, lazy_to, lazy_inverse_from}
use Rattle.ring.proofs.Layers.{length-layer, sizes, block-other, layer-behind}

module _ (low high : Rule) (half : ℕ) where
  pub block_none : (z start : ℕ) (w : List ℕ) → w ≡ block low high half z start 0 w
  unfolding block
  block_none z start w = refl

  pub block_turn : (z start n : ℕ) (w₀ w w' : List ℕ) → w ≡ block low high half z start n w₀ → w' ≡ pair low high half z (start + n) w → w' ≡ block low high half z start (n + 1) w₀
  unfolding block
  block_turn z start n w₀ w w' e t = rw add-one (t ∙ ap (pair low high half z (start + n)) e)

  -- the pairs that the loop has not reached: both numbers are those of the start
  pub block_ahead : (z start n i : ℕ) (w₀ w : List ℕ) → w ≡ block low high half z start n w₀ → n ≤ i → i < half
      → (get_or w (start + i) 0 ≡ get_or w₀ (start + i) 0) × (get_or w (start + i + half) 0 ≡ get_or w₀ (start + i + half) 0)
  block_ahead z start n i w₀ w e l m = (
    ap (λ l. get_or l (start + i) 0) e ∙ block-other low high half z start w₀ n (start + i) (λ j k. (omega arith, omega arith)),
    ap (λ l. get_or l (start + i + half) 0) e ∙ block-other low high half z start w₀ n (start + i + half) (λ j k. (omega arith, omega arith)),
  )

  pub layer_ahead : (z : ℕ → ℕ) (n i : ℕ) (w₀ w : List ℕ) → w ≡ layer low high half z n w₀ → n * (2 * half) ≤ i → get_or w i 0 ≡ get_or w₀ i 0
  layer_ahead z n i w₀ w e l = ap (λ l. get_or l i 0) e ∙ layer-behind low high half z w₀ n i l

  pub layer-none : (z : ℕ → ℕ) (w : List ℕ) → w ≡ layer low high half z 0 w
  unfolding layer
  layer-none z w = refl

  pub layer_turn : (z : ℕ → ℕ) (n f : ℕ) (w₀ w w' : List ℕ) → w ≡ layer low high half z n w₀ → f ≡ z n → w' ≡ block low high half f (n * (2 * half)) half w → w' ≡ layer low high half z (n + 1) w₀
  unfolding layer
  layer_turn z n f w₀ w w' e g t = rw (add-one, ← g) (t ∙ ap (block low high half f (n * (2 * half)) half) e)

  pub layer-size : (z : ℕ → ℕ) (n : ℕ) (w₀ w : List ℕ) → w ≡ layer low high half z n w₀ → length w ≡ length w₀
  layer-size z n w₀ w e = ap length e ∙ length-layer low high half z n w₀

-- ---- loops that write each number of a list from the first on

fill_turn : (s : List ℕ) (n : ℕ) (f : ℕ → ℕ) (w : List ℕ) (x : ℕ) → w ≡ fill s 0 n f → x ≡ f n → set w n x ≡ fill s 0 (n + 1) f
fill_turn s n f w x e g = rw (e, g) (sym (front-more s n f))

-- each number made of the one that stood there
module _ (g : ℕ → ℕ → ℕ) (s : List ℕ) where
  abbrev pub each : ℕ → ℕ
  each i = g i (get_or s i 0)

  pub each_turn : (n : ℕ) (w : List ℕ) (x : ℕ) → w ≡ fill s 0 n each → x ≡ g n (get_or w n 0) → set w n x ≡ fill s 0 (n + 1) each
  each_turn n w x e h = fill_turn s n each w x e (h ∙ ap (g n) (ap (λ l. get_or l n 0) e ∙ front-behind s n each n (omega arith)))

  pub each_none : s ≡ fill s 0 0 each
  each_none = sym (fill_none s 0 each)

  pub each_whole : (n : ℕ) (w : List ℕ) → w ≡ fill s 0 n each → n ≡ 256 → length s ≡ 256 → w ≡ list_to 256 each
  each_whole n w e h size = e ∙ ap (λ (m : ℕ). fill s 0 m each) h ∙ whole_is s 256 each size

-- ---- loops over the layers: h and b are the sizes of layer n

pub sizes_of : (n h b : ℕ) → n < 8 → h ≡ 2 ^ (7 - n) → b ≡ 2 ^ n → b * h ≡ 128
sizes_of n h b l eh eb = rw (eh, eb) (sizes n l)

module _ (n h b : ℕ) (eh : h ≡ 2 ^ (7 - n)) (eb : b ≡ 2 ^ n) where
  pub forward_turn : (w₀ w w' : List ℕ) → w ≡ lazy_to n w₀ → w' ≡ layer lazy_low lazy_high h (forward_factor b) b w → w' ≡ lazy_to (n + 1) w₀
  unfolding lazy_to lazy_layer
  forward_turn w₀ w w' e t =
      rw add-one (t ∙ ap₂ (λ h b. layer lazy_low lazy_high h (forward_factor b) b w) eh eb ∙ ap (lazy_layer n) e)

  pub inverse_layer_is : (w w' : List ℕ) → w' ≡ layer lazy_inverse_low (lazy_inverse_high (h * q)) h (inverse_factor b) b w → w' ≡ lazy_inverse_layer n w
  unfolding lazy_inverse_layer
  inverse_layer_is w w' t = t ∙ ap₂ (λ h b. layer lazy_inverse_low (lazy_inverse_high (h * q)) h (inverse_factor b) b w) eh eb

  -- what is left of the inverse gives what all of it gives
  pub inverse_turn : (m : ℕ) (w₀ w w' : List ℕ) → m ≡ n + 1 → lazy_inverse_from m w ≡ lazy_inverse_from 8 w₀ → w' ≡ layer lazy_inverse_low (lazy_inverse_high (h * q)) h (inverse_factor b) b w → lazy_inverse_from n w' ≡ lazy_inverse_from 8 w₀
  unfolding lazy_inverse_from
  inverse_turn m w₀ w w' k e t = ap (lazy_inverse_from n) (inverse_layer_is w w' t) ∙ (rw (k, add-one) at e)

pub forward_none : (w : List ℕ) → w ≡ lazy_to 0 w
unfolding lazy_to
forward_none w = refl

pub inverse_done : (n : ℕ) (w₀ w : List ℕ) → n ≡ 0 → lazy_inverse_from n w ≡ lazy_inverse_from 8 w₀ → w ≡ lazy_inverse_from 8 w₀
unfolding lazy_inverse_from
inverse_done n w₀ w h e = rw h at e

-- ---- where block n of a layer stands

pub record Room (half blocks n : ℕ) : Type 0 where
  pub some : 0 < half
  pub halves : half ≤ 128
  pub count : blocks ≤ 128
  pub fits : n * (2 * half) + (half + half) ≤ 256

pub room : (half blocks n : ℕ) → blocks * half ≡ 128 → n < blocks → Room half blocks n
room half blocks n e l = go (dec_lt 0 half)
  where
    go : Dec (0 < half) → Room half blocks n
    go (yes p) =
        let m : suc n * half ≤ blocks * half = mul-le-mul_right half l in
        let k : 1 * half ≤ blocks * half = mul-le-mul_right half (let s : 1 ≤ blocks = omega arith in s) in
        let b : blocks * 1 ≤ blocks * half = mul-le-mul_left blocks p in
        omega arith
    go (no p) =
        let z : half ≡ 0 = omega arith in
        absurd (omega (arith, rw z at e))
