-- t(d) − C is the high part: d the quotient of y + r by α, C where y + r is a multiple of α above s × α. A high part is below s.
use mathlib.Core.Path.{◌≡◌, refl, ap, ap₂, subst, ◌∙◌}
use Prim.Native.Nat.{ℕ, zero, suc, ◌+◌, ◌-◌, ◌*◌, ◌/◌, ◌%◌, ◌≤◌, ◌<◌}
use native.Mathlib.Nat.{mul-le-mul_right, le_of_mul-le-mul_right, lt_of_mul-lt-mul_right, mod-eq_of_lt, mod-lt, mul-one, mul-zero, one-mul, mul-le-mul_left, mod-mod}
use native.Mathlib.Omega.{arith}
use mathlib.Core.Bool.{Bool, true, false, cond}
use lib.Dec.{ltb, eqb}
use borrow.Author.Tests.{lt-ltb, le-ltb, eq-eqb, ne_eqb, eqb-false}
use Rattle.lists.specs.Answers.{bit}
use Rattle.lists.proofs.Indicators.{lt_is, lt_no, lt_view, lt_one, lt_zero, eq_is, eq_lt, eq_gt, eq_view, eq_one, eq_zero, bit_le, off, on, bit_view}
use Rattle.field.specs.Field.{sub}
use Rattle.field.specs.Sums.{sum_to}
use Rattle.field.proofs.Division.{Split, split, split_div, mod_same, mod_less, mod_view, unmask, mod_sub}
use Rattle.settings.specs.Sets.{Scale}
use Rattle.rounding.specs.Plain.{shifted, high_of_shifted, high_part}
use Rattle.rounding.specs.Rounds.{zero_digit, top_sum, top, over, nonzero_count, wrap_of, high_result}
use Rattle.settings.specs.Theorems.{Lawful}
use Rattle.rounding.proofs.Radix.{unit-alpha, top-is, Zeros, all-zero, some-not, zeros_view}
use Rattle.rounding.proofs.ZeroCheck.{check-is}

-- C as an indicator: the low part of the sum is 0, and its top digit above s
abbrev pub wrap : Scale → ℕ → ℕ → ℕ
wrap p low d = bit (eqb low 0) * over p.parts d

-- ---- the two forms of each definition
module _ (p : Scale) where
  top_below : (d : ℕ) → d < p.parts → top p.parts d ≡ d
  unfolding top
  top_below d h = rw (lt-ltb d p.parts h)

  top_above : (d : ℕ) → p.parts ≤ d → top p.parts d ≡ d - p.parts
  unfolding top
  top_above d h = rw (le-ltb d p.parts h)

  high-last : (w : ℕ) → w ≡ p.modulus - 1 → high_of_shifted p w ≡ 0
  unfolding high_of_shifted
  high-last w h = rw (eq-eqb w (p.modulus - 1) h)

  high-other : {w k l : ℕ} → (w ≡ p.modulus - 1 → ⊥) → Split w p.alpha k l → high_of_shifted p w ≡ k
  unfolding high_of_shifted
  high-other {w} h c = rw (ne_eqb w (p.modulus - 1) h) (split_div c)

  wrap_le : (low d : ℕ) → wrap p low d ≤ top p.parts d
  wrap_le low d =
      elim (lt_view p.parts d) [
        | lt_is a e ↦ rw (e, mul-one (bit (eqb low 0)), top_above d (omega arith)) (omega (arith, bit_le (eqb low 0)))
        | lt_no a e ↦ rw (e, mul-zero (bit (eqb low 0))) (omega arith)
      ]

module _ (p : Scale) (ok : Lawful p) where
  -- x is y + r, d and l its quotient and remainder by α; below the modulus
  sum_low : (x d l : ℕ) → Split x p.alpha d l → x < p.modulus → top p.parts d - wrap p l d ≡ high_of_shifted p x
  sum_low x d l c h =
      elim (lt_view d p.parts) [
        | lt_is a e ↦
            let m : suc d * p.alpha ≤ p.parts * p.alpha = mul-le-mul_right p.alpha a in
            rw (top_below p d a, lt_zero {a = p.parts} {b = d} (omega arith), mul-zero (bit (eqb l 0)), high-other p {w = x} (λ z. omega (arith, ok)) c) (omega arith)
        | lt_no a e ↦
            let m : p.parts * p.alpha ≤ d * p.alpha = mul-le-mul_right p.alpha a in
            let n : d ≤ p.parts = le_of_mul-le-mul_right {m = d} {n = p.parts} {k = p.alpha} (omega (arith, ok)) ok.some_alpha in
            rw (top_above p d a, high-last p x (omega (arith, ok))) (omega arith)
      ]

  -- past the modulus: d is s + e, and w = x − modulus
  sum-high : (x e l w : ℕ) → Split x p.alpha (p.parts + e) l → w + p.modulus ≡ x → w + 1 < p.modulus → top p.parts (p.parts + e) - wrap p l (p.parts + e) ≡ high_of_shifted p w
  sum-high x zero l w c h k =
      let v : Split w p.alpha 0 (l - 1) = record { parts = omega (arith, ok); small = omega (arith, ok) } in
      rw (top_above p (p.parts + 0) (omega arith), high-other p {w = w} (λ z. omega arith) v) (omega arith)
  sum-high x (suc e) l w c h k =
      rw (top_above p (p.parts + suc e) (omega arith), lt_one {a = p.parts} {b = p.parts + suc e} (omega arith), mul-one (bit (eqb l 0)))
      (elim (eq_view l 0) [
        | eq_is a i ↦
            let v : Split w p.alpha e (p.alpha - 1) = record { parts = omega (arith, ok); small = omega (arith, ok) } in
            rw (i, high-other p {w = w} (λ z. omega arith) v) (omega arith)
        | eq_lt a i ↦ omega arith
        | eq_gt a i ↦
            let v : Split w p.alpha (suc e) (l - 1) = record { parts = omega (arith, ok); small = omega (arith, ok) } in
            rw (i, high-other p {w = w} (λ z. omega arith) v) (omega arith)
      ])

  pub high_sum : (y r : ℕ) → y < p.modulus → r < p.modulus → top p.parts ((y + r) / p.alpha) - wrap p ((y + r) % p.alpha) ((y + r) / p.alpha) ≡ high_of_shifted p ((y + r) % p.modulus)
  high_sum y r hy hr =
      let c = split (y + r) {b = p.alpha} ok.some_alpha in
      let d : ℕ = (y + r) / p.alpha in
      elim (mod_view (y + r) p.modulus (omega arith)) [
        | mod_same a e ↦ rw e (sum_low (y + r) d ((y + r) % p.alpha) c a)
        | mod_less a e ↦
            let m : p.parts < suc d = lt_of_mul-lt-mul_right p.alpha {m = p.parts} {n = suc d} (omega (arith, ok)) in
            let f : p.parts + (d - p.parts) ≡ d = omega arith in
            rw f at (sum-high (y + r) (d - p.parts) ((y + r) % p.alpha) ((y + r) % p.modulus) (rw f c) e (omega arith))
      ]

  -- t(d) is below the modulus
  pub top_small : (y r : ℕ) → y < p.modulus → r < p.modulus → top p.parts ((y + r) / p.alpha) < p.modulus
  top_small y r hy hr =
      let c = split (y + r) {b = p.alpha} ok.some_alpha in
      let d : ℕ = (y + r) / p.alpha in
      let l : d ≤ p.parts + p.parts = le_of_mul-le-mul_right {m = d} {n = p.parts + p.parts} {k = p.alpha} (omega (arith, ok)) ok.some_alpha in
      let s : p.parts * 1 ≤ p.parts * p.alpha = mul-le-mul_left p.parts ok.some_alpha in
      elim (lt_view d p.parts) [
        | lt_is a e ↦ rw (top_below p d a) (omega (arith, ok))
        | lt_no a e ↦ rw (top_above p d a) (omega (arith, ok))
      ]

  -- C: five less the zeros and G is 0 just where the sum is a multiple of α and G is 1
  pub nonzero_count_zero : (y r : ℕ) → bit (eqb (nonzero_count p y r) 0) ≡ wrap p ((y + r) % p.alpha) (top_sum p y r)
  unfolding nonzero_count
  nonzero_count_zero y r =
      let g : ℕ = over p.parts (top_sum p y r) in
      let z : ℕ = sum_to 4 (zero_digit p y r) in
      let b : g ≤ 1 = bit_le (ltb p.parts (top_sum p y r)) in
      let view : Zeros 4 z ((y + r) % p.alpha) = subst (λ (u : ℕ). Zeros 4 z ((y + r) % u)) (unit-alpha p ok) (zeros_view p ok y r 4 (omega arith)) in
      go z ((y + r) % p.alpha) g b view
    where
      go : (z l g : ℕ) → g ≤ 1 → Zeros 4 z l → bit (eqb (5 - (z + g)) 0) ≡ bit (eqb l 0) * g
      go z l g h (all-zero a e) =
          rw (a, eq_one e, one-mul g) (elim (bit_view g h) [ off f ↦ rw f (eq_zero {a = 5 - (4 + 0)} {b = 0} (omega arith)) | on f ↦ rw f (eq_one {a = 5 - (4 + 1)} {b = 0} refl) ])
      go z l g h (some-not a e) =
          rw (eq_zero {a = 5 - (z + g)} {b = 0} (omega arith), eq_zero {a = l} {b = 0} (omega arith)) (omega arith)

  pub nonzero_count_le : (y r : ℕ) → nonzero_count p y r ≤ 5
  unfolding nonzero_count
  nonzero_count_le y r = omega arith

  -- the whole run of HIGH, from the coefficient and any two masks
  pub result-is : (w r ρ : ℕ) → w < p.modulus → r < p.modulus → ρ < p.modulus → high_result p ρ (sub p.modulus (shifted p w) r) r ≡ high_part p w
  result-is w r ρ hw hr hρ =
      let m : ℕ = p.modulus in
      let y : ℕ = sub m (shifted p w) r in
      let pos : 0 < m = omega arith in
      let hy : y < m = mod-lt (shifted p w + (m - r % m)) pos in
      let c : wrap_of p ρ y r ≡ wrap p ((y + r) % p.alpha) ((y + r) / p.alpha) =
      check-is m 5 pos ok.checks ρ (nonzero_count p y r) hρ (nonzero_count_le y r) ∙ nonzero_count_zero y r ∙ ap (wrap p ((y + r) % p.alpha)) (top-is p ok y r) in
      let t : top p.parts (top_sum p y r) ≡ top p.parts ((y + r) / p.alpha) = ap (top p.parts) (top-is p ok y r) in
      let le = wrap_le p ((y + r) % p.alpha) ((y + r) / p.alpha) in
      let small = top_small y r hy hr in
      let back : (y + r) % m ≡ shifted p w = rw (mod-eq_of_lt hr) (unmask m (shifted p w) r (omega arith) ∙ mod-mod (w + (p.alpha / 2 - 1)) m) in
      ap₂ (sub m) t c
      ∙ ap (λ (x : ℕ). (top p.parts ((y + r) / p.alpha) + (m - x)) % m) (mod-eq_of_lt {n = wrap p ((y + r) % p.alpha) ((y + r) / p.alpha)} (omega arith))
      ∙ mod_sub m (top p.parts ((y + r) / p.alpha)) (wrap p ((y + r) % p.alpha) ((y + r) / p.alpha)) small le
      ∙ high_sum y r hy hr ∙ ap (high_of_shifted p) back

  -- a w' below s × α has a quotient below s
  pub high_below : (w : ℕ) → high_part p w < p.parts
  unfolding high_of_shifted
  high_below w = by (eqb w' (p.modulus - 1)) refl (mod-lt (w + (p.alpha / 2 - 1)) (omega (arith, ok.whole)))
    where
      w' : ℕ
      w' = shifted p w

      by : (b : Bool) → eqb w' (p.modulus - 1) ≡ b → w' < p.modulus → cond b 0 (w' / p.alpha) < p.parts
      by true e small = ok.some_parts
      by false e small =
          let c : Split w' p.alpha (w' / p.alpha) (w' % p.alpha) = split w' ok.some_alpha in
          lt_of_mul-lt-mul_right p.alpha {m = w' / p.alpha} {n = p.parts} (omega (arith, ok.whole, c.parts, eqb-false w' (p.modulus - 1) e))
