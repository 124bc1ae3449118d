-- Plain high and low part are those of FIPS 204's Decompose, for every lawful scale.
use mathlib.Core.Path.{◌≡◌, refl, sym, ◌∙◌, ap, ap₂}
use Prim.Native.Nat.{ℕ, zero, suc, ◌+◌, ◌-◌, ◌*◌, ◌/◌, ◌%◌, ◌≤◌, ◌<◌}
use native.Mathlib.Nat.{mod-lt, mod-eq_of_lt, mod-eq-sub-mod, div-add-mod', suc-mul, one-mul, zero-mul, mul-le-mul_right, div-eq_of_lt, mul-div_cancel}
use native.Mathlib.Decide.{dec_le}
use native.Mathlib.Omega.{arith}
use lib.Arith.{digits_div, digits_mod}
use lib.IntN.{ℤ, pos, negsuc, sub_ℕ, ◌+ℤ◌, ◌-ℤ◌, ◌*ℤ◌}
use borrow.Author.Tests.{le-leb, lt-leb, eq-eqb, ne_eqb}
use Rattle.settings.specs.Sets.{Scale}
use Rattle.rounding.specs.declared.HighLow.{HighLow}
use Rattle.rounding.specs.Plain.{shifted, high_of_shifted, high_part, low_part, centred_by, Decomposed, decompose_by, decompose, high_low_of, residue, joined}
use Rattle.settings.specs.Theorems.{Lawful}
use Rattle.rounding.proofs.Differences.{sub-pos, sub_neg, take, give, less_one}

-- w mod± α is ((w + α/2 − 1) mod α) − (α/2 − 1)
pub centre : (α w : ℕ) → α ≡ 2 * (α / 2) → 1 ≤ α → centred_by α w ≡ sub_ℕ ((w + (α / 2 - 1)) % α) (α / 2 - 1)
centre α w even some = go (dec_le (w % α) (α / 2)) (mod-lt w (omega arith))
  where
    go : Dec (w % α ≤ α / 2) → w % α < α → centred_by α w ≡ sub_ℕ ((w + (α / 2 - 1)) % α) (α / 2 - 1)
    go (yes h) small =
        let x : (w + (α / 2 - 1)) % α ≡ w % α + (α / 2 - 1) =
        ap (λ (n : ℕ). n % α) (omega (arith, div-add-mod' w α)) ∙ digits_mod (w / α) (omega arith) in
        simp (le-leb _ _ h)
        (sym (ap (λ (n : ℕ). sub_ℕ n (α / 2 - 1)) x ∙ sub-pos (w % α + (α / 2 - 1)) (α / 2 - 1) (w % α) (omega arith)))
    go (no h) small =
        let x : (w + (α / 2 - 1)) % α ≡ w % α - suc (α / 2) =
        ap (λ (n : ℕ). n % α) (omega (arith, div-add-mod' w α, suc-mul (w / α) α)) ∙ digits_mod (suc (w / α)) (omega arith) in
        simp (lt-leb (w % α) (α / 2) (omega arith))
        (sub_neg (w % α) α (α - suc (w % α)) (omega arith)
        ∙ sym (ap (λ (n : ℕ). sub_ℕ n (α / 2 - 1)) x ∙ sub_neg (w % α - suc (α / 2)) (α / 2 - 1) (α - suc (w % α)) (omega arith)))

abbrev parts : ℤ → ℤ → Decomposed
parts h l = record { high = h; low = l }

-- high and low part together
abbrev pub both : ℕ → ℤ → HighLow
both h l = record { high = h; low = l }

-- the two cases of the high part
module _ (p : Scale) (w t : ℕ) (e : shifted p w ≡ t) where
  high-top : t ≡ p.modulus - 1 → high_part p w ≡ 0
  unfolding high_of_shifted
  high-top h = rw (e, eq-eqb t (p.modulus - 1) h)

  high_in : (t ≡ p.modulus - 1 → ⊥) → high_part p w ≡ t / p.alpha
  unfolding high_of_shifted
  high_in h = rw (e, ne_eqb t (p.modulus - 1) h)

by_top : (p : Scale) (d : ℕ) (r0 : ℤ) → d ≡ p.modulus - 1 → decompose_by p (pos d) r0 ≡ parts (pos 0) (r0 -ℤ pos 1)
by_top p d r0 h = rw (eq-eqb d (p.modulus - 1) h)

by_in : (p : Scale) (d : ℕ) (r0 : ℤ) → (d ≡ p.modulus - 1 → ⊥) → decompose_by p (pos d) r0 ≡ parts (pos (d / p.alpha)) r0
by_in p d r0 h = rw (ne_eqb d (p.modulus - 1) h)

module _ (p : Scale) (k : Lawful p) (w : ℕ) (hw : w < p.modulus) where
  abbrev m : ℕ
  m = p.modulus

  abbrev α : ℕ
  α = p.alpha

  abbrev s : ℕ
  s = p.parts

  -- with a = w + α/2 − 1: r0 = a mod α − (α/2 − 1), and r − r0 = a / α × α
  from : (a : ℕ) → a ≡ w + (α / 2 - 1) → decompose p w ≡ decompose_by p (pos (a / α * α)) (sub_ℕ (a % α) (α / 2 - 1))
  from a e =
      ap (λ (n : ℕ). decompose_by p (pos n -ℤ centred_by α n) (centred_by α n)) (mod-eq_of_lt hw)
      ∙ ap (λ (z : ℤ). decompose_by p (pos w -ℤ z) z) (centre α w k.even k.some_alpha)
      ∙ ap (λ (n : ℕ). decompose_by p (pos w -ℤ sub_ℕ (n % α) (α / 2 - 1)) (sub_ℕ (n % α) (α / 2 - 1))) (sym e)
      ∙ ap (λ (d : ℤ). decompose_by p d (sub_ℕ (a % α) (α / 2 - 1)))
      (take w (a / α * α) (a % α) (α / 2 - 1) (omega (arith, div-add-mod' a α)))

  -- a < q − 1: the parts are a / α and r0
  inner_fips : (a : ℕ) → a ≡ w + (α / 2 - 1) → suc a < m → decompose p w ≡ parts (pos (a / α)) (sub_ℕ (a % α) (α / 2 - 1))
  inner_fips a e h =
      from a e
      ∙ by_in p (a / α * α) (sub_ℕ (a % α) (α / 2 - 1)) (λ z. omega (arith, div-add-mod' a α))
      ∙ ap (λ (n : ℕ). parts (pos n) (sub_ℕ (a % α) (α / 2 - 1))) (mul-div_cancel (a / α) (omega (arith, k)))

  high_inner : (a : ℕ) → a ≡ w + (α / 2 - 1) → suc a < m → high_part p w ≡ a / α
  high_inner a e h =
      let t : shifted p w ≡ a = ap (λ (n : ℕ). n % m) (sym e) ∙ mod-eq_of_lt (omega arith) in
      high_in p w a t (λ z. omega arith)

  -- a = q − 1 + b: the parts are 0 and −(α/2 − b), which is w − q
  outer_fips : (a b : ℕ) → a ≡ w + (α / 2 - 1) → suc a ≡ m + b → decompose p w ≡ parts (pos 0) (negsuc (α / 2 - 1 - b))
  outer_fips a b e h =
      let quo : a / α ≡ s = ap (λ (n : ℕ). n / α) (omega (arith, k)) ∙ digits_div s {r = b} (omega (arith, k)) in
      let rem : a % α ≡ b = ap (λ (n : ℕ). n % α) (omega (arith, k)) ∙ digits_mod s {r = b} (omega (arith, k)) in
      let top : a / α * α ≡ m - 1 = ap (λ (n : ℕ). n * α) quo ∙ omega (arith, k) in
      from a e
      ∙ by_top p (a / α * α) (sub_ℕ (a % α) (α / 2 - 1)) top
      ∙ ap (parts (pos 0))
      (ap (λ (n : ℕ). sub_ℕ n (α / 2 - 1) -ℤ pos 1) rem ∙ less_one b (α / 2 - 1) (α / 2 - 1 - b) (omega arith))

  outer_high : (a b : ℕ) → a ≡ w + (α / 2 - 1) → suc a ≡ m + b → high_part p w ≡ 0
  outer_high a zero e h =
      let t : shifted p w ≡ a = ap (λ (n : ℕ). n % m) (sym e) ∙ mod-eq_of_lt (omega arith) in
      high-top p w a t (omega arith)
  outer_high a (suc b) e h =
      let step : 1 * α ≤ s * α = mul-le-mul_right α k.some_parts in
      let t : shifted p w ≡ b =
      ap (λ (n : ℕ). n % m) (sym e) ∙ mod-eq-sub-mod (omega arith)
      ∙ ap (λ (n : ℕ). n % m) (omega arith) ∙ mod-eq_of_lt (omega (arith, one-mul α, k)) in
      let small : b < α = omega (arith, k) in
      high_in p w b t (λ z. omega (arith, one-mul α, k)) ∙ div-eq_of_lt small

  high_outer : (a : ℕ) → a ≡ w + (α / 2 - 1) → m ≤ suc a → high_part p w ≡ 0
  high_outer a e h = outer_high a (suc a - m) e (omega arith)

  low_inner : (a : ℕ) → a ≡ w + (α / 2 - 1) → suc a < m → low_part p w ≡ sub_ℕ (a % α) (α / 2 - 1)
  unfolding low_part
  low_inner a e h = ap (λ (d : Decomposed). d.low) (inner_fips a e h)

  low_outer : (a : ℕ) → a ≡ w + (α / 2 - 1) → m ≤ suc a → low_part p w ≡ sub_ℕ w m
  unfolding low_part
  low_outer a e h =
      let b : ℕ = suc a - m in
      ap (λ (d : Decomposed). d.low) (outer_fips a b e (omega arith)) ∙ sym (sub_neg w m (α / 2 - 1 - b) (omega (arith, k)))

  pub high_low_inner : (a : ℕ) → a ≡ w + (α / 2 - 1) → suc a < m → high_low_of p w ≡ both (a / α) (sub_ℕ (a % α) (α / 2 - 1))
  high_low_inner a e h = ap₂ both (high_inner a e h) (low_inner a e h)

  pub high_low_outer : (a : ℕ) → a ≡ w + (α / 2 - 1) → m ≤ suc a → high_low_of p w ≡ both 0 (sub_ℕ w m)
  high_low_outer a e h = ap₂ both (high_outer a e h) (low_outer a e h)

  -- Decompose gives the plain high part
  pub high_is : pos (high_part p w) ≡ (decompose p w).high
  high_is = go (dec_le m (suc (w + (α / 2 - 1))))
    where
      go : Dec (m ≤ suc (w + (α / 2 - 1))) → pos (high_part p w) ≡ (decompose p w).high
      go (yes h) =
          ap pos (high_outer (w + (α / 2 - 1)) refl h)
          ∙ sym (ap (λ (d : Decomposed). d.high) (outer_fips (w + (α / 2 - 1)) (suc (w + (α / 2 - 1)) - m) refl (omega arith)))
      go (no h) =
          ap pos (high_inner (w + (α / 2 - 1)) refl (omega arith))
          ∙ sym (ap (λ (d : Decomposed). d.high) (inner_fips (w + (α / 2 - 1)) refl (omega arith)))

  -- high × α + low is w modulo q
  pub join_is : joined p (high_low_of p w) ≡ w
  unfolding low_part
  join_is = ap (λ (z : ℤ). residue m (z *ℤ pos α +ℤ (decompose p w).low)) high_is ∙ go (dec_le m (suc (w + (α / 2 - 1))))
    where
      value : Decomposed → ℕ
      value d = residue m (d.high *ℤ pos α +ℤ d.low)

      go : Dec (m ≤ suc (w + (α / 2 - 1))) → residue m ((decompose p w).high *ℤ pos α +ℤ (decompose p w).low) ≡ w
      go (yes h) =
          let a : ℕ = w + (α / 2 - 1) in
          let b : ℕ = suc a - m in
          let z : ℕ = α / 2 - 1 - b in
          ap value (outer_fips a b refl (omega arith))
          ∙ ap (residue m) (sub_neg (0 * α) (suc z) z (omega (arith, zero-mul α)))
          ∙ ap (λ (n : ℕ). (m - n) % m) (mod-eq_of_lt {n = suc z} (omega (arith, mul-le-mul_right α k.some_parts, one-mul α)))
          ∙ ap (λ (n : ℕ). n % m) (omega arith) ∙ mod-eq_of_lt hw
      go (no h) =
          let a : ℕ = w + (α / 2 - 1) in
          ap value (inner_fips a refl (omega arith))
          ∙ ap (residue m) (give w (a / α * α) (a % α) (α / 2 - 1) (omega (arith, div-add-mod' a α)))
          ∙ mod-eq_of_lt hw
