-- The zero check: the opened number's index by g is ρ's just if the number checked is 0.
use mathlib.Core.Path.{◌≡◌, refl, sym, ◌∙◌}
use mathlib.Core.Logic.{◌≢◌}
use Prim.Native.Nat.{ℕ, zero, suc, ◌+◌, ◌*◌, ◌/◌, ◌%◌, ◌≤◌, ◌<◌}
use native.Mathlib.Nat.{mul-le-mul_left, mul-zero, add-zero, mod-eq_of_lt, lt_of_mul-lt-mul_right}
use native.Mathlib.Omega.{arith}
use lib.Dec.{eqb}
use Rattle.lists.specs.Answers.{bit}
use Rattle.lists.proofs.Indicators.{eq_is, eq_lt, eq_gt, eq_view, eq_one, eq_zero}
use Rattle.field.proofs.Division.{split, mod_same, mod_less, mod_view}
use Rattle.rounding.specs.Rounds.{gap, check_opens, check_result}

module _ (m k : ℕ) (hm : 0 < m) (hr : m % (k + 1) ≤ gap m k) where
  pub gap-pos : 0 < gap m k
  gap-pos =
      let c = split m {b = k + 1} (omega arith) in
      elim (eq_view (gap m k) 0) [
        | eq_is p e ↦ let n = rw p at c.parts in omega arith
        | eq_lt p e ↦ omega arith
        | eq_gt p e ↦ p
      ]

  -- an index by g is a position of the vector, whose length is K + 2
  pub index_below : (x : ℕ) → x < m → x / gap m k < k + 2
  index_below x h =
      let c = split m {b = k + 1} (omega arith) in
      let d = split x gap-pos in
      lt_of_mul-lt-mul_right (gap m k) {m = x / gap m k} {n = k + 2} (omega arith)

  moved : (ρ n : ℕ) → ρ < m → suc n ≤ k → check_opens m k ρ (suc n) / gap m k ≢ ρ / gap m k
  moved ρ n h l e =
      let g : ℕ = gap m k in
      let w : ℕ = (ρ + g * suc n) % m in
      let c = split m {b = k + 1} (omega arith) in
      let d = split ρ gap-pos in
      let o = split w gap-pos in
      let f : w ≡ (ρ / g) * g + w % g = rw e at o.parts in
      let b : g * suc n ≤ g * k = mul-le-mul_left g l in
      elim (mod_view (ρ + g * suc n) m (omega arith)) [ mod_same p i ↦ omega arith | mod_less p i ↦ omega arith ]

  pub check-is : (ρ n : ℕ) → ρ < m → n ≤ k → check_result m k ρ (check_opens m k ρ n) ≡ bit (eqb n 0)
  check-is ρ zero h l = rw (mul-zero, add-zero, mod-eq_of_lt h) (eq_one {a = ρ / gap m k} {b = ρ / gap m k} refl ∙ sym (eq_one {a = 0} {b = 0} refl))
  check-is ρ (suc n) h l = eq_zero {a = check_opens m k ρ (suc n) / gap m k} {b = ρ / gap m k} (moved ρ n h l) ∙ sym (eq_zero {a = suc n} {b = 0} (omega arith))
