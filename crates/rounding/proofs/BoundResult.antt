-- BOUND: a comparison with a threshold digit by digit, the range of a coefficient by two comparisons with its mask.
use mathlib.Core.Path.{◌≡◌, ap, ap₂, ◌∙◌}
use Prim.Native.Nat.{ℕ, suc, ◌+◌, ◌-◌, ◌*◌, ◌/◌, ◌%◌, ◌≤◌, ◌<◌}
use native.Mathlib.Nat.{mul-le-mul_right, mod-lt, mod-eq_of_lt, mod-add-mod, add-mod_right}
use native.Mathlib.Decide.{dec_le}
use native.Mathlib.Omega.{arith}
use lib.Dec.{ltb, eqb}
use lib.IntN.{nat_abs}
use borrow.Author.Tests.{le-leb, lt-leb}
use Rattle.lists.specs.Answers.{bit}
use Rattle.lists.proofs.Indicators.{lt_one, lt_zero, tri_lt, tri_eq, tri_gt, tri_view, lt_same, bit_le}
use Rattle.field.specs.Field.{sub}
use Rattle.field.proofs.Division.{Split, Mod, mod_same, mod_less, mod_view}
use Rattle.field.proofs.Congruence.{≈_lt}
use Rattle.field.proofs.Solve.{at, ◌⊕◌, ◌⊖◌, red, solve}
use Rattle.settings.specs.Sets.{Scale, base}
use Rattle.rounding.specs.Plain.{centred, inside}
use Rattle.rounding.specs.Digits.{digit}
use Rattle.rounding.specs.Rounds.{unit, threshold, below_up_to, inside_result}
use Rattle.settings.specs.Theorems.{Lawful}
use Rattle.rounding.proofs.Differences.{sub_neg}
use Rattle.rounding.proofs.Radix.{mod_unit, any_digit, base-pos, unit-pos, unit-alpha}

-- ---- a comparison digit by digit, from the lowest

-- x and t with the quotients a and b, the remainders k and l by u
compare-parts : (u x t a k b l : ℕ) → Split x u a k → Split t u b l → bit (ltb x t) ≡ bit (ltb a b) + bit (eqb a b) * bit (ltb k l)
compare-parts u x t a k b l c d =
    elim (tri_view a b) [
      | tri_lt p i j ↦
          let m : suc a * u ≤ b * u = mul-le-mul_right u p in
          rw (i, j, lt_one {a = x} {b = t} (omega arith)) (omega arith)
      | tri_eq p i j ↦
          let m : a * u ≡ b * u = ap (λ (z : ℕ). z * u) p in
          rw (i, j) (lt_same x t k l (omega arith) (omega arith) ∙ omega arith)
      | tri_gt p i j ↦
          let m : suc b * u ≤ a * u = mul-le-mul_right u p in
          rw (i, j, lt_zero {a = x} {b = t} (omega arith)) (omega arith)
    ]

module _ (p : Scale) (ok : Lawful p) where
  pub compare-is : (r t i : ℕ) → r < p.modulus → t < p.modulus → i < 5
      → below_up_to p r t (suc i) ≡ bit (ltb (digit p r i) (digit p t i)) + bit (eqb (digit p r i) (digit p t i)) * below_up_to p r t i
  unfolding unit
  compare-is r t i hr ht h =
      let hu : 0 < unit p i = unit-pos p ok i (omega arith) in
      let hb : 0 < base p i = base-pos p ok i h in
      rw (any_digit p ok r i hr h, any_digit p ok t i ht h)
      (compare-parts (unit p i) (r % (unit p i * base p i)) (t % (unit p i * base p i)) (r / unit p i % base p i) (r % unit p i) (t / unit p i % base p i) (t % unit p i)
      (record { parts = mod_unit (unit p i) hu (base p i) r hb; small = mod-lt r hu })
      (record { parts = mod_unit (unit p i) hu (base p i) t hb; small = mod-lt t hu }))

  -- all five digits: the numbers themselves
  pub below-is : (r t : ℕ) → r < p.modulus → t < p.modulus → below_up_to p r t 5 ≡ bit (ltb r t)
  unfolding unit
  below-is r t hr ht =
      let e : unit p 5 ≡ p.alpha * (p.parts + 1) = ap₂ (λ (a b : ℕ). a * b) (unit-alpha p ok) ok.last in
      let fits : p.modulus ≤ unit p 5 = omega (arith, ok) in
      rw (mod-eq_of_lt {n = r} {m = unit p 5} (omega arith), mod-eq_of_lt {n = t} {m = unit p 5} (omega arith))

-- ---- the range: lo and hi = lo + M cut the circle, r = w + lo. r is from lo to hi, going up and round, just if w is below M

range : (m M lo hi w r : ℕ) → M < m → lo < m → w < m → Mod (M + lo) m hi → Mod (w + lo) m r
    → bit (ltb r hi) + bit (ltb hi lo) ≡ bit (ltb w M) + bit (ltb r lo)
range m M lo hi w r hM hl hw (mod_same a b) (mod_same c d) =
    rw (lt_zero {a = hi} {b = lo} (omega arith), lt_zero {a = r} {b = lo} (omega arith), lt_same r hi w M (omega arith) (omega arith))
range m M lo hi w r hM hl hw (mod_same a b) (mod_less c d) =
    rw (lt_zero {a = hi} {b = lo} (omega arith), lt_one {a = r} {b = lo} (omega arith), lt_one {a = r} {b = hi} (omega arith), lt_zero {a = w} {b = M} (omega arith))
range m M lo hi w r hM hl hw (mod_less a b) (mod_same c d) =
    rw (lt_one {a = hi} {b = lo} (omega arith), lt_zero {a = r} {b = lo} (omega arith), lt_zero {a = r} {b = hi} (omega arith), lt_one {a = w} {b = M} (omega arith))
range m M lo hi w r hM hl hw (mod_less a b) (mod_less c d) =
    rw (lt_one {a = hi} {b = lo} (omega arith), lt_one {a = r} {b = lo} (omega arith), lt_same r hi w M (omega arith) (omega arith))

-- hi's result less lo's and 1 if hi < lo, modulo m
inside-sum : (m a b c d : ℕ) → 1 < m → b ≤ 1 → d ≤ 1 → a + c ≡ d + b → ((a + (m - b % m)) % m + c) % m ≡ d
inside-sum m a b c d hm hb hd e =
    let f : a + (m - b) + c ≡ d + m = omega arith in
    rw (mod-eq_of_lt {n = b} {m = m} (omega arith), mod-add-mod, f) (add-mod_right d m ∙ mod-eq_of_lt (omega arith))

-- |v| < B just if v + B − 1 is below 2B − 1 modulo m
bound-range : (m v bound : ℕ) → v < m → 1 ≤ bound → 2 * bound < m → bit (ltb ((v + (bound - 1)) % m) (2 * bound - 1)) ≡ bit (inside m bound v)
unfolding inside
bound-range m v bound hv h1 h2 = go (dec_le v ((m - 1) / 2))
  where
    go : Dec (v ≤ (m - 1) / 2) → bit (ltb ((v + (bound - 1)) % m) (2 * bound - 1)) ≡ bit (ltb (nat_abs (centred m v)) bound)
    go (yes h) =
        rw (le-leb v ((m - 1) / 2) h, mod-eq_of_lt {n = v + (bound - 1)} {m = m} (omega arith))
        (lt_same (v + (bound - 1)) (2 * bound - 1) v bound (omega arith) (omega arith))
    go (no h) =
        rw (lt-leb v ((m - 1) / 2) (omega arith), sub_neg v m (m - suc v) (omega arith))
        (elim (mod_view (v + (bound - 1)) m (omega arith)) [
          | mod_same a e ↦ lt_same ((v + (bound - 1)) % m) (2 * bound - 1) (suc (m - suc v)) bound (omega arith) (omega arith)
          | mod_less a e ↦ lt_same ((v + (bound - 1)) % m) (2 * bound - 1) (suc (m - suc v)) bound (omega arith) (omega arith)
        ])

module _ (p : Scale) (ok : Lawful p) where
  -- the whole run of BOUND for one coefficient, from the coefficient and any mask
  pub inside_is : (v bound r : ℕ) → v < p.modulus → r < p.modulus → 1 ≤ bound → 2 * bound < p.modulus
      → inside_result p bound (sub p.modulus (v + (bound - 1)) r) r ≡ bit (inside p.modulus bound v)
  unfolding inside_result threshold
  inside_is v bound r hv hr h1 h2 =
      let m : ℕ = p.modulus in
      let pos : 0 < m = omega arith in
      let x : ℕ = v + (bound - 1) in
      let y : ℕ = sub m x r in
      let lo : ℕ = sub m 0 y in
      let hi : ℕ = sub m (2 * bound - 1) y in
      let w : ℕ = x % m in
      let hlo : lo < m = mod-lt (0 + (m - y % m)) pos in
      let hhi : hi < m = mod-lt (2 * bound - 1 + (m - y % m)) pos in
      let hw : w < m = mod-lt x pos in
      let ehi : (2 * bound - 1 + lo) % m ≡ hi = (solve m pos (at (2 * bound - 1) ⊕ red (at 0 ⊖ at y)) (at (2 * bound - 1) ⊖ at y) (omega arith)).path in
      let er : (w + lo) % m ≡ r = ≈_lt (solve m pos (red (red (at x) ⊕ red (at 0 ⊖ red (at x ⊖ at r)))) (at r) (omega arith)) (mod-lt (w + lo) pos) hr in
      let vhi : Mod (2 * bound - 1 + lo) m hi = rw ehi at (mod_view (2 * bound - 1 + lo) m (omega arith)) in
      let vr : Mod (w + lo) m r = rw er at (mod_view (w + lo) m (omega arith)) in
      rw (below-is p ok r hi hr hhi, below-is p ok r lo hr hlo)
      (inside-sum m (bit (ltb r hi)) (bit (ltb r lo)) (bit (ltb hi lo)) (bit (ltb w (2 * bound - 1))) (omega arith) (bit_le (ltb r lo)) (bit_le (ltb w (2 * bound - 1)))
      (range m (2 * bound - 1) lo hi w r (omega arith) hlo hw vhi vr)
      ∙ bound-range m v bound hv h1 h2)
