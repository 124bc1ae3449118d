-- Plain meaning.
use Rattle.std.specs.Prelude.{ℕ, suc, ◌+◌, ◌-◌, ◌/◌, ◌%◌, Bool, false, cond, List, eqb, leb, ltb, ℤ, pos, negsuc, nat_abs, ◌+ℤ◌, ◌-ℤ◌, ◌*ℤ◌}
use Rattle.std.proofs.Math.IntN.{sub_ℕ}
use Rattle.std.specs.Int.Signed.{quot_z}
use Rattle.lists.specs.Answers.{bit}
use Rattle.lists.specs.Lists.{every}
use Rattle.settings.specs.Sets.{Scale}
use Rattle.rounding.specs.declared.HighLow.{HighLow}

-- "w' = (w + α/2 − 1) mod q"
abbrev pub shifted : Scale → ℕ → ℕ
shifted p w = (w + (p.alpha / 2 - 1)) % p.modulus

-- "High part: 0 if w' = q − 1, else w' divided by α, rounded down"
unfoldable pub high_of_shifted : Scale → ℕ → ℕ
high_of_shifted p w' = cond (eqb w' (p.modulus - 1)) 0 (w' / p.alpha)

abbrev pub high_part : Scale → ℕ → ℕ
high_part p w = high_of_shifted p (shifted p w)

-- FIPS 204, section 2.3: r mod± α, the number congruent to r above −α/2 and up to α/2
abbrev pub centred_by : ℕ → ℕ → ℤ
centred_by α r = cond (leb (r % α) (α / 2)) (pos (r % α)) (sub_ℕ (r % α) α)

-- are two signed numbers equal?
abbrev pub eqbℤ : ℤ → ℤ → Bool
eqbℤ (pos a) (pos b) = eqb a b
eqbℤ (pos a) (negsuc b) = false
eqbℤ (negsuc a) (pos b) = false
eqbℤ (negsuc a) (negsuc b) = eqb a b

pub record Decomposed : Type 0 where
  pub high : ℤ
  pub low : ℤ

-- FIPS 204, algorithm 36, lines 3 to 7: from d = r⁺ − r0 and r0
abbrev pub decompose_by : Scale → ℤ → ℤ → Decomposed
decompose_by p d r0 =
    cond (eqbℤ d (pos (p.modulus - 1)))
    (record { high = pos 0; low = r0 -ℤ pos 1 })
    (record { high = quot_z d (pos p.alpha); low = r0 })

-- FIPS 204, algorithm 36, Decompose, lines 1 and 2: r⁺ = r mod q, r0 = r⁺ mod± 2γ₂ (2γ₂ is α)
abbrev pub decompose : Scale → ℕ → Decomposed
decompose p r =
    decompose_by p
    (pos (r % p.modulus) -ℤ centred_by p.alpha (r % p.modulus))
    (centred_by p.alpha (r % p.modulus))

-- "Low part: the low result of FIPS 204 Decompose, signed"
unfoldable pub low_part : Scale → ℕ → ℤ
low_part p w = (decompose p w).low

-- request Two: "high and signed low in one result"
abbrev pub high_low_of : Scale → ℕ → HighLow
high_low_of p w = record { high = high_part p w; low = low_part p w }

-- the remainder of a signed number by m
abbrev pub residue : ℕ → ℤ → ℕ
residue m (pos x) = x % m
residue m (negsuc x) = (m - suc x % m) % m

-- "high × α + low .. modulo q"
abbrev pub joined : Scale → HighLow → ℕ
joined p parts = residue p.modulus (pos parts.high *ℤ pos p.alpha +ℤ parts.low)

-- "centred to −(q − 1)/2 .. (q − 1)/2", for the modulus m
abbrev pub centred : ℕ → ℕ → ℤ
centred m x = cond (leb x ((m - 1) / 2)) (pos x) (sub_ℕ x m)

-- "has absolute size below B"
unfoldable pub inside : ℕ → ℕ → ℕ → Bool
inside m bound x = ltb (nat_abs (centred m x)) bound

-- "Verdict: 1 if every coefficient .. has absolute size below B, else 0"
unfoldable pub verdict : ℕ → ℕ → List ℕ → ℕ
verdict m bound xs = bit (every (inside m bound) xs)
