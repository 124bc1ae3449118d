-- What the seven rounds compute, in plain numbers: y is the number that round 1 opens, r its mask.
use Rattle.std.specs.Prelude.{ℕ, zero, suc, ◌+◌, ◌-◌, ◌*◌, ◌/◌, ◌%◌, cond, eqb, ltb}
use Rattle.lists.specs.Answers.{bit}
use Rattle.field.specs.Field.{add, sub}
use Rattle.field.specs.Sums.{sum_to}
use Rattle.settings.specs.Sets.{Scale, base}
use Rattle.rounding.specs.Digits.{digit}
-- ---- HIGH: the digits of y + r, from those of y and r

-- "t(d) = d below s, else d − s" stands with the constants of the sets
unfoldable pub use Rattle.settings.specs.Sets.{top}

-- G sums "where d > s"
abbrev pub over : ℕ → ℕ → ℕ
over s d = bit (ltb s d)

module _ (p : Scale) where
  -- what a 1 in digit i is worth: the product of the bases below it
  unfoldable pub unit : ℕ → ℕ
  unit zero = 1
  unit (suc i) = unit i * base p i

  -- the carry into digit i of y + r
  unfoldable pub carry_into : ℕ → ℕ → ℕ → ℕ
  carry_into y r i = (y % unit i + r % unit i) / unit i

  -- zi: is digit i of y + r 0?
  unfoldable pub zero_digit : ℕ → ℕ → ℕ → ℕ
  zero_digit y r i = bit (eqb ((y + r) / unit i % base p i) 0)

  -- "Round 5, d = j + y4", with the carry, where j is r's digit
  abbrev pub top_sum : ℕ → ℕ → ℕ
  top_sum y r = digit p r 4 + (digit p y 4 + carry_into y r 4)

  -- "Round 6 zero-checks 5 − (z0 + z1 + z2 + z3 + G)"
  unfoldable pub nonzero_count : ℕ → ℕ → ℕ
  nonzero_count y r = 5 - (sum_to 4 (zero_digit y r) + over p.parts (top_sum y r))

-- ---- The zero check of n, 0 to K, modulo m

-- "g = q divided by (K + 1) rounded down"
abbrev pub gap : ℕ → ℕ → ℕ
gap m K = m / (K + 1)

-- "open ρ + g × n"
abbrev pub check_opens : ℕ → ℕ → ℕ → ℕ → ℕ
check_opens m K ρ n = add m ρ (gap m K * n)

-- "the result is the vector's entry at the opened number divided by g, rounded down", of "the vector of ρ divided by g"
abbrev pub check_result : ℕ → ℕ → ℕ → ℕ → ℕ
check_result m K ρ opened = bit (eqb (opened / gap m K) (ρ / gap m K))

-- C of HIGH, with K = 5
abbrev pub wrap_of : Scale → ℕ → ℕ → ℕ → ℕ
wrap_of p ρ y r = check_result p.modulus 5 ρ (check_opens p.modulus 5 ρ (nonzero_count p y r))

-- "Round 7 opens F − C"
abbrev pub high_result : Scale → ℕ → ℕ → ℕ → ℕ
high_result p ρ y r = sub p.modulus (top p.parts (top_sum p y r)) (wrap_of p ρ y r)

-- ---- BOUND

-- "lo = −y, hi = 2B − 1 − y"; which = 0 for hi
unfoldable pub threshold : ℕ → ℕ → ℕ → ℕ → ℕ
threshold m bound which y = cond (eqb which 0) (sub m (2 * bound - 1) y) (sub m 0 y)

-- a threshold's result after digits 0 to i - 1: are these digits of r, as one number, below those of the threshold?
abbrev pub below_up_to : Scale → ℕ → ℕ → ℕ → ℕ
below_up_to p r limit i = bit (ltb (r % unit p i) (limit % unit p i))

-- "inside by hi's result − lo's result, + 1 if hi < lo"
unfoldable pub inside_result : Scale → ℕ → ℕ → ℕ → ℕ
inside_result p bound y r =
    let hi = threshold p.modulus bound 0 y in
    let lo = threshold p.modulus bound 1 y in
    add p.modulus (sub p.modulus (below_up_to p r hi 5) (below_up_to p r lo 5)) (bit (ltb hi lo))
