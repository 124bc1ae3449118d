-- Digits of a number, and of a sum of two numbers, digit by digit: one law for every digit.
use mathlib.Core.Path.{◌≡◌, refl, sym, ap, ◌∙◌}
use Prim.Native.Nat.{ℕ, zero, suc, ◌+◌, ◌-◌, ◌*◌, ◌/◌, ◌%◌, ◌≤◌, ◌<◌}
use native.Mathlib.Nat.{one-mul, zero-mul, mul-zero, div-one, mod-lt, mul_comm, mul-pos, mod-add-div, div-div-eq-div-mul, mod-eq_of_lt, mul-le-mul_right, lt_of_mul-lt-mul_right}
use native.Mathlib.Decide.{dec_lt}
use native.Mathlib.Omega.{arith}
use lib.Arith.{mod-mul}
use lib.Dec.{leb, eqb}
use Rattle.lists.specs.Answers.{bit}
use Rattle.lists.proofs.Indicators.{le_is, le_no, le_view, Eq, eq_is, eq_lt, eq_gt, eq_view}
use Rattle.field.specs.Congruence.{◌⊩◌≈◌}
use Rattle.field.specs.Sums.{sum_to}
use Rattle.field.proofs.Division.{Split, split, split_div}
use Rattle.field.proofs.Congruence.{≈_refl, ≈_add, ≈_unmod}
use Rattle.settings.specs.Sets.{Scale, base}
use Rattle.rounding.specs.Digits.{digits_of, digit}
use Rattle.rounding.specs.Rounds.{unit, carry_into, zero_digit, top_sum}
use Rattle.settings.specs.Theorems.{Lawful}

-- ---- one digit, of b values, above a unit u

-- the carry out of the numbers below the unit
abbrev carry_over : ℕ → ℕ → ℕ → ℕ
carry_over u y r = (y % u + r % u) / u

module _ (u : ℕ) (hu : 0 < u) where
  -- the sum's quotient, with its remainder
  sum-split : (y r : ℕ) → Split (y + r) u (y / u + r / u + carry_over u y r) ((y % u + r % u) % u)
  sum-split y r =
      let sy = split y hu in
      let sr = split r hu in
      let sc = split (y % u + r % u) hu in
      record { parts = omega arith; small = sc.small }

  sum_over : (y r : ℕ) → (y + r) / u ≡ y / u + r / u + carry_over u y r
  sum_over y r = split_div (sum-split y r)

  carry_small : (y r : ℕ) → carry_over u y r ≤ 1
  carry_small y r =
      let sy = split y hu in
      let sr = split r hu in
      let sc = split (y % u + r % u) hu in
      let h : carry_over u y r < 2 = lt_of_mul-lt-mul_right u {m = carry_over u y r} {n = 2} (omega arith) in
      omega arith

  -- a remainder by u × b is the digit and the remainder by u
  pub mod_unit : (b x : ℕ) → 0 < b → x % (u * b) ≡ (x / u % b) * u + x % u
  mod_unit b x hb = rw (mul_comm u b) (mod-mul x hb hu)

  -- the carry out of the digit
  carry-step : (b y r : ℕ) → 0 < b → carry_over (u * b) y r ≡ bit (leb b (r / u % b + (y / u % b + carry_over u y r)))
  carry-step b y r hb =
      let sc = split (y % u + r % u) hu in
      let dy : y / u % b < b = mod-lt (y / u) hb in
      let dr : r / u % b < b = mod-lt (r / u) hb in
      let d : ℕ = r / u % b + (y / u % b + carry_over u y r) in
      let l : ℕ = (y % u + r % u) % u in
      let small : d < b + b = omega (arith, carry_small y r) in
      let total : y % (u * b) + r % (u * b) ≡ d * u + l = rw (mod_unit b y hb, mod_unit b r hb) (omega arith) in
      elim (le_view b d) [
        | le_is p e ↦
            let m : suc (d - b) * u ≤ b * u = mul-le-mul_right u (omega arith) in
            let f : (b + (d - b)) * u ≡ d * u = ap (λ (z : ℕ). z * u) (omega arith) in
            let v : Split (y % (u * b) + r % (u * b)) (u * b) 1 ((d - b) * u + l) = record { parts = omega arith; small = omega arith } in
            split_div v ∙ sym e
        | le_no p e ↦
            let m : suc d * u ≤ b * u = mul-le-mul_right u p in
            let v : Split (y % (u * b) + r % (u * b)) (u * b) 0 (d * u + l) = record { parts = omega arith; small = omega arith } in
            split_div v ∙ sym e
      ]

  -- the digit of the sum
  digit-step : (b y r : ℕ) → (y + r) / u % b ≡ (r / u % b + (y / u % b + carry_over u y r)) % b
  digit-step b y r =
      let c : ℕ = carry_over u y r in
      let e : y / u + r / u + c ≡ r / u + (y / u + c) = omega arith in
      let h : b ⊩ r / u + (y / u + c) ≈ r / u % b + (y / u % b + c) = ≈_add (≈_unmod (r / u)) (≈_add (≈_unmod (y / u)) (≈_refl c)) in
      rw (sum_over y r, e) h.path

-- ---- is a number a multiple of a unit? Just if all n digits below it are 0

pub data Zeros (n zeros rest : ℕ) : Type 0 where
  all-zero : zeros ≡ n → rest ≡ 0 → Zeros n zeros rest
  some-not : zeros < n → 0 < rest → Zeros n zeros rest

-- one digit d more, with its indicator i
zeros-step : (u n zeros rest d i : ℕ) → 0 < u → Zeros n zeros rest → Eq d 0 i → Zeros (suc n) (zeros + i) (d * u + rest)
zeros-step u n zeros rest d i hu (all-zero a b) (eq_is p e) = all-zero (omega arith) (rw p (omega (arith, zero-mul u)))
zeros-step u n zeros rest d i hu z (eq_lt p e) = absurd (omega arith)
zeros-step u n zeros rest d i hu (all-zero a b) (eq_gt p e) =
    some-not (omega arith) (omega (arith, mul-le-mul_right {m = 1} {n = d} u p, one-mul u))
zeros-step u n zeros rest d i hu (some-not a b) (eq_is p e) = some-not (omega arith) (omega arith)
zeros-step u n zeros rest d i hu (some-not a b) (eq_gt p e) = some-not (omega arith) (omega arith)

-- ---- the digits of a scale

-- the last factor of a product that is not 0
factor-pos : (a b : ℕ) → 0 < a * b → (0 < a) × (0 < b)
factor-pos zero b h = absurd (omega (arith, zero-mul b))
factor-pos (suc a) zero h = absurd (omega (arith, mul-zero (suc a)))
factor-pos (suc a) (suc b) h = (omega arith, omega arith)

module _ (p : Scale) where
  -- the digits join to the number
  pub digits-join : (x : ℕ) → digit p x 0 + base p 0 * (digit p x 1 + base p 1 * (digit p x 2 + base p 2 * (digit p x 3 + base p 3 * digit p x 4))) ≡ x
  unfolding digits_of
  digits-join x = simp mod-add-div

  -- a digit, by its unit
  pub low_digit : (x i : ℕ) → i < 4 → digit p x i ≡ x / unit p i % base p i
  unfolding digits_of unit
  low_digit x zero h = rw (div-one x)
  low_digit x (suc zero) h = rw (one-mul (base p 0))
  low_digit x (suc (suc zero)) h = rw (one-mul (base p 0), div-div-eq-div-mul x (base p 0) (base p 1))
  low_digit x (suc (suc (suc zero))) h =
      rw (one-mul (base p 0), div-div-eq-div-mul x (base p 0) (base p 1), div-div-eq-div-mul x (base p 0 * base p 1) (base p 2))
  low_digit x (suc (suc (suc (suc i)))) h = absurd (omega arith)

  pub top_digit : (x : ℕ) → digit p x 4 ≡ x / unit p 4
  unfolding digits_of unit
  top_digit x =
      rw (one-mul (base p 0), div-div-eq-div-mul x (base p 0) (base p 1), div-div-eq-div-mul x (base p 0 * base p 1) (base p 2), div-div-eq-div-mul x (base p 0 * base p 1 * base p 2) (base p 3))

module _ (p : Scale) (ok : Lawful p) where
  pub unit-alpha : unit p 4 ≡ p.alpha
  unfolding unit
  unit-alpha = rw (one-mul (base p 0)) ok.steps

  pub base-pos : (i : ℕ) → i < 5 → 0 < base p i
  base-pos i h =
      let all : 0 < base p 0 * base p 1 * base p 2 * base p 3 = omega (arith, ok) in
      let three = factor-pos (base p 0 * base p 1 * base p 2) (base p 3) all in
      let two = factor-pos (base p 0 * base p 1) (base p 2) three.0 in
      let one = factor-pos (base p 0) (base p 1) two.0 in
      go i h one.0 one.1 two.1 three.1
    where
      go : (i : ℕ) → i < 5 → 0 < base p 0 → 0 < base p 1 → 0 < base p 2 → 0 < base p 3 → 0 < base p i
      go zero h a b c d = a
      go (suc zero) h a b c d = b
      go (suc (suc zero)) h a b c d = c
      go (suc (suc (suc zero))) h a b c d = d
      go (suc (suc (suc (suc zero)))) h a b c d = omega (arith, ok)
      go (suc (suc (suc (suc (suc i))))) h a b c d = absurd (omega arith)

  pub unit-pos : (i : ℕ) → i ≤ 5 → 0 < unit p i
  unfolding unit
  unit-pos zero h = omega arith
  unit-pos (suc i) h = mul-pos (unit-pos i (omega arith)) (base-pos i (omega arith))

  -- the top digit of a number below the modulus is at most s
  pub top_below : (x : ℕ) → x < p.modulus → digit p x 4 < base p 4
  top_below x h =
      let c = split x {b = p.alpha} ok.some_alpha in
      let e : digit p x 4 ≡ x / p.alpha = top_digit p x ∙ ap (λ (u : ℕ). x / u) unit-alpha in
      let l : x / p.alpha < p.parts + 1 = lt_of_mul-lt-mul_right p.alpha {m = x / p.alpha} {n = p.parts + 1} (omega (arith, ok)) in
      omega (arith, ok)

  -- each digit of a number below the modulus, by its unit; and it is below its base
  pub any_digit : (x i : ℕ) → x < p.modulus → i < 5 → digit p x i ≡ x / unit p i % base p i
  any_digit x i hx h = go (dec_lt i 4)
    where
      go : Dec (i < 4) → digit p x i ≡ x / unit p i % base p i
      go (yes l) = low_digit p x i l
      go (no l) =
          let e : i ≡ 4 = omega arith in
          let s : x / unit p 4 < base p 4 = rw (top_digit p x) at (top_below x hx) in
          rw e (top_digit p x ∙ sym (mod-eq_of_lt s))

  pub digit_below : (x i : ℕ) → x < p.modulus → i < 5 → digit p x i < base p i
  digit_below x i hx h = rw (any_digit x i hx h) (mod-lt (x / unit p i) (base-pos i h))

  -- ---- the digits of a sum

  pub carry_le : (y r i : ℕ) → i ≤ 5 → carry_into p y r i ≤ 1
  unfolding carry_into
  carry_le y r i h = carry_small (unit p i) (unit-pos i h) y r

  pub carry-none : (y r : ℕ) → carry_into p y r 0 ≡ 0
  unfolding carry_into unit
  carry-none y r = omega arith

  pub carry-next : (y r i : ℕ) → i < 4 → carry_into p y r (suc i) ≡ bit (leb (base p i) (digit p r i + (digit p y i + carry_into p y r i)))
  unfolding carry_into unit
  carry-next y r i h =
      rw (low_digit p r i h, low_digit p y i h) (carry-step (unit p i) (unit-pos i (omega arith)) (base p i) y r (base-pos i (omega arith)))

  pub zero_is : (y r i : ℕ) → i < 4 → zero_digit p y r i ≡ bit (eqb ((digit p r i + (digit p y i + carry_into p y r i)) % base p i) 0)
  unfolding zero_digit carry_into
  zero_is y r i h =
      rw (low_digit p r i h, low_digit p y i h, digit-step (unit p i) (unit-pos i (omega arith)) (base p i) y r)

  pub top-is : (y r : ℕ) → top_sum p y r ≡ (y + r) / p.alpha
  unfolding carry_into
  top-is y r = by_unit ∙ ap (λ (u : ℕ). (y + r) / u) unit-alpha
    where
      by_unit : top_sum p y r ≡ (y + r) / unit p 4
      by_unit = rw (top_digit p r, top_digit p y, sum_over (unit p 4) (unit-pos 4 (omega arith)) y r) (omega arith)

  pub zeros_view : (y r n : ℕ) → n ≤ 4 → Zeros n (sum_to n (zero_digit p y r)) ((y + r) % unit p n)
  unfolding sum_to zero_digit unit
  zeros_view y r zero h = all-zero refl (omega arith)
  zeros_view y r (suc n) h =
      rw (mod_unit (unit p n) (unit-pos n (omega arith)) (base p n) (y + r) (base-pos n (omega arith)))
      (zeros-step (unit p n) n (sum_to n (zero_digit p y r)) ((y + r) % unit p n) ((y + r) / unit p n % base p n) _
      (unit-pos n (omega arith)) (zeros_view y r n (omega arith)) (eq_view ((y + r) / unit p n % base p n) 0))
