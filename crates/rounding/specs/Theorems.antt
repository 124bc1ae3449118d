-- What is proved of the plain arithmetic, as types: for every lawful scale (both sets are: settings/specs/Theorems).
use Rattle.std.specs.Prelude.{ℕ, suc, ◌+◌, ◌*◌, ◌-◌, ◌/◌, ◌%◌, ◌<◌, ◌≤◌, ◌≡◌, eqb, leb, ltb, pos}
use Rattle.lists.specs.Answers.{bit}
use Rattle.field.specs.Field.{sub}
use Rattle.settings.specs.Sets.{Scale, base}
use Rattle.settings.specs.Theorems.{Lawful}
use Rattle.rounding.specs.Plain.{shifted, high_part, decompose, high_low_of, joined, inside}
use Rattle.rounding.specs.Digits.{digit}
use Rattle.rounding.specs.Rounds.{carry_into, zero_digit, top_sum, gap, check_opens, check_result, high_result, below_up_to, inside_result}

pub record PlainLaws : Type 0 where
  -- 01's high part is Decompose's (its low part is by definition); both parts join to the number: request Two's identity
  pub high : (p : Scale) → Lawful p → (w : ℕ) → w < p.modulus → pos (high_part p w) ≡ (decompose p w).high
  pub join : (p : Scale) → Lawful p → (w : ℕ) → w < p.modulus → joined p (high_low_of p w) ≡ w
  -- request One: a high part is in the range that question 15 asks for
  pub high_below : (p : Scale) → Lawful p → (w : ℕ) → high_part p w < p.parts
  -- the digits of a number join to the number, and each is below its base
  pub digits : (p : Scale) (x : ℕ) → digit p x 0 + base p 0 * (digit p x 1 + base p 1 * (digit p x 2 + base p 2 * (digit p x 3 + base p 3 * digit p x 4))) ≡ x
  pub digit_below : (p : Scale) → Lawful p → (x i : ℕ) → x < p.modulus → i < 5 → digit p x i < base p i
  -- mixed radix: carry and zero digit of y + r, digit by digit, and the top
  pub carry : (p : Scale) → Lawful p → (y r i : ℕ) → i < 4 → carry_into p y r (suc i) ≡ bit (leb (base p i) (digit p r i + (digit p y i + carry_into p y r i)))
  pub zero : (p : Scale) → Lawful p → (y r i : ℕ) → i < 4 → zero_digit p y r i ≡ bit (eqb ((digit p r i + (digit p y i + carry_into p y r i)) % base p i) 0)
  pub top : (p : Scale) → Lawful p → (y r : ℕ) → top_sum p y r ≡ (y + r) / p.alpha
  -- t(d) − C is the high part, whatever r and ρ
  pub result : (p : Scale) → Lawful p → (w r ρ : ℕ) → w < p.modulus → r < p.modulus → ρ < p.modulus
      → high_result p ρ (sub p.modulus (shifted p w) r) r ≡ high_part p w
  -- the zero check
  pub check : (m K : ℕ) → 0 < m → m % (K + 1) ≤ gap m K → (ρ n : ℕ) → ρ < m → n ≤ K → check_result m K ρ (check_opens m K ρ n) ≡ bit (eqb n 0)
  -- BOUND: a comparison digit by digit, and a coefficient is inside, whatever r
  pub compare : (p : Scale) → Lawful p → (r limit i : ℕ) → r < p.modulus → limit < p.modulus → i < 5
      → below_up_to p r limit (suc i) ≡ bit (ltb (digit p r i) (digit p limit i)) + bit (eqb (digit p r i) (digit p limit i)) * below_up_to p r limit i
  pub bound : (p : Scale) → Lawful p → (v bound r : ℕ) → v < p.modulus → r < p.modulus → 1 ≤ bound → 2 * bound < p.modulus
      → inside_result p bound (sub p.modulus (v + (bound - 1)) r) r ≡ bit (inside p.modulus bound v)
