-- Linear forms with public coefficients over the numbers of a column, and what the values on two columns add up to.
use Rattle.std.specs.Prelude.{cond, ℕ, ◌+◌, ◌-◌, ◌*◌, ◌%◌, ltb}
use Rattle.field.specs.Field.{add, sub, mul}
use Rattle.field.specs.Sums.{sum_to}
use Rattle.field.specs.Congruence.{◌⊩◌≈◌}

-- a column's numbers, by their places
abbrev pub Registers : Type 0
Registers = ℕ → ℕ

-- a public number; the number at a place; n numbers from a place on, each times its public weight;
-- a sum, a difference; a public number times a form
infixl 65 ◌⊞◌ ◌⊟◌
infixr 70 ◌⊠◌
pub data Form : Type 0 where
  num : ℕ → Form
  reg : ℕ → Form
  sum : ℕ → ℕ → (ℕ → ℕ) → Form
  ◌⊞◌ : Form → Form → Form
  ◌⊟◌ : Form → Form → Form
  ◌⊠◌ : ℕ → Form → Form

-- a form's value on a column of weight κ: κ is what a public 1 adds to the column. Each step is reduced modulo q.
module _ (q κ : ℕ) (r : Registers) where
  abbrev pub value : Form → ℕ
  value (num a) = mul q κ a
  value (reg place) = r place
  value (sum n place weight) = sum_to n (λ (x : ℕ). weight x * r (place + x)) % q
  value (f ⊞ g) = add q (value f) (value g)
  value (f ⊟ g) = sub q (value f) (value g)
  value (a ⊠ f) = mul q a (value f)

-- a and b add up to m times v, modulo q
pub record Adds (q m a b v : ℕ) : Type 0 where
  pub total : q ⊩ a + b ≈ m * v

-- two columns add up to m times the plain column: their weights to m, their numbers place by place
pub record Join (q m κ₁ κ₂ : ℕ) (r₁ r₂ plain : Registers) : Type 0 where
  pub weight : q ⊩ κ₁ + κ₂ ≈ m
  pub numbers : (place : ℕ) → Adds q m (r₁ place) (r₂ place) (plain place)

-- a column with f 0 .. f (n - 1) at the places a .. a + n - 1
abbrev pub updated : Registers → ℕ → ℕ → (ℕ → ℕ) → Registers
updated r a n f place = cond (ltb place a) (r place) (cond (ltb place (a + n)) (f (place - a)) (r place))
