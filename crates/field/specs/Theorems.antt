-- What is proved of q, as a type.
use Rattle.std.specs.Prelude.{ℕ, ◌%◌, ◌≡◌, ◌⊎◌}
use Rattle.field.specs.Field.{q, mul}

-- q is prime, as "no zero divisors modulo q": a product that is 0 modulo q has a factor that is 0 modulo q
abbrev pub NoZeroDivisors : Type 0
NoZeroDivisors = (a b : ℕ) → mul q a b ≡ 0 → (a % q ≡ 0) ⊎ (b % q ≡ 0)
