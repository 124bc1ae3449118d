-- Congruence modulo any number.
use Rattle.std.specs.Prelude.{◌≡◌, ℕ, ◌%◌}

-- a and b leave the same remainder by q. A record, so that the checker finds its three numbers.
infix 50 ◌⊩◌≈◌
pub record ◌⊩◌≈◌ (q a b : ℕ) : Type 0 where
  pub path : a % q ≡ b % q
