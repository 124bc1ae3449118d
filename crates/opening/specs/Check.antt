-- The check of an opening, over what the two sides give to it.
use Rattle.std.specs.Prelude.{ℕ, Bool, List, eqb, get_or}
use Rattle.lists.specs.Lists.{all_to}
use Rattle.field.specs.Field.{q, add, mul}

-- what one side gives to an opening: its share, and its part under each key of the side that checks
pub record Given : Type 0 where
  pub share : ℕ
  pub part : ℕ → ℕ

-- "the joined number"
abbrev pub joined : Given → Given → ℕ
joined own other = add q own.share other.share

-- "The check: the two parts under my key add to my key × the joined number"; "each part checked" (02): for each of my k keys
unfoldable pub accepts : ℕ → List ℕ → Given → Given → Bool
accepts k keys own other =
    all_to k (λ (key : ℕ). eqb (add q (own.part key) (other.part key)) (mul q (get_or keys key 0) (joined own other)))
