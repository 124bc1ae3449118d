-- What is proved of the check, as a type: for any number of keys.
use Rattle.std.specs.Prelude.{◌≡◌, true, List, ℕ, ◌+◌, ◌<◌, get_or}
use Rattle.field.specs.Field.{q}
use Rattle.field.specs.Forms.{Adds}
use Rattle.opening.specs.Check.{Given, accepts}

pub record CheckPasses : Type 0 where
  -- an honest opening passes: the shares add up to a number x, the parts under each key to key × x, modulo q
  pub honest : (k : ℕ) (keys : List ℕ) (own other : Given) (x : ℕ)
      → Adds q 1 own.share other.share x
      → ((key : ℕ) → key < k → Adds q (get_or keys key 0) (own.part key) (other.part key) x)
      → accepts k keys own other ≡ true
  -- an opening that passes: the parts under each key add up to key × the sum of the shares, modulo q
  pub passed : (k : ℕ) (keys : List ℕ) (own other : Given)
      → accepts k keys own other ≡ true
      → (key : ℕ)
      → key < k
      → Adds q (get_or keys key 0) (own.part key) (other.part key) (own.share + other.share)
