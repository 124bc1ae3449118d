-- The lists that the registers after a round are made of.
use Rattle.std.specs.Prelude.{ℕ, ◌*◌, ◌≤◌, ◌<◌, ◌≡◌, List, length, get_or}
use Rattle.field.specs.Field.{q}
use Rattle.settings.specs.Sizes.{most_openings, places}

-- all columns of the weights are there, with own numbers for each, and the opened numbers are below q
pub record Fitting (work κs own opened : List ℕ) : Type 0 where
  pub columns_long : length work ≡ length κs * places
  pub own_long : most_openings * length κs ≤ length own
  pub opened_below : (o : ℕ) → get_or opened o 0 < q
