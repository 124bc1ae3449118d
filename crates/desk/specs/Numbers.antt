-- What is left when the words of a line have been read as numbers.
use Rattle.std.specs.Prelude.{ℕ, ◌≤◌, ◌≡◌, List, length, take, Option, IfSome}
use Rattle.std.specs.Option.{option_map}
use Rattle.syntax.specs.Line.{values_of}
use Rattle.desk.specs.Desk.{fields_of}

-- how many there are, if each is a number; they stand in front
pub record ReadsNumbers (ws : List (List ℕ)) (r : Option ℕ) (numbers : List ℕ) : Type 0 where
  pub room : IfSome r (λ count. count ≤ length numbers)
  pub values : option_map (λ (count : ℕ). take count numbers) r ≡ values_of (fields_of ws)
