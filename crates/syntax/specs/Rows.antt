-- Lists as they stand in an array of a fixed length.
use Rattle.std.specs.Prelude.{ℕ, List, get_or}
use Rattle.lists.specs.Lists.{list_to}

-- the first n of a list, with 0 behind its last
unfoldable pub row : ℕ → List ℕ → List ℕ
row n xs = list_to n (λ (i : ℕ). get_or xs i 0)
