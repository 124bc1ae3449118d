-- Words for answers: a test as a number, and "the first no decides".
use Rattle.std.specs.Prelude.{ℕ, Bool, true, false}

-- 1 where a test passes, else 0
unfoldable pub bit : Bool → ℕ
bit true = 1
bit false = 0

-- "The first no decides": a yes goes on with the rest, a no gives its number
unfoldable pub ask : Bool → ℕ → ℕ → ℕ
ask true n rest = rest
ask false n rest = n
