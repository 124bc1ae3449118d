-- The arms of the code's match on a set and a digit's index.
use mathlib.Core.Path.{◌≡◌}
use Prim.Native.Nat.{ℕ, ◌+◌, ◌*◌, ◌/◌, ◌%◌, ◌≤◌, ◌<◌}
use native.Mathlib.Omega.{arith}
use Rattle.field.specs.Sums.{sum_to}
use Rattle.settings.specs.Sets.{scale_of, base}

-- what arm k gives is where the digit of the set begins, if it is so at the arm's own set and digit
pub start-at : (set i k r : ℕ) → i < 6 → 6 * set + i ≡ k → (r ≡ 1 + sum_to (k % 6) (base (scale_of (k / 6)))) × (r ≤ 133)
    → (r ≡ 1 + sum_to i (base (scale_of set))) × (r ≤ 133)
start-at set i k r h e is =
    let s : k / 6 ≡ set = omega arith in
    let d : k % 6 ≡ i = omega arith in
    rw (s, d) at is
