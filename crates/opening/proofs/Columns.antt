-- Lists of columns of a round's openings.
use mathlib.Core.Path.{◌≡◌, refl, ◌∙◌}
use mathlib.Core.List.{List}
use Prim.Native.Nat.{ℕ, zero, suc, ◌+◌, ◌*◌, ◌≤◌, ◌<◌}
use native.Mathlib.Decide.{dec_lt}
use native.Mathlib.Omega.{arith}
use lib.ListN.{length, get_or}
use Rattle.lists.specs.Lists.{fill}
use Rattle.lists.proofs.Fill.{length-fill, fill-at, fill-before}
use Rattle.settings.specs.Sizes.{most_openings}
use Rattle.opening.specs.Work.{columns_to}

module _ (count : ℕ) (f : ℕ → ℕ → ℕ) (own : List ℕ) where
  pub length_columns : (m : ℕ) → length (columns_to count f own m) ≡ length own
  unfolding columns_to
  length_columns zero = refl
  length_columns (suc m) = length-fill _ _ count _ ∙ length_columns m

  -- number o of column c
  pub columns_at : count ≤ most_openings → (m c o : ℕ) → most_openings * m ≤ length own → c < m → o < count
      → get_or (columns_to count f own m) (most_openings * c + o) 0 ≡ f c o
  unfolding columns_to
  columns_at few zero c o room h l = absurd (omega arith)
  columns_at few (suc m) c o room h l = go (dec_lt c m) (λ b. columns_at few m c o (omega arith) b l)
    where
      go : Dec (c < m) → (c < m → get_or (columns_to count f own m) (most_openings * c + o) 0 ≡ f c o)
          → get_or (fill (columns_to count f own m) (most_openings * m) count (f m)) (most_openings * c + o) 0 ≡ f c o
      go (yes b) ih = fill-before (columns_to count f own m) (most_openings * m) count (f m) (most_openings * c + o) (omega arith) ∙ ih b
      go (no b) ih =
          let e : c ≡ m = omega arith in
          rw e (fill-at (columns_to count f own m) (most_openings * m) count (f m) o (omega (arith, length_columns m)) l)
