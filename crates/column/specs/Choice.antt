-- Columns of a working slice.
use Rattle.std.specs.Prelude.{ℕ, ◌+◌, ◌*◌, ◌≤◌, ◌≡◌, cond, List, eqb, length}
use Rattle.settings.specs.Sizes.{places}
use Rattle.column.specs.declared.choice.ColumnChoice.{ColumnChoice}

-- the column at place f of a choice of columns: the share's first, then those of parts from column 1 + skip on
unfoldable pub column_at : ℕ → ℕ → ℕ
column_at skip f = cond (eqb f 0) 0 (f + skip)

-- a working slice and its columns' weights have the columns of a choice
pub record Room (columns : ColumnChoice) (κs work : List ℕ) : Type 0 where
  pub chosen : columns.count + columns.skip ≤ length κs
  pub columns_long : length work ≡ length κs * places
  pub few : length κs ≤ 4294967296
