-- The steps on a working slice: this side's numbers for a round's openings, and the slice after the round is taken.
use Rattle.std.specs.Prelude.{ℕ, zero, suc, ◌+◌, ◌*◌, cond, List, eqb, length, get_or}
use Rattle.lists.specs.Lists.{fill}
use Rattle.field.specs.Forms.{Registers, value}
use Rattle.settings.specs.Settings.{Terms}
use Rattle.settings.specs.Sizes.{openings, places}
use Rattle.slice.specs.Layout.{running_at, own_at, masked_at, column, masked_in}
use Rattle.steps.specs.Steps.{Public, public_of, opening, running}

-- on a column of weight κ
abbrev pub opening_on : Public → ℕ → ℕ → Registers → ℕ → ℕ
opening_on w round κ r o = value w.params.scale.modulus κ r (opening w round o)

abbrev pub running_on : Public → ℕ → (ℕ → ℕ) → ℕ → Registers → ℕ → ℕ → ℕ
running_on w round opened κ r which j = value w.params.scale.modulus κ r (running w round opened which j)

-- column c, of weight κ, after a round: own openings, then first and second registers; all read the column as it was
unfoldable pub taken_column : Public → ℕ → (ℕ → ℕ) → ℕ → ℕ → List ℕ → List ℕ
taken_column w round opened c κ work =
    fill
    (fill
    (fill work (c * places + own_at 0) (openings w.params round) (opening_on w round κ (column work c)))
    (c * places + running_at 0 0) w.params.n (running_on w round opened κ (column work c) 0))
    (c * places + running_at 1 0) w.params.n (running_on w round opened κ (column work c) 1)

-- the first columns, by their weights
unfoldable pub taken_columns : Public → ℕ → (ℕ → ℕ) → List ℕ → List ℕ → ℕ → List ℕ
taken_columns w round opened κs work zero = work
taken_columns w round opened κs work (suc c) = taken_column w round opened c (get_or κs c 0) (taken_columns w round opened κs work c)

-- the whole slice: all columns, and in column 0 the masked numbers. In round 1 these are the numbers just opened, later those
-- that the slice holds
unfoldable pub taken_work : Terms → ℕ → (ℕ → ℕ) → List ℕ → List ℕ → List ℕ
taken_work T round opened κs work =
    let w = public_of T (cond (eqb round 1) opened (masked_in work)) in
    let after = taken_columns w round opened κs work (length κs) in
    cond (eqb round 1) (fill after (masked_at 0) T.params.n opened) after
