-- What the functions of a round hold in lent lists: a side's numbers for the openings, and the running registers after the round.
use Rattle.std.specs.Prelude.{ℕ, ◌+◌, ◌-◌, ◌*◌, ◌/◌, ◌%◌, ◌<◌, ◌≡◌, Bool, true, cond, ◌&&◌, List, eqb, length, get_or}
use Rattle.settings.specs.Sets.{scale_of}
use Rattle.settings.specs.Sizes.{openings, most_openings}
use Rattle.field.specs.Field.{q}
use Rattle.field.specs.Forms.{value}
use Rattle.slice.specs.Layout.{column, masked_in}
use Rattle.steps.specs.Steps.{Public}
use Rattle.steps.specs.Work.{opening_on, running_on}
use Rattle.steps.specs.declared.Context.{Context}
use Rattle.steps.specs.Context.{split_place, split_in}
use Rattle.steps.specs.Gates.{gate_at, open_u, open_v}
use Rattle.column.specs.declared.choice.ColumnChoice.{ColumnChoice}
use Rattle.column.specs.declared.choice.ChosenColumns.{ChosenColumns}
use Rattle.column.specs.declared.numbers.RoundNumbers.{RoundNumbers}
use Rattle.column.specs.Choice.{column_at}

-- ---- One number in each column

-- `numbers` are what a step gives for each of the first columns
abbrev pub Gives : (ℕ → ℕ → Type 0) → ℕ → (ℕ → ℕ) → Type 0
Gives post count numbers = (f x : ℕ) → f < count → post f x → x ≡ numbers f

-- ---- Openings

-- opening o in column c; κs are the columns' weights
abbrev pub opening_in : Public → ℕ → List ℕ → List ℕ → ℕ → ℕ → ℕ
opening_in w round κs work c o = opening_on w round (get_or κs c 0) (column work c) o

-- `out` holds, from place 32 × f on, the first openings in the column at place f of the choice
abbrev pub Holds : Public → ℕ → List ℕ → List ℕ → ColumnChoice → ℕ → List ℕ → Type 0
Holds w round κs work columns count out =
    (f o : ℕ) → f < columns.count → o < count → get_or out (most_openings * f + o) 0 ≡ opening_in w round κs work (column_at columns.skip f) o

-- all columns, and all openings of the round
abbrev pub HeldAll : Public → ℕ → List ℕ → List ℕ → List ℕ → Type 0
HeldAll w round κs work own =
    (c : ℕ) → c < length κs → (o : ℕ) → o < openings w.params round → get_or own (most_openings * c + o) 0 ≡ opening_in w round κs work c o

-- the same of lent columns
abbrev pub Prepared : Public → ℕ → ChosenColumns → ℕ → List ℕ → Type 0
Prepared w round columns count out = Holds w round columns.weights.now columns.work.now columns.choice count out

-- ---- Registers: 16 places for each column, the first registers of eight coefficients and then the second

-- the place of gate g: gate 2 × j + which
abbrev pub slot : ℕ → ℕ
slot g = 8 * (g % 2) + g / 2

-- `next` holds the registers of the first gates after the round, in all columns
abbrev pub RegistersHeld : Public → ℕ → (ℕ → ℕ) → List ℕ → List ℕ → ℕ → List ℕ → Type 0
RegistersHeld w round opened κs work gates next =
    (c g : ℕ) → c < length κs → g < gates → get_or next (16 * c + slot g) 0 ≡ running_on w round opened (get_or κs c 0) (column work c) (g % 2) (g / 2)

-- the same of the lent lists
abbrev pub Made : Public → ℕ → RoundNumbers → ℕ → List ℕ → Type 0
Made w round numbers gates next = RegistersHeld w round (λ (o : ℕ). get_or numbers.opened.now o 0) numbers.weights.now numbers.work.now gates next

-- a side's own numbers for the two openings of each gate of a round, as the gates themselves have them
abbrev pub GatesHeld : Context → List ℕ → List ℕ → List ℕ → Type 0
GatesHeld known κs work own =
    (c g : ℕ) → c < length κs → g < 2 * known.settings.shape.n
    → (get_or own (most_openings * c + 2 * g) 0
    ≡ value q (get_or κs c 0) (column work c) (open_u (gate_at known.settings.shape (split_in known (split_place known.settings.shape.kind g)) g (known.round - 1))))
    × (get_or own (most_openings * c + (2 * g + 1)) 0
    ≡ value q (get_or κs c 0) (column work c) (open_v (gate_at known.settings.shape (split_in known (split_place known.settings.shape.kind g)) g (known.round - 1))))

-- the masked numbers that a round's digits are of: in round 1 those just opened, later those that the slice holds
abbrev pub masked_after : ℕ → (ℕ → ℕ) → List ℕ → ℕ → ℕ
masked_after round opened work = cond (eqb round 1) opened (masked_in work)

-- does a round sum F and F'? Round 5 of HIGH does
abbrev pub sums_top : ℕ → ℕ → Bool
sums_top kind round = eqb kind 0 && eqb round 5

-- the list that a round of gates is lent: where it sums F and F', the one for s of its set; no other sum reads it
abbrev pub RoundList : (ℕ → List ℕ) → Context → List ℕ → Type 0
RoundList lists known list =
    sums_top known.settings.shape.kind known.round ≡ true → list ≡ lists (scale_of known.settings.shape.set).parts
