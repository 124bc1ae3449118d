-- Names for what the working functions leave, between the definitions of a round's openings.
use Rattle.std.specs.Prelude.{ℕ, zero, suc, ◌+◌, ◌-◌, ◌*◌, ◌/◌, ◌%◌, ◌<◌, ◌≡◌, Bool, cond, List, eqb, get_or}
use Rattle.lists.specs.Lists.{fill, all_to}
use Rattle.field.specs.Field.{q, add, mul}
use Rattle.settings.specs.Sizes.{key_count, width, openings, most_openings}
use Rattle.settings.specs.Settings.{params_in}
use Rattle.state.specs.declared.Side.{Side}
use Rattle.opening.specs.Opening.{part_column, prepared, outgoing}

-- a list with `count` numbers of f in each of its first columns, column c from place 32 × c on
unfoldable pub columns_to : ℕ → (ℕ → ℕ → ℕ) → List ℕ → ℕ → List ℕ
columns_to count f own zero = own
columns_to count f own (suc c) = fill (columns_to count f own c) (most_openings * c) count (f c)

-- ---- Send

-- the column of field f of an opening: the share, then the parts under the receiver's keys
abbrev pub field_column : Side → ℕ → ℕ
field_column s f = cond (eqb f 0) 0 (part_column key_count (1 - s.number) (f - 1))

-- opening o of field f
abbrev pub outgoing_in : Side → List ℕ → ℕ → ℕ → ℕ
outgoing_in s work f o = outgoing key_count s work (field_column s f) o

-- `sent` holds them, 32 places for each field of an opening
abbrev pub OutgoingHeld : Side → List ℕ → List ℕ → Type 0
OutgoingHeld s work sent =
    (f o : ℕ) → f < 1 + key_count → o < openings (params_in s.settings) s.round → get_or sent (most_openings * f + o) 0 ≡ outgoing_in s work f o

-- the fields of a round's message, opening by opening
unfoldable pub outgoing_field : Side → List ℕ → ℕ → ℕ
outgoing_field s work x = outgoing_in s work (x % (1 + key_count)) (x / (1 + key_count))

-- the same out of a list of columns, one for each field
abbrev pub in_turn : List ℕ → ℕ → ℕ
in_turn sent x = get_or sent (most_openings * (x % (1 + key_count)) + x / (1 + key_count)) 0

-- ---- Take

-- `own` holds a side's numbers for the openings of its round, 32 places for each column
abbrev pub PreparedHeld : Side → List ℕ → List ℕ → Type 0
PreparedHeld s work own =
    (c o : ℕ) → c < width → o < openings (params_in s.settings) s.round → get_or own (most_openings * c + o) 0 ≡ prepared key_count s work c o

-- opening o, joined from a list of columns and a message's fields
unfoldable pub joined_at : List ℕ → List ℕ → ℕ → ℕ
joined_at own fields o = add q (get_or own o 0) (get_or fields (o * (1 + key_count)) 0)

-- its check under one key, and under all keys
unfoldable pub part_at : Side → List ℕ → List ℕ → List ℕ → ℕ → ℕ → Bool
part_at s own fields numbers o key =
    eqb
    (add q (get_or own (most_openings * part_column key_count s.number key + o) 0) (get_or fields (o * (1 + key_count) + 1 + key) 0))
    (mul q (get_or s.keys key 0) (get_or numbers o 0))

unfoldable pub checked_at : Side → List ℕ → List ℕ → List ℕ → ℕ → Bool
checked_at s own fields numbers o = all_to key_count (part_at s own fields numbers o)
