-- What a side has for the openings of its round, the message that it sends, and the check of the other side's.
-- k is the number of keys a side.
use Rattle.std.specs.Prelude.{ℕ, ◌+◌, ◌*◌, ◌-◌, Bool, cond, List, ◌∷◌, eqb, get_or}
use Rattle.lists.specs.Lists.{list_to, join_to}
use Rattle.settings.specs.Sizes.{openings, field_count}
use Rattle.settings.specs.Settings.{params_in, terms_of}
use Rattle.message.specs.declared.Header.{Header}
use Rattle.message.specs.Message.{header_number, header_with, message_of, field_in}
use Rattle.slice.specs.Layout.{column, own_in, masked_in, weights}
use Rattle.steps.specs.Steps.{public_of}
use Rattle.steps.specs.Work.{opening_on}
use Rattle.state.specs.declared.Side.{Side}
use Rattle.opening.specs.Check.{Given, joined, accepts}

-- ---- Sizes

-- the column of the part under a key of side `number`
abbrev pub part_column : ℕ → ℕ → ℕ → ℕ
part_column k number key = 1 + number * k + key

-- ---- What a side has for the openings of its round

-- opening o in column c, worked out from the working slice
unfoldable pub prepared : ℕ → Side → List ℕ → ℕ → ℕ → ℕ
prepared k s work c o =
    opening_on (public_of (terms_of s.settings) (masked_in work)) s.round
    (get_or (weights k s.number s.keys) c 0) (column work c) o

-- to be sent: the server works its openings out, the phone kept its own when it took the round
unfoldable pub outgoing : ℕ → Side → List ℕ → ℕ → ℕ → ℕ
outgoing k s work c o = cond (eqb s.number 0) (prepared k s work c o) (own_in work c o)

-- ---- Send

-- the header of its message
abbrev pub own_header : Side → Header
own_header s = header_with s.number s.settings s.round s.serial

-- "sends its share and its part under the receiver's key", "coefficient by coefficient"; "An opening carries one share and four parts" (02):
-- the share, then the parts under the receiver's keys in their order
unfoldable pub message : ℕ → Side → List ℕ → List ℕ
message k s work =
    message_of (header_number (own_header s))
    (join_to (openings (params_in s.settings) s.round) (λ (o : ℕ).
    outgoing k s work 0 o ∷ list_to k (λ (key : ℕ). outgoing k s work (part_column k (1 - s.number) key) o)))

-- ---- Take

-- "Header equal to mine, with the other sender"
abbrev pub due_header : Side → Header
due_header s = header_with (1 - s.number) s.settings s.round s.serial

-- field f of opening o of a message
unfoldable pub incoming : ℕ → Side → List ℕ → ℕ → ℕ → ℕ
incoming k s msg o f = field_in (field_count k (params_in s.settings) s.round) msg (o * (1 + k) + f)

-- what the receiver itself gives to opening o, and what the message gives
abbrev pub own_given : ℕ → Side → List ℕ → ℕ → Given
own_given k s work o =
    record { share = prepared k s work 0 o; part = λ (key : ℕ). prepared k s work (part_column k s.number key) o }

abbrev pub given : ℕ → Side → List ℕ → ℕ → Given
given k s msg o = record { share = incoming k s msg o 0; part = λ (key : ℕ). incoming k s msg o (1 + key) }

-- "the joined number" of opening o
unfoldable pub opened : ℕ → Side → List ℕ → List ℕ → ℕ → ℕ
opened k s work msg o = joined (own_given k s work o) (given k s msg o)

-- the check of opening o
unfoldable pub passes : ℕ → Side → List ℕ → List ℕ → ℕ → Bool
passes k s work msg o = accepts k s.keys (own_given k s work o) (given k s msg o)
