-- The messages of an honest run: what a side gives to the openings of a round, worked out by 01's steps from the shares that it holds
-- after the rounds before, and the message that carries it.
use Rattle.std.specs.Prelude.{ℕ, suc, ◌-◌, cond, List, [], ◌∷◌, eqb, get_or}
use Rattle.lists.specs.Lists.{list_to, join_to}
use Rattle.settings.specs.declared.Settings.{Settings}
use Rattle.settings.specs.Settings.{params_in, terms_of}
use Rattle.settings.specs.Sizes.{openings}
use Rattle.message.specs.Message.{header_number, header_with, message_of}
use Rattle.slice.specs.Layout.{column, masked_in, weights}
use Rattle.steps.specs.Steps.{public_of}
use Rattle.steps.specs.Work.{opening_on}
use Rattle.opening.specs.Opening.{part_column}
use Rattle.runs.specs.Records.{PartyInput, Observation}
use Rattle.runs.specs.Records.Observation.{began, sent, took, answered, counted}
use Rattle.runs.specs.Progress.{work_at}

-- numbers R: the numbers that round R + 1 opens
module _ (k : ℕ) (s : Settings) (serial : ℕ) (numbers : ℕ → List ℕ) where
  -- a side's own number for opening o of round R + 1, in column c (0 the share, then a part under each key): the step on its shares
  unfoldable pub own_number : PartyInput → ℕ → ℕ → ℕ → ℕ
  own_number own R c o =
      opening_on (public_of (terms_of s) (masked_in (work_at k s serial numbers own R))) (suc R)
      (get_or (weights k own.number own.keys) c 0) (column (work_at k s serial numbers own R) c) o

  -- "sends its share and its part under the receiver's key", under each of the receiver's keys
  abbrev pub opening_fields : PartyInput → ℕ → ℕ → List ℕ
  opening_fields own R o =
      own_number own R 0 o ∷ list_to k (λ (key : ℕ). own_number own R (part_column k (1 - own.number) key) o)

  -- "for each opening, coefficient by coefficient"
  unfoldable pub round_fields : PartyInput → ℕ → List ℕ
  round_fields own R = join_to (openings (params_in s) (suc R)) (opening_fields own R)

  -- the message of round R + 1: its header, then the openings
  abbrev pub round_message : PartyInput → ℕ → List ℕ
  round_message own R = message_of (header_number (header_with own.number s (suc R) serial)) (round_fields own R)

-- the messages that were sent, in order: a refused send sends none
unfoldable pub messages_in : List Observation → List (List ℕ)
messages_in [] = []
messages_in (began refused ∷ log) = messages_in log
messages_in (sent refused message ∷ log) = cond (eqb refused 0) (message ∷ messages_in log) (messages_in log)
messages_in (took refused message ∷ log) = messages_in log
messages_in (answered refused ns ∷ log) = messages_in log
messages_in (counted n ∷ log) = messages_in log
