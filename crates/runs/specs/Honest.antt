-- What holds of an honest run by arithmetic alone, no call in it: the slices that both sides come to, what their begins are
-- handed, and that the messages pass and open the plain numbers. Progress follows from it.
use Rattle.std.specs.Prelude.{ℕ, suc, ◌*◌, ◌-◌, ◌<◌, ◌≤◌, ◌≡◌, true, List, length}
use Rattle.lists.specs.Lists.{all_below, all_to}
use Rattle.field.specs.Field.{q}
use Rattle.settings.specs.Sizes.{width_of, openings, field_count, shared, work_length}
use Rattle.settings.specs.Schedule.{rounds, take_step}
use Rattle.message.specs.Message.{header_in, header_number, fields_ok, header_with}
use Rattle.column.specs.Run.{plain_opened}
use Rattle.opening.specs.Opening.{passes}
use Rattle.side.specs.Side.{opened_list}
use Rattle.settings.specs.declared.Settings.{Settings}
use Rattle.settings.specs.Settings.{params_in, terms_of}
use Rattle.runs.specs.Records.{PartyInput}
use Rattle.runs.specs.Demands.{Fixed, Numbers, Secret, Shares, Possible, observer_input, peer_input}
use Rattle.runs.specs.Progress.{work_at, side_at, message_at}

-- the other side's messages, by round, have the due header, fields below q and zero padding; every opening passes its check here,
-- and the joined numbers are `numbers R`
pub record Meets (k : ℕ) (s : Settings) (serial : ℕ) (numbers : ℕ → List ℕ) (own : PartyInput) (messages : ℕ → List ℕ) : Type 0 where
  pub header : (R : ℕ) → R < rounds
      → header_in (field_count k (params_in s) (suc R)) (messages (suc R))
      ≡ header_number (header_with (1 - own.number) s (suc R) serial)
  pub fields : (R : ℕ) → R < rounds → fields_ok (field_count k (params_in s) (suc R)) (messages (suc R)) ≡ true
  pub pass : (R : ℕ) → R < rounds
      → all_to (openings (params_in s) (suc R))
      (passes k (side_at k s serial numbers own (take_step own.number R)) (work_at k s serial numbers own R) (messages (suc R)))
      ≡ true
  pub opens : (R : ℕ) → R < rounds
      → opened_list k (side_at k s serial numbers own (take_step own.number R)) (work_at k s serial numbers own R) (messages (suc R))
      ≡ numbers R

-- one side: its slices pass questions 5 and 6, its inputs and book too, and the other's messages meet it
pub record SideRuns (k : ℕ) (s : Settings) (serial : ℕ) (numbers : ℕ → List ℕ) (own : PartyInput) (messages : ℕ → List ℕ) : Type 0 where
  pub exact : (R : ℕ) → R ≤ rounds → length (work_at k s serial numbers own R) ≡ work_length k
  pub low : (R : ℕ) → R ≤ rounds → all_below q (work_at k s serial numbers own R) ≡ true
  pub inputs : Numbers (s.shape.n * width_of k) own.inputs
  pub book : Numbers (shared (params_in s) * width_of k) own.book
  pub meets : Meets k s serial numbers own messages

-- both sides, for all that Progress speaks of; the numbers are those that the plain run opens
abbrev pub Runs : ℕ → Type 0
Runs k =
    (s : Settings) (serial : ℕ) (keys0 keys1 : List ℕ)
    → Fixed k s serial keys0 keys1
    → (number : ℕ)
    → number < 2
    → (secret inputs draw : List ℕ)
    → Secret s secret
    → Shares k s inputs
    → Possible k s draw
    → let own : PartyInput = observer_input k s number keys0 keys1 inputs draw in
    let other : PartyInput = peer_input k s number keys0 keys1 inputs secret draw in
    let numbers : ℕ → List ℕ = plain_opened (terms_of s) (width_of k) draw secret in
    SideRuns k s serial numbers own (message_at k s serial numbers other) × SideRuns k s serial numbers other (message_at k s serial numbers own)
