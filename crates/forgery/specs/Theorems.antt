-- How often a forger is believed, as types: for any number k of keys a side, and for four.
use Rattle.std.specs.Prelude.{ℕ, ◌^◌, ◌<◌, ◌≡◌, ◌⊎◌, true, List, length}
use Rattle.lists.specs.Members.{count}
use Rattle.field.specs.Field.{q}
use Rattle.settings.specs.Schedule.{rounds}
use Rattle.settings.specs.Sizes.{key_count}
use Rattle.opening.specs.Check.{Given, accepts}
use Rattle.runs.specs.Records.{ScheduledCall}
use Rattle.runs.specs.Demands.{Possible}
use Rattle.forgery.specs.Choices.{Choice, choices, AtMostOne, None, AllChoices}
use Rattle.forgery.specs.Forgery.{Opening, following, NonZero, PartsOnly, believed, believed_all, guessing}
use Rattle.forgery.specs.Runs.{HonestRun, dealt, server_keys, phone_keys, draw_following, draw_under, sender_record, honest_message, take_answer}
use Rattle.forgery.specs.Runs.{Due, Formed, ShareDiffers, PartDiffers, Another, undetected, DueIn}

-- ---- The check

pub record Limit (k : ℕ) : Type 0 where
  -- "so that it passes unchanged": whatever the keys
  pub unchanged : (keys : List ℕ) (opening : Opening) → accepts k keys (following keys opening) opening.sent ≡ true
  -- an opening that passes does so with these own parts: no others below q pass
  pub no_other : (keys : List ℕ) (own sent : Given)
      → accepts k keys own sent ≡ true
      → (key : ℕ)
      → key < k
      → own.part key < q
      → own.part key ≡ (following keys (record { share = own.share; sent = sent })).part key
  -- "change the share by a non-zero amount and the parts by any amounts": "At most one choice .. accepts it"
  pub one_opening : (opening : Opening) (amounts : Given) → NonZero amounts.share → AtMostOne k (believed k opening amounts)
  -- "If only the parts change, none does"
  pub parts_only : (opening : Opening) (amounts : Given) → PartsOnly k amounts → None k (believed k opening amounts)
  -- "For a message of many openings, the same limit holds if any share changed"
  pub message : (n : ℕ) (openings : ℕ → Opening) (amounts : ℕ → Given) (o : ℕ)
      → o < n
      → NonZero (amounts o).share
      → AtMostOne k (believed_all k n openings amounts)
  -- a message in which only the parts of some opening change: none, whatever changes in the others
  pub message_parts : (n : ℕ) (openings : ℕ → Opening) (amounts : ℕ → Given) (o : ℕ)
      → o < n
      → PartsOnly k (amounts o)
      → None k (believed_all k n openings amounts)
  -- the limit is reached: whoever guesses the keys is believed under them, and so under one choice of all
  pub reached : (opening : Opening) (keys : List ℕ) (amount : ℕ) → believed k opening (guessing keys amount) keys ≡ true
  pub reached_once : (opening : Opening) (keys : List ℕ)
      → Choice k keys
      → (amount : ℕ)
      → NonZero amount
      → count (believed k opening (guessing keys amount)) (choices k) ≡ 1

-- ---- Take

-- what is dealt in an honest run under each choice
pub record DrawsFollow (k : ℕ) (r : HonestRun k) : Type 0 where
  -- the keys that were dealt are among the tried: under them the run is as dealt
  pub as_dealt : draw_under k r (dealt k r) ≡ r.draw
  -- draws under the dealt keys pair off one to one with draws under tried ones: the other is possible too, and leads back
  pub possible : (tried : List ℕ) → Choice k tried → Possible k r.settings (draw_under k r tried)
  pub back : (tried : List ℕ)
      → draw_following k r.settings r.receiver (server_keys k r tried) (phone_keys k r tried) (draw_under k r tried) (dealt k r) ≡ r.draw

-- in an honest run, at whichever side, after whichever calls
pub record Forged (k : ℕ) (r : HonestRun k) (calls : List ScheduledCall) : Type 0 where
  -- "chosen without those keys": the sender's whole record is the same under every choice, and so is all that it could choose by
  pub same_record : (tried : List ℕ) → Choice k tried → sender_record k r calls tried ≡ sender_record k r calls (dealt k r)
  -- "so that it passes unchanged": every choice takes the sender's message
  pub unchanged : Due k r calls → (tried : List ℕ) → Choice k tried → take_answer k r calls tried (honest_message k r calls) ≡ 0
  -- with questions 10 to 12 passed and some share changed, at most one choice does not answer 13
  pub share : Due k r calls → (forged : List ℕ) → Formed k r calls forged → ShareDiffers k r calls forged → AtMostOne k (undetected k r calls forged)
  -- with the share of an opening as it was, and a part changed there, every choice answers 13
  pub part : Due k r calls → (forged : List ℕ) → Formed k r calls forged → PartDiffers k r calls forged → None k (undetected k r calls forged)
  -- nothing else is left to change: any other message that passes 10 to 12 differs in one of these ways
  pub no_other_way : Due k r calls → (forged : List ℕ) → Another k r calls forged → ShareDiffers k r calls forged ⊎ PartDiffers k r calls forged
  -- and so, whatever message it is, at most one choice does not answer 13
  pub any_other : Due k r calls → (forged : List ℕ) → Another k r calls forged → AtMostOne k (undetected k r calls forged)

-- ---- For any number of keys, and for four

pub record Odds (k : ℕ) : Type 0 where
  pub all : AllChoices k
  pub limit : Limit k
  pub draws : (r : HonestRun k) → DrawsFollow k r
  pub runs : (r : HonestRun k) (calls : List ScheduledCall) → Forged k r calls
  -- at either side, in each round, there are calls after which the message is due
  pub each_round : (r : HonestRun k) (R : ℕ) → R < rounds → DueIn k r R

-- "At most one choice of the four keys accepts it, among (q − 1)⁴"
pub record FourKeys : Type 0 where
  pub odds : Odds key_count
  pub among : length (choices key_count) ≡ 4932445659784343776590299136
  -- about 92 bits
  pub bits : (2 ^ 91 < length (choices key_count)) × (length (choices key_count) < 2 ^ 92)
