-- Progress: the party state of a side that has come so far in its run, and how calls move it; nothing here looks at a secret.
use Rattle.std.specs.Prelude.{ℕ, zero, suc, ◌-◌, Bool, cond, not, ◌&&◌, List, [], ◌∷◌, eqb, leb, ltb, length, get_or, replicate}
use Rattle.lists.specs.Lists.{in_front}
use Rattle.settings.specs.Sizes.{width_of, message_length}
use Rattle.settings.specs.Schedule.{rounds, goes_on, round_after, sends_after, taken_by, sent_by, send_step}
use Rattle.slice.specs.Layout.{begun_work, weights}
use Rattle.steps.specs.Work.{taken_work}
use Rattle.state.specs.declared.Side.{Side}
use Rattle.state.specs.State.{at_step}
use Rattle.opening.specs.Opening.{message}
use Rattle.side.specs.Side.{begun_side}
use Rattle.settings.specs.declared.Settings.{Settings}
use Rattle.settings.specs.Settings.{params_in, terms_of}
use Rattle.runs.specs.Records.{PartyInput, PartyState, JointState, Party, Call, ScheduledCall, run_of}
use Rattle.runs.specs.Records.Party.{observer, peer}
use Rattle.runs.specs.Records.Call.{begin, send, take_latest, answer, count}

-- ---- One side after m of its steps

-- numbers R: the numbers that round R + 1 opens
module _ (k : ℕ) (s : Settings) (serial : ℕ) (numbers : ℕ → List ℕ) (own : PartyInput) where
  -- the working slice after so many rounds
  unfoldable pub work_at : ℕ → List ℕ
  work_at zero = begun_work (params_in s) (width_of k) own.inputs own.book
  work_at (suc R) =
      let ns = numbers R in
      taken_work (terms_of s) (suc R) (λ (o : ℕ). get_or ns o 0)
      (weights k own.number own.keys) (work_at R)

  -- the kept answer after so many rounds: the last of all opens it
  abbrev pub answer_at : ℕ → List ℕ
  answer_at taken = cond (eqb taken rounds) (in_front (numbers (rounds - 1)) (replicate 8 0)) (replicate 8 0)

  -- the side after m steps
  unfoldable pub side_at : ℕ → Side
  side_at m =
      at_step (begun_side (run_of s serial own)) m
      (answer_at (taken_by own.number m))

  -- the message of a round, from the step at which it is sent
  unfoldable pub message_at : ℕ → List ℕ
  message_at round =
      let m = send_step own.number (round - 1) in
      message k (side_at m) (work_at (taken_by own.number m))

  unfoldable pub party_at : ℕ → PartyState
  party_at m =
      let sends = sent_by own.number m in
      record { side = side_at m; work = work_at (taken_by own.number m); latest = cond (eqb sends 0) [] (message_at sends) }

-- ---- Progress: one count for each side, 0 if it has not begun in this list, else 1 + its steps

pub record Counts : Type 0 where
  pub observer : ℕ
  pub peer : ℕ

abbrev pub none : Counts
none = record { observer = 0; peer = 0 }

abbrev pub taken_of : ℕ → ℕ → ℕ
taken_of number zero = 0
taken_of number (suc m) = taken_by number m

abbrev pub sent_of : ℕ → ℕ → ℕ
sent_of number zero = 0
sent_of number (suc m) = sent_by number m

-- a step that is made if it is due
abbrev pub onward : Bool → ℕ → ℕ
onward due n = cond due (suc n) n

abbrev pub room_for : ℕ → Settings → ℕ → ℕ → Bool
room_for k s round room = leb (message_length k (params_in s) round) room

-- what a call at side `number` makes of its count; heard: how many messages the other side has sent
module _ (k : ℕ) (s : Settings) (number heard : ℕ) where
  unfoldable pub next : Call → ℕ → ℕ
  next begin zero = 1
  next begin (suc m) = suc m
  next (send out) zero = zero
  next (send out) (suc m) = onward (sends_after number m && goes_on m && room_for k s (round_after m) (length out)) (suc m)
  next take_latest zero = zero
  next take_latest (suc m) = onward (not (sends_after number m) && goes_on m && ltb (taken_by number m) heard) (suc m)
  next (answer out) n = n
  next count n = n

-- `observer` is side `number`
module _ (k : ℕ) (s : Settings) (number : ℕ) where
  unfoldable pub step_counts : Counts → Party → Call → Counts
  step_counts counts observer call = record { observer = next k s number (sent_of (1 - number) counts.peer) call counts.observer; peer = counts.peer }
  step_counts counts peer call = record { observer = counts.observer; peer = next k s (1 - number) (sent_of number counts.observer) call counts.peer }

  unfoldable pub counts_after : Counts → List ScheduledCall → Counts
  counts_after counts [] = counts
  counts_after counts (one ∷ calls) = counts_after (step_counts counts one.party one.call) calls

-- ---- The joint state at its counts, from the joint state at the start

module _ (k : ℕ) (s : Settings) (serial : ℕ) (numbers : ℕ → List ℕ) where
  -- the party state of one side: as it started, or after its steps
  abbrev pub party_from : PartyInput → PartyState → ℕ → PartyState
  party_from own start zero = start
  party_from own start (suc m) = party_at k s serial numbers own m

  unfoldable pub joint_at : PartyInput → PartyInput → JointState → Counts → JointState
  joint_at own other w counts = record { observer = party_from own w.observer counts.observer; peer = party_from other w.peer counts.peer }
