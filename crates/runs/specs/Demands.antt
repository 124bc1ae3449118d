-- Demand 2, as types: every honest run finishes with the answer, never stops, and counts by its rounds.
use Rattle.std.specs.Prelude.{ℕ, ◌+◌, ◌*◌, ◌-◌, ◌<◌, ◌≤◌, ◌≡◌, Bool, true, false, cond, ◌&&◌, ◌||◌, List, [], ◌∷◌, ◌++◌, map, eqb, leb, pos, length, replicate}
use Rattle.lists.specs.Answers.{bit}
use Rattle.lists.specs.Lists.{all_below, join_to, in_front}
use Rattle.field.specs.Field.{q}
use Rattle.settings.specs.Sets.{scale_of}
use Rattle.settings.specs.Sizes.{width_of, openings_up_to, message_length, draw_length, work_length, answer_places}
use Rattle.settings.specs.Questions.{keys_ok, settings_ok}
use Rattle.rounding.specs.Plain.{decompose}
use Rattle.settings.specs.Schedule.{rounds}
use Rattle.book.specs.Books.{multipliers}
use Rattle.state.specs.State.{under_way, finished, held_answer, in_range, after_answer, answer_call, count_call}
use Rattle.settings.specs.declared.Settings.{Settings}
use Rattle.settings.specs.Settings.{params_in}
use Rattle.runs.specs.Records.{answer_of, missing_shares, PartyInput, party_input, PartyState, JointState, Party, Call, ScheduledCall, Observation, joint_after, observations}
use Rattle.runs.specs.Records.Party.{observer, peer}
use Rattle.runs.specs.Records.Call.{begin, send, take_latest, answer, count}
use Rattle.runs.specs.Records.Observation.{began, sent, took, answered, counted}

-- ---- What is fixed. k: keys a side

-- "Whatever settings, serial, keys from 1 to q − 1 .. are fixed"
pub record Fixed (k : ℕ) (s : Settings) (serial : ℕ) (keys0 keys1 : List ℕ) : Type 0 where
  pub settings : settings_ok s ≡ true
  pub above : 1 ≤ serial
  pub fits : serial < 4294967296
  pub server_count : length keys0 ≡ k
  pub phone_count : length keys1 ≡ k
  pub server_keys : keys_ok keys0 ≡ true
  pub phone_keys : keys_ok keys1 ≡ true

-- so many numbers below q
pub record Numbers (size : ℕ) (xs : List ℕ) : Type 0 where
  pub size_is : length xs ≡ size
  pub below : all_below q xs ≡ true

-- "A secret is N numbers below q, the joined inputs"
abbrev pub Secret : Settings → List ℕ → Type 0
Secret s secret = Numbers s.shape.n secret

-- a side's input shares and check shares
abbrev pub Shares : ℕ → Settings → List ℕ → Type 0
Shares k s inputs = Numbers (s.shape.n * width_of k) inputs

-- "A possible draw is any list of numbers below q, as many as the settings ask"
abbrev pub Possible : ℕ → Settings → List ℕ → Type 0
Possible k s draw = Numbers (draw_length (params_in s) (width_of k)) draw

-- "Both sides start with no run under way, a last serial below the list's one serial, and a working slice of the exact length";
-- nothing was sent in this list
pub record Idle (k serial : ℕ) (state : PartyState) : Type 0 where
  pub none : under_way state.side ≡ false
  pub last : state.side.serial < serial
  pub exact : length state.work ≡ work_length k
  pub silent : state.latest ≡ []

pub record Start (k serial : ℕ) (w : JointState) : Type 0 where
  pub observer : Idle k serial w.observer
  pub peer : Idle k serial w.peer

-- side `number` with its own shares, and the other with what is missing to the secret
abbrev pub observer_input : ℕ → Settings → ℕ → List ℕ → List ℕ → List ℕ → List ℕ → PartyInput
observer_input k s number keys0 keys1 inputs draw = party_input k s number keys0 keys1 draw inputs

abbrev pub peer_input : ℕ → Settings → ℕ → List ℕ → List ℕ → List ℕ → List ℕ → List ℕ → PartyInput
peer_input k s number keys0 keys1 inputs secret draw =
    party_input k s (1 - number) keys0 keys1 draw (missing_shares (width_of k) (multipliers keys0 keys1) secret inputs)

-- ---- Demand 2

abbrev pub scheduled : Party → Call → ScheduledCall
scheduled party call = record { party = party; call = call }

-- an output just long enough for a round's message
abbrev pub out_for : ℕ → Settings → ℕ → List ℕ
out_for k s round = replicate (message_length k (params_in s) round) 0

-- a round in order, `observer` the server: its message; then the phone's take, the phone's message, the server's take
abbrev pub rest_of_round : ℕ → Settings → ℕ → List ScheduledCall
rest_of_round k s round = scheduled peer take_latest ∷ scheduled peer (send (out_for k s round)) ∷ scheduled observer take_latest ∷ []

abbrev pub round_in_order : ℕ → Settings → ℕ → List ScheduledCall
round_in_order k s round = scheduled observer (send (out_for k s round)) ∷ rest_of_round k s round

abbrev pub rounds_from : ℕ → Settings → ℕ → ℕ → List ScheduledCall
rounds_from k s first many = join_to many (λ (x : ℕ). round_in_order k s (first + x))

-- the orders in which a run can be carried through: the phone begins last, first, or after the server's first message
abbrev pub phone_second : ℕ → Settings → List ScheduledCall
phone_second k s = scheduled observer begin ∷ scheduled peer begin ∷ rounds_from k s 1 rounds

abbrev pub phone_first : ℕ → Settings → List ScheduledCall
phone_first k s = scheduled peer begin ∷ scheduled observer begin ∷ rounds_from k s 1 rounds

abbrev pub phone_late : ℕ → Settings → List ScheduledCall
phone_late k s =
    scheduled observer begin
    ∷ scheduled observer (send (out_for k s 1))
    ∷ scheduled peer begin
    ∷ rest_of_round k s 1 ++ rounds_from k s 2 (rounds - 1)

abbrev pub party_number : Party → ℕ
party_number observer = 0
party_number peer = 1

abbrev pub call_number : Call → ℕ
call_number begin = 0
call_number (send out) = 1
call_number take_latest = 2
call_number (answer out) = 3
call_number count = 4

abbrev pub room : Call → ℕ
room begin = 0
room (send out) = length out
room take_latest = 0
room (answer out) = length out
room count = 0

-- the same call at the same side, with at least as long an output
abbrev pub is_call : ScheduledCall → ScheduledCall → Bool
is_call planned made =
    eqb (party_number planned.party) (party_number made.party)
    && eqb (call_number planned.call) (call_number made.call)
    && leb (room planned.call) (room made.call)

-- the planned calls stand in the list, in order, whatever other calls stand between
unfoldable pub holds : List ScheduledCall → List ScheduledCall → Bool
holds [] [] = true
holds [] (made ∷ calls) = true
holds (planned ∷ rest) [] = false
holds (planned ∷ rest) (made ∷ calls) = cond (is_call planned made) (holds rest calls) (holds (planned ∷ rest) calls)

unfoldable pub carried_through : ℕ → Settings → List ScheduledCall → Bool
carried_through k s calls =
    holds (phone_second k s) calls || holds (phone_first k s) calls || holds (phone_late k s) calls

-- "Openings in all: 19N or 17N + 2"
abbrev pub all_openings : Settings → ℕ
all_openings s = cond (eqb s.shape.kind 0) (19 * s.shape.n) (17 * s.shape.n + 2)

-- a side at the end: finished, with the answer by the plain meaning, which is in range and which the answer call gives for every output
-- that is long enough ("N places for HIGH, 1 for BOUND"; "Longer outputs change only in front"), and all openings counted
pub record Ended (s : Settings) (secret : List ℕ) (state : PartyState) : Type 0 where
  pub done : finished state.side ≡ true
  pub answer : held_answer state.side ≡ answer_of s secret
  -- request One: "Demand 2's runs are unaffected"; whatever the output, 15 is not the refusal
  pub in-range : in_range state.side ≡ true
  pub gives : (out : List ℕ)
      → answer_places (params_in s) ≤ length out
      → answer_call state.side out ≡ after_answer 0 (answer_places (params_in s)) (in_front (answer_of s secret) out)
  pub openings : count_call state.side ≡ all_openings s

-- "every run carried through in order finishes", and both sides answer with the high parts, or the verdict; `observer` is the server
abbrev pub Demand2 : ℕ → Type 0
Demand2 k =
    (s : Settings) (serial : ℕ) (keys0 keys1 : List ℕ)
    → Fixed k s serial keys0 keys1
    → (secret inputs draw : List ℕ)
    → Secret s secret
    → Shares k s inputs
    → Possible k s draw
    → (w : JointState)
    → Start k serial w
    → (calls : List ScheduledCall)
    → carried_through k s calls ≡ true
    → let end = joint_after k s serial (observer_input k s 0 keys0 keys1 inputs draw) (peer_input k s 0 keys0 keys1 inputs secret draw) w calls in
    Ended s secret end.observer × Ended s secret end.peer

-- "that FIPS 204 gives": the answer by the plain meaning is Decompose's high part
abbrev pub FipsHigh : Type 0
FipsHigh =
    (s : Settings) (secret : List ℕ)
    → settings_ok s ≡ true
    → s.shape.kind ≡ 0
    → Secret s secret
    → map pos (answer_of s secret) ≡ map (λ (w : ℕ). (decompose (scale_of s.shape.set) w).high) secret

-- takes and sends that were accepted, and whether a begin was
unfoldable pub takes_in : List Observation → ℕ
takes_in [] = 0
takes_in (began refused ∷ log) = takes_in log
takes_in (sent refused message ∷ log) = takes_in log
takes_in (took refused message ∷ log) = bit (eqb refused 0) + takes_in log
takes_in (answered refused ns ∷ log) = takes_in log
takes_in (counted n ∷ log) = takes_in log

unfoldable pub sends_in : List Observation → ℕ
sends_in [] = 0
sends_in (began refused ∷ log) = sends_in log
sends_in (sent refused message ∷ log) = bit (eqb refused 0) + sends_in log
sends_in (took refused message ∷ log) = sends_in log
sends_in (answered refused ns ∷ log) = sends_in log
sends_in (counted n ∷ log) = sends_in log

unfoldable pub began_in : List Observation → Bool
began_in [] = false
began_in (began refused ∷ log) = eqb refused 0 || began_in log
began_in (sent refused message ∷ log) = began_in log
began_in (took refused message ∷ log) = began_in log
began_in (answered refused ns ∷ log) = began_in log
began_in (counted n ∷ log) = began_in log

-- after any list of calls, at either side: a run that has begun never stops; it is finished when it has sent and taken all
-- rounds and not before; its count is fixed by the rounds taken
pub record Steady (s : Settings) (log : List Observation) (state : PartyState) : Type 0 where
  pub goes_on : (under_way state.side || finished state.side) ≡ true
  pub in-time : finished state.side ≡ (eqb (takes_in log) rounds && eqb (sends_in log) rounds)
  pub by_rounds : count_call state.side ≡ openings_up_to (params_in s) (takes_in log)

abbrev pub Demand2Steady : ℕ → Type 0
Demand2Steady k =
    (s : Settings) (serial : ℕ) (keys0 keys1 : List ℕ)
    → Fixed k s serial keys0 keys1
    → (number : ℕ)
    → number < 2
    → (secret inputs draw : List ℕ)
    → Secret s secret
    → Shares k s inputs
    → Possible k s draw
    → (w : JointState)
    → Start k serial w
    → (calls : List ScheduledCall)
    → let own = observer_input k s number keys0 keys1 inputs draw in
    let other = peer_input k s number keys0 keys1 inputs secret draw in
    began_in (observations k s serial own other w calls) ≡ true
    → Steady s (observations k s serial own other w calls) (joint_after k s serial own other w calls).observer
