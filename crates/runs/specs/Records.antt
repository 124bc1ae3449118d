-- Whole records: two sides, a list of calls, and the record of one side.
use Rattle.std.specs.Prelude.{ℕ, ◌+◌, ◌*◌, cond, List, [], ◌∷◌, ◌++◌, map, eqb, length, get_or, take}
use Rattle.field.specs.Field.{q, sub}
use Rattle.settings.specs.Sets.{scale_of}
use Rattle.settings.specs.Sizes.{width_of}
use Rattle.settings.specs.Settings.{params_in}
use Rattle.settings.specs.declared.Settings.{Settings}
use Rattle.rounding.specs.Plain.{high_part, verdict}
use Rattle.book.specs.Books.{multipliers, in_order, server_book, phone_book}
use Rattle.state.specs.declared.Side.{Side}
use Rattle.state.specs.State.{answer_call, count_call}
use Rattle.side.specs.declared.Run.{Run}
use Rattle.side.specs.Side.{After, AfterSend, begin_call, send_call, take_call}

-- ---- Secrets, shares

-- "Its answer is their high parts or their verdict, by the plain meaning"
unfoldable pub answer_of : Settings → List ℕ → List ℕ
answer_of s secret =
    cond (eqb s.shape.kind 0) (map (high_part (scale_of s.shape.set)) secret) (verdict q s.bound secret ∷ [])

-- "the other side's are what is missing to the secret and to key × secret"
unfoldable pub missing_shares : ℕ → List ℕ → List ℕ → List ℕ → List ℕ
missing_shares width factors secret shares =
    in_order (length secret) width (λ (j c : ℕ).
    sub q (get_or factors c 0 * get_or secret j 0) (get_or shares (j * width + c) 0))

-- ---- What the begins are handed

-- "Each begin gets the one settings and serial and its side's own number, key, input shares, check shares and book"
pub record PartyInput : Type 0 where
  pub number : ℕ
  pub keys : List ℕ
  pub inputs : List ℕ
  pub book : List ℕ

-- what its begin is handed
abbrev pub run_of : Settings → ℕ → PartyInput → Run
run_of s serial own = record { number = own.number; settings = s; keys = own.keys; serial = serial }

-- "the deal makes both books from it": the book of side `number`
abbrev pub book_of : ℕ → Settings → ℕ → List ℕ → List ℕ → List ℕ → List ℕ
book_of k s number keys0 keys1 draw =
    cond (eqb number 0)
    (server_book (params_in s) (width_of k) (multipliers keys0 keys1) draw)
    (phone_book (params_in s) (width_of k) draw)

-- side `number`, with these inputs; k keys a side
abbrev pub party_input : ℕ → Settings → ℕ → List ℕ → List ℕ → List ℕ → List ℕ → PartyInput
party_input k s number keys0 keys1 draw inputs =
    record { number = number; keys = cond (eqb number 0) keys0 keys1; inputs = inputs; book = book_of k s number keys0 keys1 draw }

-- ---- Calls and joint states

-- a side, its working slice, and the latest message that it sent in this list, or the empty one
pub record PartyState : Type 0 where
  pub side : Side
  pub work : List ℕ
  pub latest : List ℕ

-- a call, with all else that it is handed: the lent outputs. A take gets the other side's latest message
pub data Call : Type 0 where
  begin : Call
  send : (out : List ℕ) → Call
  take_latest : Call
  answer : (out : List ℕ) → Call
  count : Call

-- what a call adds to its side's record: the refusal number or 0; a message sent, or handed in; an answer; a count
pub data Observation : Type 0 where
  began : (refused : ℕ) → Observation
  sent : (refused : ℕ) (message : List ℕ) → Observation
  took : (refused : ℕ) (message : List ℕ) → Observation
  answered : (refused : ℕ) (numbers : List ℕ) → Observation
  counted : (openings : ℕ) → Observation

pub record Outcome : Type 0 where
  pub state : PartyState
  pub observation : Observation

-- the side whose record is looked at, and the other
pub data Party : Type 0 where
  observer : Party
  peer : Party

pub record JointState : Type 0 where
  pub observer : PartyState
  pub peer : PartyState

pub record ScheduledCall : Type 0 where
  pub party : Party
  pub call : Call

module _ (k : ℕ) (s : Settings) (serial : ℕ) where
  abbrev pub begin_at : PartyInput → PartyState → After
  begin_at own state =
      begin_call k state.side (run_of s serial own) own.inputs own.book state.work

  abbrev pub left_by : PartyState → After → PartyState
  left_by state a = record { side = a.done.side; work = a.work; latest = state.latest }

  -- a refused send sends nothing
  abbrev pub left_by_send : PartyState → AfterSend → PartyState
  left_by_send state a =
      record { side = a.sent.side; work = state.work; latest = cond (eqb a.sent.refused 0) (take a.sent.length a.out) state.latest }

  -- what a call leaves at its party state, and what it adds to that side's record; incoming is the other side's latest message
  unfoldable pub outcome : PartyInput → List ℕ → PartyState → Call → Outcome
  outcome own incoming state begin =
      let a = begin_at own state in
      record { state = left_by state a; observation = began a.done.refused }
  outcome own incoming state (send out) =
      let a = send_call k state.side state.work out in
      record { state = left_by_send state a; observation = sent a.sent.refused (take a.sent.length a.out) }
  outcome own incoming state take_latest =
      let a = take_call k state.side state.work incoming in
      record { state = left_by state a; observation = took a.done.refused incoming }
  outcome own incoming state (answer out) =
      let a = answer_call state.side out in
      record { state = state; observation = answered a.result.refused (take a.result.length a.out) }
  outcome own incoming state count = record { state = state; observation = counted (count_call state.side) }

  module _ (own other : PartyInput) where
    -- "Each call gets the side and working slice that the last call there left": the joint state after a call, and the events at `observer`
    unfoldable pub step : JointState → Party → Call → JointState
    step w observer call = record { observer = (outcome own w.peer.latest w.observer call).state; peer = w.peer }
    step w peer call = record { observer = w.observer; peer = (outcome other w.observer.latest w.peer call).state }

    unfoldable pub observed : JointState → Party → Call → List Observation
    observed w observer call = (outcome own w.peer.latest w.observer call).observation ∷ []
    observed w peer call = []

    unfoldable pub joint_after : JointState → List ScheduledCall → JointState
    joint_after w [] = w
    joint_after w (one ∷ calls) = joint_after (step w one.party one.call) calls

    unfoldable pub observations : JointState → List ScheduledCall → List Observation
    observations w [] = []
    observations w (one ∷ calls) = observed w one.party one.call ++ observations (step w one.party one.call) calls

-- "A side's record is its key, input shares, check shares and book, each message it sent or was handed, and each result of its calls, in
-- order"; it "holds all four" keys (02)
pub record Record : Type 0 where
  pub keys : List ℕ
  pub inputs : List ℕ
  pub book : List ℕ
  pub log : List Observation

abbrev pub record_of : ℕ → Settings → ℕ → PartyInput → PartyInput → JointState → List ScheduledCall → Record
record_of k s serial own other w calls =
    record { keys = own.keys; inputs = own.inputs; book = own.book; log = observations k s serial own other w calls }
