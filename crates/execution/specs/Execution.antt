-- A run carried through in order, up to the first refusal: the deal, or books in its place, both begins, and the seven rounds.
use Rattle.std.specs.Prelude.{ℕ, zero, suc, ◌*◌, Bool, cond, ◌&&◌, Option, None, Some, List, [], ◌∷◌, ◌++◌, eqb, length, take, drop, replicate}
use Rattle.std.specs.Option.{is_some}
use Rattle.settings.specs.declared.Shape.{Shape}
use Rattle.settings.specs.declared.Settings.{Settings}
use Rattle.settings.specs.Questions.{shape_ok}
use Rattle.settings.specs.Refusals.{number_of}
use Rattle.settings.specs.Sizes.{key_count, most_bytes, book_size, input_size}
use Rattle.settings.specs.Schedule.{rounds}
use Rattle.dealer.specs.Deal.{deal_no}
use Rattle.state.specs.State.{fresh_side}
use Rattle.runs.specs.Records.{PartyInput, PartyState, JointState, Party as Role, Call, ScheduledCall, Observation, Outcome, party_input, outcome, step}
use Rattle.runs.specs.Records.Party.{observer, peer}
use Rattle.runs.specs.Records.Call.{begin, send, take_latest}
use Rattle.runs.specs.Records.Observation.{began, sent, took, answered, counted}
use Rattle.runs.specs.Demands.{scheduled}
use Rattle.execution.specs.declared.RunTerms.{RunTerms}
use Rattle.execution.specs.declared.RefusedCall.{RefusedCall}
use Rattle.execution.specs.declared.Party.{Party}
use Rattle.execution.specs.declared.Party.TheVariants.{Server, Phone}
use Rattle.execution.specs.declared.CallKind.{CallKind}
use Rattle.execution.specs.declared.CallKind.TheVariants.{Deal, Begin, Send, Take, Answer}

-- ---- The calls of a run in order. The observer is the server, the peer the phone

-- the output that each send is lent: it has room for any message
abbrev pub message_room : List ℕ
message_room = replicate (most_bytes key_count) 0

-- so many rounds: "the server sends ..; the phone checks, then sends its own"
abbrev pub round_calls : ℕ → List ScheduledCall
round_calls zero = []
round_calls (suc n) =
    scheduled observer (send message_room)
    ∷ scheduled peer take_latest
    ∷ scheduled peer (send message_room)
    ∷ scheduled observer take_latest
    ∷ round_calls n

abbrev pub run_calls : List ScheduledCall
run_calls = scheduled observer begin ∷ scheduled peer begin ∷ round_calls rounds

-- ---- Parties and refusals

-- how the sides are numbered
abbrev pub side_number : Party → ℕ
side_number Server = 0
side_number Phone = 1

-- the observer is the server, the peer the phone
abbrev pub played_by : Role → Party
played_by observer = Server
played_by peer = Phone

-- a refused call: the call, the party (the server for the dealer) and the number of the first no
pub record Refused : Type 0 where
  pub call : CallKind
  pub party : Party
  pub number : ℕ

-- the same as the code holds it
abbrev pub told_call : RefusedCall → Refused
told_call r = record { call = r.call; party = r.party; number = number_of r.refusal }

abbrev pub told : Option RefusedCall → Option Refused
told None = None
told (Some r) = Some (told_call r)

-- what a call gave; number 0: no refusal
unfoldable pub refused_call : CallKind → Party → ℕ → Option Refused
refused_call call party number = cond (eqb number 0) None (Some (record { call = call; party = party; number = number }))

-- what a party's call adds to its record, as a refusal, and as a message sent
abbrev pub refused_in : Party → Observation → Option Refused
refused_in party (began r) = refused_call Begin party r
refused_in party (sent r m) = refused_call Send party r
refused_in party (took r m) = refused_call Take party r
refused_in party (answered r ns) = refused_call Answer party r
refused_in party (counted n) = None

abbrev pub message_in : Observation → List ℕ
message_in (began r) = []
message_in (sent r m) = m
message_in (took r m) = []
message_in (answered r ns) = []
message_in (counted n) = []

-- ---- A run as far as it was carried

-- the first refusal, both parties, and all messages sent, one behind the other
pub record Carried : Type 0 where
  pub refused : Option Refused
  pub parties : JointState
  pub messages : List ℕ

-- own: what the server's begin is handed; other: the phone's
module _ (s : Settings) (serial : ℕ) (own other : PartyInput) where
  -- what a call gives at its party
  unfoldable pub outcome_at : JointState → Role → Call → Outcome
  outcome_at w observer call = outcome key_count s serial own w.peer.latest w.observer call
  outcome_at w peer call = outcome key_count s serial other w.observer.latest w.peer call

  -- one call more, unless one was refused
  unfoldable pub carry : Carried → Role → Call → Carried
  carry x role call =
      let event = (outcome_at x.parties role call).observation in
      cond (is_some x.refused)
      x
      (record {
        refused = refused_in (played_by role) event;
        parties = step key_count s serial own other x.parties role call;
        messages = x.messages ++ message_in event;
      })

  unfoldable pub carry_all : Carried → List ScheduledCall → Carried
  carry_all x [] = x
  carry_all x (m ∷ ms) = carry_all (carry x m.party m.call) ms

-- ---- The whole run, from its terms and its numbers: the server's inputs, the phone's, and then the draw, or books in its place

abbrev pub server_inputs : Shape → List ℕ → List ℕ
server_inputs a numbers = take (input_size a) numbers

abbrev pub phone_inputs : Shape → List ℕ → List ℕ
phone_inputs a numbers = take (input_size a) (drop (input_size a) numbers)

abbrev pub draw_in : Shape → List ℕ → List ℕ
draw_in a numbers = drop (input_size a) (drop (input_size a) numbers)

-- "books in place of a draw: where exactly as many numbers are left as the two books have"
unfoldable pub books_given : Shape → List ℕ → Bool
books_given a numbers = shape_ok a && eqb (length (draw_in a numbers)) (2 * book_size a)

-- what the begins are handed: each side's own keys and inputs, and its book of the deal
abbrev pub server_input : RunTerms → List ℕ → PartyInput
server_input terms numbers =
    let a = terms.settings.shape in
    party_input key_count terms.settings 0 terms.keys0 terms.keys1 (draw_in a numbers) (server_inputs a numbers)

abbrev pub phone_input : RunTerms → List ℕ → PartyInput
phone_input terms numbers =
    let a = terms.settings.shape in
    party_input key_count terms.settings 1 terms.keys0 terms.keys1 (draw_in a numbers) (phone_inputs a numbers)

-- "they are the server's book and the phone's": the same with a given book, the server's first
abbrev pub with_book : PartyInput → List ℕ → PartyInput
with_book i book = record { number = i.number; keys = i.keys; inputs = i.inputs; book = book }

abbrev pub server_given : RunTerms → List ℕ → PartyInput
server_given terms numbers =
    let a = terms.settings.shape in
    with_book (server_input terms numbers) (take (book_size a) (draw_in a numbers))

abbrev pub phone_given : RunTerms → List ℕ → PartyInput
phone_given terms numbers =
    let a = terms.settings.shape in
    with_book (phone_input terms numbers) (drop (book_size a) (draw_in a numbers))

-- a fresh side that has sent nothing, with a lent working slice
abbrev pub fresh_party : List ℕ → PartyState
fresh_party work = record { side = fresh_side; work = work; latest = [] }

-- after a deal, before the first begin, with the server's working slice and the phone's
abbrev pub not_begun : Option Refused → List ℕ → List ℕ → Carried
not_begun refused work0 work1 =
    record { refused = refused; parties = record { observer = fresh_party work0; peer = fresh_party work1 }; messages = [] }

-- the first no of the deal, whose lent books have the size that the shape asks for
abbrev pub deal_no_of : RunTerms → List ℕ → ℕ
deal_no_of terms numbers =
    let a = terms.settings.shape in
    deal_no key_count a terms.keys0 terms.keys1 (draw_in a numbers) (replicate (book_size a) 0) (replicate (book_size a) 0)

-- begun by both, the server first, and carried from round to round, after a deal that gave this answer
abbrev pub run_after : RunTerms → ℕ → PartyInput → PartyInput → List ℕ → List ℕ → Carried
run_after terms dealt own other work0 work1 =
    carry_all terms.settings terms.serial own other (not_begun (refused_call Deal Server dealt) work0 work1) run_calls

abbrev pub dealt_run : RunTerms → List ℕ → List ℕ → List ℕ → Carried
dealt_run terms numbers work0 work1 =
    run_after terms (deal_no_of terms numbers) (server_input terms numbers) (phone_input terms numbers) work0 work1

-- "and nothing is dealt"
abbrev pub given_run : RunTerms → List ℕ → List ℕ → List ℕ → Carried
given_run terms numbers work0 work1 = run_after terms 0 (server_given terms numbers) (phone_given terms numbers) work0 work1

unfoldable pub executed : RunTerms → List ℕ → List ℕ → List ℕ → Carried
executed terms numbers work0 work1 =
    cond (books_given terms.settings.shape numbers) (given_run terms numbers work0 work1) (dealt_run terms numbers work0 work1)
