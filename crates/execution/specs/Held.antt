-- What the code holds of a run under way, as the run carried so far.
use Rattle.std.specs.Prelude.{ℕ, ◌+◌, ◌*◌, ◌-◌, ◌≤◌, min, ◌≡◌, cond, Option, None, Result, Ok, Err, List, ◌++◌, eqb, length, take, drop, replicate}
use Rattle.lists.specs.Lists.{in_front}
use Rattle.settings.specs.declared.Shape.{Shape}
use Rattle.settings.specs.declared.Settings.{Settings}
use Rattle.settings.specs.Sizes.{key_count, width_of, most_bytes, work_length, book_size, input_size}
use Rattle.settings.specs.declared.Refusal.{Refusal}
use Rattle.settings.specs.Schedule.{rounds}
use Rattle.dealer.specs.Deal.{deal_no}
use Rattle.state.specs.declared.Side.{Side}
use Rattle.state.specs.State.{fresh_side}
use Rattle.side.specs.declared.Run.{Run}
use Rattle.side.specs.Side.{After, AfterSend, send_call}
use Rattle.runs.specs.Records.{PartyInput, PartyState, ScheduledCall, run_of, book_of}
use Rattle.execution.specs.declared.RunTerms.{RunTerms}
use Rattle.execution.specs.declared.Party.{Party}
use Rattle.execution.specs.declared.Party.TheVariants.{Server, Phone}
use Rattle.execution.specs.declared.RefusedCall.{RefusedCall}
use Rattle.execution.specs.declared.Endpoint.{Endpoint}
use Rattle.execution.specs.declared.Execution.{Execution}
use Rattle.execution.specs.declared.WorkSpace.{WorkSpace}
use Rattle.execution.specs.declared.RunSpace.{RunSpace}
use Rattle.execution.specs.declared.Cuts.{Cuts}
use Rattle.execution.specs.declared.CallKind.{CallKind}
use Rattle.execution.specs.declared.CallKind.TheVariants.{Deal, Send}
use Rattle.execution.specs.Execution.{message_room, side_number, Refused, told, refused_call, Carried, carry_all, round_calls, run_calls, server_inputs, phone_inputs}

-- a party: its side, its working slice, and its latest message, which stands among the messages
abbrev pub party_of : Endpoint → List ℕ → List ℕ → PartyState
party_of e work bytes = record { side = e.side; work = work; latest = take (e.to - e.from) (drop e.from bytes) }

abbrev pub carried_of : Option Refused → Execution → WorkSpace → Carried
carried_of refused x w =
    record {
      refused = refused;
      parties = record { observer = party_of x.server w.server w.messages; peer = party_of x.phone w.phone w.messages };
      messages = take x.length w.messages;
    }

-- what the slices hold that are lent to both sides
abbrev pub held_in : List ℕ → List ℕ → List ℕ → WorkSpace
held_in server phone messages = record { server = server; phone = phone; messages = messages }

-- a message stands in front of `length`
pub record Stands (from to length : ℕ) : Type 0 where
  pub begins : from ≤ to
  pub ends : to ≤ length

-- both stand, and so many messages more have room
pub record Fits (x : Execution) (bytes : List ℕ) (more : ℕ) : Type 0 where
  pub server : Stands x.server.from x.server.to x.length
  pub phone : Stands x.phone.from x.phone.to x.length
  pub room : x.length + more * most_bytes key_count ≤ length bytes

-- the bytes of all messages of a run, at most
abbrev pub run_bytes : ℕ
run_bytes = 2 * rounds * most_bytes key_count

-- the numbers of a book, at most
abbrev pub book_length : ℕ
book_length = 1320 * width_of key_count

-- a space before its first run: zeros throughout
abbrev pub zero_space : RunSpace
zero_space =
    record {
      books = record { server = replicate book_length 0; phone = replicate book_length 0 };
      work = held_in (replicate (work_length key_count) 0) (replicate (work_length key_count) 0) (replicate run_bytes 0);
    }

-- ---- What a call of one party leaves, and whether it was refused

-- the keys of a party, and the run that it begins
abbrev pub keys_of : RunTerms → Party → List ℕ
keys_of terms Server = terms.keys0
keys_of terms Phone = terms.keys1

abbrev pub run_at : RunTerms → Party → Run
run_at terms party = record { number = side_number party; settings = terms.settings; keys = keys_of terms party; serial = terms.serial }

-- a side that has sent nothing; both, before the first begin
abbrev pub silent_endpoint : Endpoint
silent_endpoint = record { side = fresh_side; from = 0; to = 0 }

abbrev pub before_begin : Execution
before_begin = record { refused = None; server = silent_endpoint; phone = silent_endpoint; length = 0 }

-- a call's answer, with the call and its party where it was refused
abbrev pub answer_at : {A : Type 0} → CallKind → Party → Result A Refusal → Result A RefusedCall
answer_at call party (Ok x) = Ok x
answer_at call party (Err refusal) = Err (record { call = call; party = party; refusal = refusal })

-- a begin or a take, which gives a: the endpoint goes from e to e', the working slice to `after`
pub record LeftBy (kind : CallKind) (party : Party) (a : After) (e : Endpoint) (refused : Option Refused) (e' : Endpoint) (after : List ℕ) : Type 0 where
  pub refused_is : refused ≡ refused_call kind party a.done.refused
  pub endpoint_is : e' ≡ record { side = a.done.side; from = e.from; to = e.to }
  pub work_is : after ≡ a.work

-- what a send with room for any message leaves
abbrev pub send_of : Side → List ℕ → AfterSend
send_of s work = send_call key_count s work message_room

abbrev pub message_sent : Side → List ℕ → List ℕ
message_sent s work = take (send_of s work).sent.length (send_of s work).out

abbrev pub sent_party : PartyState → PartyState
sent_party x =
    let a = send_of x.side x.work in
    record { side = a.sent.side; work = x.work; latest = cond (eqb a.sent.refused 0) (message_sent x.side x.work) x.latest }

-- a send: the messages go from `before` to `after`, of which the first `at`, then the first `end` bytes are sent
pub record SendsAt (party : Party) (e : Endpoint) (work before : List ℕ) (at : ℕ) (refused : Option Refused) (e' : Endpoint) (end : ℕ) (after : List ℕ) : Type 0 where
  pub refused_is : refused ≡ refused_call Send party (send_of e.side work).sent.refused
  pub party_is : party_of e' work after ≡ sent_party (party_of e work before)
  pub messages_are : take end after ≡ take at before ++ message_sent e.side work
  pub front : take at after ≡ take at before
  pub behind : drop end after ≡ drop end before
  pub size : length after ≡ length before
  pub stands : Stands e'.from e'.to end
  pub grows : at ≤ end
  pub most : end ≤ at + most_bytes key_count

-- ---- What calls of both leave, from x and w, which no call has refused, to x' and w'

-- calls, among them so many sends
pub record Carries (s : Settings) (serial : ℕ) (own other : PartyInput) (calls : List ScheduledCall) (sends : ℕ) (x : Execution) (w : WorkSpace)
    (refused : Option Refused) (x' : Execution) (w' : WorkSpace) : Type 0 where
  pub is : carried_of refused x' w' ≡ carry_all s serial own other (carried_of None x w) calls
  pub fits : (more : ℕ) → Fits x w.messages (sends + more) → Fits x' w'.messages more
  pub size : length w'.messages ≡ length w.messages
  pub behind : drop x'.length w'.messages ≡ drop x'.length w.messages
  pub grows : x.length ≤ x'.length

-- n rounds, in any run
pub record RoundsRun (n : ℕ) (x : Execution) (w : WorkSpace) (refused : Option Refused) (x' : Execution) (w' : WorkSpace) : Type 0 where
  pub carries : (s : Settings) (serial : ℕ) (own other : PartyInput) → Carries s serial own other (round_calls n) (2 * n) x w refused x' w'

-- both begins and the rounds; own and other: what the begins are handed
pub record Plays (terms : RunTerms) (numbers book0 book1 : List ℕ) (x : Execution) (w : WorkSpace) (refused : Option Refused) (x' : Execution) (w' : WorkSpace) : Type 0 where
  pub carries : (own other : PartyInput)
      → run_of terms.settings terms.serial own ≡ run_at terms Server → own.inputs ≡ server_inputs terms.settings.shape numbers → own.book ≡ book0
      → run_of terms.settings terms.serial other ≡ run_at terms Phone → other.inputs ≡ phone_inputs terms.settings.shape numbers → other.book ≡ book1
      → Carries terms.settings terms.serial own other run_calls (2 * rounds) x w refused x' w'

-- ---- The whole run

-- where the phone's inputs and the draw begin among so many numbers
pub record CutsAt (a : Shape) (count : ℕ) (r : Cuts) : Type 0 where
  pub phone_is : r.phone ≡ min (input_size a) count
  pub draw_is : r.draw ≡ r.phone + min (input_size a) (count - r.phone)
  pub within : r.draw ≤ count

-- a deal into the front of two lent books
pub record Deals (t : RunTerms) (draw : List ℕ) (refused : Option Refused) (book0 book1 : List ℕ) : Type 0 where
  pub refused_is : refused
      ≡ refused_call Deal Server
      (deal_no key_count t.settings.shape t.keys0 t.keys1 draw (replicate (book_size t.settings.shape) 0) (replicate (book_size t.settings.shape) 0))
  pub server_is : refused ≡ None → take (book_size t.settings.shape) book0 ≡ book_of key_count t.settings 0 t.keys0 t.keys1 draw
  pub phone_is : refused ≡ None → take (book_size t.settings.shape) book1 ≡ book_of key_count t.settings 1 t.keys0 t.keys1 draw

-- the end of a run c: refusal, sides, where each side's latest message stands, and the messages in front of the lent slice
pub record EndsAs (c : Carried) (refused : Option Refused) (x : Execution) (before after : List ℕ) : Type 0 where
  pub refused_is : refused ≡ c.refused
  pub server_is : x.server.side ≡ c.parties.observer.side
  pub phone_is : x.phone.side ≡ c.parties.peer.side
  pub server_latest : take (x.server.to - x.server.from) (drop x.server.from after) ≡ c.parties.observer.latest
  pub phone_latest : take (x.phone.to - x.phone.from) (drop x.phone.from after) ≡ c.parties.peer.latest
  pub length_is : x.length ≡ length c.messages
  pub messages_are : after ≡ in_front c.messages before
  pub fits : length c.messages ≤ length before

-- what is given back of it
abbrev pub Executes : Carried → Execution → List ℕ → List ℕ → Type 0
Executes c x before after = EndsAs c (told x.refused) x before after
