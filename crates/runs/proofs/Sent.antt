-- The messages that a side has sent are those of the rounds, in order.
use Prim.Native.Nat.{ℕ, zero, suc, ◌+◌, ◌-◌, ◌≤◌, ◌<◌}
use mathlib.Core.Path.{◌≡◌, refl, ap₂, ◌∙◌}
use mathlib.Core.List.{List, [], ◌∷◌, ◌++◌}
use mathlib.Core.Bool.{Bool, true, false, cond}
use native.Mathlib.Omega.{arith}
use native.Mathlib.Nat.{zero-add}
use native.Mathlib.Numerals.{one-add}
use lib.Dec.{ltb}
use borrow.Author.Tests.{lt-ltb, le-ltb, ne_eqb}
use Rattle.lists.specs.Answers.{bit}
use Rattle.lists.specs.Lists.{list_from}
use Rattle.settings.specs.declared.Settings.{Settings}
use Rattle.settings.specs.Schedule.{rounds, steps, sent_by}
use Rattle.settings.specs.Settings.{terms_of}
use Rattle.settings.specs.Sizes.{width_of}
use Rattle.book.specs.Theorems.{Laws}
use Rattle.column.specs.Run.{plain_opened}
use Rattle.column.specs.Theorems.{SlicesJoin}
use Rattle.runs.specs.Honest.{Runs}
use Rattle.runs.specs.Theorems.{MessagesAreSteps}
use Rattle.runs.specs.Records.{PartyInput, PartyState, Call, Observation, Party, ScheduledCall, JointState, outcome, observed, observations}
use Rattle.runs.specs.Records.Party.{observer, peer}
use Rattle.runs.specs.Records.Call.{begin, send, take_latest, answer, count}
use Rattle.runs.specs.Demands.{Start, sends_in, observer_input, peer_input}
use Rattle.runs.specs.Progress.{Counts, none, sent_of, next, step_counts, joint_at, party_from}
use Rattle.runs.specs.Messages.{round_message, messages_in}
use Rattle.runs.proofs.Doors.{accepted}
use Rattle.runs.proofs.PartyStates.{which_below}
use Rattle.runs.proofs.Counts.{Moved, next-moved, Pace}
use Rattle.runs.proofs.Counts.Moved.{stays, began, sent, took}
use Rattle.runs.proofs.Both.{HonestSide, keeps_pace, own-call, step_counts_lem, latest-is, start_pace}
use Rattle.runs.proofs.Tally.{sends_of, no_sends, event_sends}
use Rattle.runs.proofs.Slices.{Fair}
use Rattle.runs.proofs.Sharing.{message-is}
use Rattle.runs.proofs.Runs.{facing}
use Rattle.runs.proofs.Whole.{honest-pair}

-- what a call adds to the messages sent: a send that was accepted, the message that is then the side's latest
abbrev adds_message : Call → Bool → List ℕ → List (List ℕ)
adds_message begin d message = []
adds_message (send out) d message = cond d (message ∷ []) []
adds_message take_latest d message = []
adds_message (answer out) d message = []
adds_message count d message = []

module _ (k : ℕ) (s : Settings) (serial : ℕ) (h : PartyInput) (m : List ℕ) (x : PartyState) (es : List Observation) where
  event_messages : (call : Call) (d : Bool) → accepted (outcome k s serial h m x call).observation ≡ d
      → messages_in ((outcome k s serial h m x call).observation ∷ es) ≡ adds_message call d (outcome k s serial h m x call).state.latest ++ messages_in es
  unfolding outcome messages_in
  event_messages begin d e = refl
  event_messages (send out) true e = rw e
  event_messages (send out) false e = rw e
  event_messages take_latest d e = refl
  event_messages (answer out) d e = refl
  event_messages count d e = refl

no_message : (call : Call) (message : List ℕ) → adds_message call false message ≡ []
no_message begin message = refl
no_message (send out) message = refl
no_message take_latest message = refl
no_message (answer out) message = refl
no_message count message = refl

-- one call before others: its message, if it sends one, is that of the next round
joins : (number heard : ℕ) (call : Call) (c c' : ℕ) → number < 2 → Moved number heard call c c'
    → (f : ℕ → List ℕ) (message : List ℕ) → (sent_of number c' ≡ suc (sent_of number c) → message ≡ f (sent_of number c))
    → (n : ℕ) (rest : List (List ℕ)) → rest ≡ list_from (sent_of number c') n f
    → adds_message call (ltb c c') message ++ rest ≡ list_from (sent_of number c) (sends_of call (ltb c c') + n) f
unfolding list_from bit
joins number heard call c _ u stays f message e n rest r =
    rw (le-ltb c c (omega arith), no_message call message, no_sends call, zero-add n) r
joins number heard _ _ _ u began f message e n rest r =
    let none : sent_by number 0 ≡ 0 = omega arith in
    rw (zero-add n) (rw none at r)
joins number heard _ _ _ u (sent {out} {m} h l) f message e n rest r =
    let more : sent_by number (suc m) ≡ suc (sent_by number m) = omega arith in
    rw (lt-ltb (suc m) (suc (suc m)) (omega arith), one-add n) (ap₂ ◌∷◌ (e more) (rw more at r))
joins number heard _ _ _ u (took {m} h l i) f message e n rest r =
    let same : sent_by number (suc m) ≡ sent_by number m = omega arith in
    rw (zero-add n) (rw same at r)

-- no more messages than rounds
sent-most : (number c : ℕ) → c ≤ suc steps → sent_of number c ≤ rounds
sent-most number zero l = omega arith
sent-most number (suc m) l = omega arith

module _ (k : ℕ) (s : Settings) (serial : ℕ) (numbers : ℕ → List ℕ)
    (h o : PartyInput) (faces : o.number ≡ 1 - h.number) (y : HonestSide k s serial numbers h o)
    (z : HonestSide k s serial numbers o h) (w : JointState) (i : Start k serial w) (t : SlicesJoin) (v : Fair k s serial numbers h) where
  abbrev at : Counts → JointState
  at c = joint_at k s serial numbers h o w c

  -- a side that has sent one message more has sent that of the round
  latest-sent : (c R : ℕ) → sent_of h.number c ≡ suc R → R < rounds
      → (party_from k s serial numbers h w.observer c).latest ≡ round_message k s serial numbers h R
  latest-sent c R e l =
      latest-is k s serial numbers h w.observer i.observer.silent c
      ∙ rw (e, ne_eqb (suc R) 0 (λ n. omega (arith, n))) (message-is k s serial numbers t h v R l)

  sent_one : (party : Party) (call : Call) (c : Counts) (es : List Observation) → Pace h.number c.observer c.peer
      → messages_in es ≡ list_from (sent_of h.number (step_counts k s h.number c party call).observer) (sends_in es) (round_message k s serial numbers h)
      → let all = observed k s serial h o (at c) party call ++ es in
      messages_in all ≡ list_from (sent_of h.number c.observer) (sends_in all) (round_message k s serial numbers h)
  unfolding observed step_counts joint_at
  sent_one observer call c es p r =
      let u : h.number < 2 = which_below h y.which in
      let heard = sent_of (1 - h.number) c.peer in
      let came = (at c).peer.latest in
      let after = next k s h.number heard call c.observer in
      let paced = keeps_pace k s h.number u c p observer call in
      let moved = next-moved k s h.number heard call c.observer in
      let leaves = own-call k s serial numbers h o faces y z w i c p call in
      rw (event_sends k s serial h came (at c).observer es call, event_messages k s serial h came (at c).observer es call _ leaves.went_is, leaves.went_is, leaves.state-is)
      (joins h.number heard call c.observer _ u moved (round_message k s serial numbers h) _
      (λ e. latest-sent after (sent_of h.number c.observer) e (omega (arith, e, sent-most h.number after paced.own-most)))
      (sends_in es) (messages_in es) r)
  sent_one peer call c es p r = r

  -- all calls of a list, from any counts
  pub sent-all : (ms : List ScheduledCall) (c : Counts) → Pace h.number c.observer c.peer
      → let log = observations k s serial h o (at c) ms in
      messages_in log ≡ list_from (sent_of h.number c.observer) (sends_in log) (round_message k s serial numbers h)
  unfolding observations messages_in sends_in list_from
  sent-all [] c p = refl
  sent-all (m ∷ ms) c p =
      sent_one m.party m.call c _ p
      (rw (step_counts_lem k s serial numbers h o faces y z w i c p m.party m.call)
      (sent-all ms (step_counts k s h.number c m.party m.call) (keeps_pace k s h.number (which_below h y.which) c p m.party m.call)))

pub messages_are_steps : (k : ℕ) → Runs k → SlicesJoin → Laws → MessagesAreSteps k
unfolding joint_at
messages_are_steps k runs t b s serial keys0 keys1 f number l secret inputs draw x y d w i calls =
    let h : PartyInput = observer_input k s number keys0 keys1 inputs draw in
    let o : PartyInput = peer_input k s number keys0 keys1 inputs secret draw in
    let numbers : ℕ → List ℕ = plain_opened (terms_of s) (width_of k) draw secret in
    let z = honest-pair k runs s serial keys0 keys1 f number l secret inputs draw x y d in
    let v = facing k t b s serial keys0 keys1 f number l secret inputs draw x y d in
    sent-all k s serial numbers h o refl z.0 z.1 w i t v.observer calls none (start_pace number)
