-- An honest run under tried keys of the receiver: the sender's record, what is due at the receiver, and the receiver's side but for its keys
-- are as dealt.
use Prim.Native.Nat.{ℕ, zero, suc, ◌-◌, ◌<◌}
use mathlib.Core.Path.{◌≡◌, refl, sym, ap, subst, ◌∙◌}
use mathlib.Core.Bool.{Bool, true, false, cond, true≢false}
use mathlib.Core.List.{List, []}
use native.Mathlib.Omega.{arith}
use lib.Dec.{eqb, ltb}
use borrow.Author.Tests.{eqb-true, eq-eqb, lt-ltb}
use Rattle.lists.specs.Lists.{every, all_below}
use Rattle.lists.proofs.Every.{all-below}
use Rattle.settings.specs.Schedule.{rounds, send_step, take_step}
use Rattle.settings.specs.Settings.{terms_of}
use Rattle.settings.specs.Sizes.{width_of}
use Rattle.settings.proofs.Schedule.{take-round}
use Rattle.message.proofs.RoundTrip.{round_trip}
use Rattle.book.specs.Books.{multipliers}
use Rattle.book.proofs.Laws.{laws}
use Rattle.column.specs.Run.{plain_opened}
use Rattle.column.proofs.Joins.{work-joins}
use Rattle.opening.specs.Opening.{message}
use Rattle.side.specs.Side.{begun_side, take_call}
use Rattle.runs.specs.Records.{PartyInput, PartyState, JointState, ScheduledCall, Observation, outcome, joint_after, observations, record_of}
use Rattle.runs.specs.Records.Party.{peer}
use Rattle.runs.specs.Records.Call.{take_latest}
use Rattle.runs.specs.Progress.{Counts, none, sent_of, next, step_counts, counts_after, side_at, message_at, party_at, party_from, joint_at}
use Rattle.runs.proofs.Whole.{honest-pair}
use Rattle.runs.proofs.Both.{latest-is, start_pace, pace_after, other-call}
use Rattle.runs.proofs.Carried.{take_goes}
use Rattle.runs.proofs.Opens.{Facing}
use Rattle.runs.proofs.Runs.{plain_opening, facing}
use Rattle.runs.proofs.Theorem.{honest, progress}
use Rattle.secrecy.proofs.SameView.{log-same}
use Rattle.forgery.specs.Choices.{Choice}
use Rattle.forgery.specs.Runs.{HonestRun, dealt, server_keys, phone_keys, draw_under, sender_input, receiver_input, after, sender_record, honest_message, take_answer, Due}
use Rattle.forgery.proofs.Takes.{with_keys}
use Rattle.forgery.proofs.Tried.{number, sender, numbers, Tried, tried_run, dealt_choice}

module _ (k : ℕ) (r : HonestRun k) (calls : List ScheduledCall) where
  -- the calls' counts, which look at neither keys nor secret, and those after the receiver's next take
  abbrev counts_of : List ScheduledCall → Counts
  counts_of past = counts_after k r.settings (number k r) none past

  abbrev counts : Counts
  counts = counts_of calls

  abbrev taken : Counts
  taken = step_counts k r.settings (number k r) counts peer take_latest

  below : number k r < 2
  below = omega arith

  -- a message, or the empty one
  message-bytes : (ns : ℕ → List ℕ) (h : PartyInput) (round : ℕ) (b : Bool) → all_below 256 (cond b [] (message_at k r.settings r.serial ns h round)) ≡ true
  unfolding message_at message every all_below
  message-bytes ns h round true = refl
  message-bytes ns h round false = all-below 256 (message_at k r.settings r.serial ns h round) (round_trip.bytes _ _)

  -- ---- One choice

  module _ (tried : List ℕ) (t : Tried k r tried) where
    abbrev opened : ℕ → List ℕ
    opened = plain_opened (terms_of r.settings) (width_of k) (draw_under k r tried) r.secret

    -- after any calls the joint state is the one at its counts
    at-counts : (past : List ScheduledCall)
        → joint_after k r.settings r.serial (sender_input k r tried) (receiver_input k r tried) r.start past
        ≡ joint_at k r.settings r.serial opened (sender_input k r tried) (receiver_input k r tried) r.start (counts_of past)
    at-counts past =
        progress k r.settings r.serial (server_keys k r tried) (phone_keys k r tried) t.fixed (number k r) below
        r.secret r.inputs (draw_under k r tried) r.secret_ok r.inputs_ok t.possible r.start r.start_ok past

    -- with the sender and the opened numbers as dealt
    from_sender : (past : List ScheduledCall)
        → joint_after k r.settings r.serial (sender k r) (receiver_input k r tried) r.start past
        ≡ joint_at k r.settings r.serial (numbers k r) (sender k r) (receiver_input k r tried) r.start (counts_of past)
    from_sender past =
        subst (λ (h : PartyInput). joint_after k r.settings r.serial h (receiver_input k r tried) r.start past
        ≡ joint_at k r.settings r.serial (numbers k r) h (receiver_input k r tried) r.start (counts_of past)) t.sender_is
        (at-counts past
        ∙ ap (λ (ns : ℕ → List ℕ). joint_at k r.settings r.serial ns (sender_input k r tried) (receiver_input k r tried) r.start (counts_of past)) t.opens)

    after_is : after k r calls tried ≡ joint_at k r.settings r.serial (numbers k r) (sender k r) (receiver_input k r tried) r.start counts
    after_is =
        ap (λ (h : PartyInput). joint_after k r.settings r.serial h (receiver_input k r tried) r.start calls) t.sender_is
        ∙ from_sender calls

    -- the sender's latest message is bytes
    latest-bytes : all_below 256 (after k r calls tried).observer.latest ≡ true
    unfolding joint_at
    latest-bytes =
        rw (after_is, latest-is k r.settings r.serial (numbers k r) (sender k r) r.start.observer r.start_ok.observer.silent counts.observer)
        (message-bytes (numbers k r) (sender k r) (sent_of (number k r) counts.observer) (eqb (sent_of (number k r) counts.observer) 0))

    -- the counts tell whether the receiver takes the sender's latest message
    takes_by_counts : eqb (take_answer k r calls tried (after k r calls tried).observer.latest) 0 ≡ ltb counts.peer taken.peer
    unfolding outcome
    takes_by_counts =
        let z = honest-pair k (honest k) r.settings r.serial (server_keys k r tried) (phone_keys k r tried) t.fixed (number k r) below
        r.secret r.inputs (draw_under k r tried) r.secret_ok r.inputs_ok t.possible in
        ap (λ (x : JointState). eqb (take_call k x.peer.side x.peer.work x.observer.latest).done.refused 0) (at-counts calls)
        ∙ (other-call k r.settings r.serial opened (sender_input k r tried) (receiver_input k r tried) refl z.0 z.1 r.start r.start_ok
        counts (pace_after k r.settings (number k r) below calls none (start_pace (number k r))) take_latest).went_is

    -- what the sender faces
    abbrev Faces : (ℕ → List ℕ) → PartyInput → Type 0
    Faces ns h =
        Facing k r.settings r.serial ns (multipliers (server_keys k r tried) (phone_keys k r tried))
        (plain_opening k r.settings (draw_under k r tried) r.secret) h (receiver_input k r tried)

    faced : Faces (numbers k r) (sender k r)
    faced =
        subst (λ (h : PartyInput). Faces (numbers k r) h) t.sender_is
        (subst (λ (ns : ℕ → List ℕ). Faces ns (sender_input k r tried)) t.opens
        (facing k work-joins laws r.settings r.serial (server_keys k r tried) (phone_keys k r tried) t.fixed (number k r) below
        r.secret r.inputs (draw_under k r tried) r.secret_ok r.inputs_ok t.possible))

  -- ---- Two choices

  module _ (a b : List ℕ) (ta : Tried k r a) (tb : Tried k r b) where
    sender_same : (after k r calls a).observer ≡ (after k r calls b).observer
    unfolding joint_at
    sender_same = ap (λ (x : JointState). x.observer) (after_is a ta) ∙ sym (ap (λ (x : JointState). x.observer) (after_is b tb))

    log_is : observations k r.settings r.serial (sender k r) (receiver_input k r a) r.start calls
        ≡ observations k r.settings r.serial (sender k r) (receiver_input k r b) r.start calls
    log_is =
        log-same work-joins k r.settings r.serial (multipliers (server_keys k r a) (phone_keys k r a)) (multipliers (server_keys k r b) (phone_keys k r b))
        (numbers k r) (numbers k r) (λ round l. refl)
        (plain_opening k r.settings (draw_under k r a) r.secret) (plain_opening k r.settings (draw_under k r b) r.secret)
        (sender k r) (receiver_input k r a) (receiver_input k r b) (faced a ta) (faced b tb) below r.start (from_sender a ta) (from_sender b tb) calls

    record_same : sender_record k r calls a ≡ sender_record k r calls b
    record_same =
        ap (λ (h : PartyInput). record_of k r.settings r.serial h (receiver_input k r a) r.start calls) ta.sender_is
        ∙ ap (λ (log : List Observation). record { keys = (sender k r).keys; inputs = (sender k r).inputs; book = (sender k r).book; log = log }) log_is
        ∙ sym (ap (λ (h : PartyInput). record_of k r.settings r.serial h (receiver_input k r b) r.start calls) tb.sender_is)

    -- the receiver's side at its count, where a take is due
    side_from : (heard n : ℕ) → ltb n (next k r.settings (1 - number k r) heard take_latest n) ≡ true
        → (party_from k r.settings r.serial (numbers k r) (receiver_input k r a) r.start.peer n).side
        ≡ with_keys (party_from k r.settings r.serial (numbers k r) (receiver_input k r b) r.start.peer n).side (receiver_input k r a).keys
    unfolding next party_at side_at begun_side
    side_from heard zero due = absurd (true≢false (sym due))
    side_from heard (suc m) due = refl

    side_same : ltb counts.peer taken.peer ≡ true → (after k r calls a).peer.side ≡ with_keys (after k r calls b).peer.side a
    unfolding step_counts joint_at
    side_same due =
        ap (λ (x : JointState). x.peer.side) (after_is a ta)
        ∙ side_from (sent_of (number k r) counts.observer) counts.peer due
        ∙ ap (λ (x : JointState). with_keys x.peer.side (receiver_input k r a).keys) (sym (after_is b tb))
        ∙ ap (λ (keys : List ℕ). with_keys (after k r calls b).peer.side keys) ta.keys_are

  -- ---- A tried choice beside the keys that were dealt

  as_dealt : Tried k r (dealt k r)
  as_dealt = tried_run k r (dealt k r) (dealt_choice k r)

  pub honest-bytes : all_below 256 (honest_message k r calls) ≡ true
  honest-bytes = latest-bytes (dealt k r) as_dealt

  pub record_is : (tried : List ℕ) → Choice k tried → sender_record k r calls tried ≡ sender_record k r calls (dealt k r)
  record_is tried c = record_same tried (dealt k r) (tried_run k r tried c) as_dealt

  -- where the counts have come to the receiver's take of round R + 1, it is due
  pub due_by_counts : (R : ℕ) → R < rounds → counts ≡ record { observer = suc (suc (send_step (number k r) R)); peer = suc (take_step (1 - number k r) R) } → Due k r calls
  unfolding step_counts
  due_by_counts R l e =
      let heard : R < sent_of (number k r) (suc (suc (send_step (number k r) R))) = omega arith in
      eqb-true (take_answer k r calls (dealt k r) (honest_message k r calls)) 0
      (takes_by_counts (dealt k r) as_dealt
      ∙ rw (e, take_goes k r.settings (1 - number k r) (sent_of (number k r) (suc (suc (send_step (number k r) R)))) R (omega arith) l heard)
      (lt-ltb (suc (take_step (1 - number k r) R)) (suc (suc (take_step (1 - number k r) R))) (omega arith)))

  pub round_by_counts : (R : ℕ) → R < rounds → counts ≡ record { observer = suc (suc (send_step (number k r) R)); peer = suc (take_step (1 - number k r) R) }
      → (after k r calls (dealt k r)).peer.side.round ≡ suc R
  unfolding joint_at party_at side_at begun_side
  round_by_counts R l e =
      ap (λ (x : JointState). x.peer.side.round) (after_is (dealt k r) as_dealt)
      ∙ rw e (take-round (1 - number k r) R (omega arith) l)

  module _ (due : Due k r calls) where
    counts-due : ltb counts.peer taken.peer ≡ true
    counts-due = sym (takes_by_counts (dealt k r) as_dealt) ∙ eq-eqb (take_answer k r calls (dealt k r) (honest_message k r calls)) 0 due

    -- every choice takes the sender's message
    pub takes_under : (tried : List ℕ) → Choice k tried → take_answer k r calls tried (honest_message k r calls) ≡ 0
    takes_under tried c =
        let t = tried_run k r tried c in
        ap (λ (x : PartyState). take_answer k r calls tried x.latest) (sym (sender_same tried (dealt k r) t as_dealt))
        ∙ eqb-true (take_answer k r calls tried (after k r calls tried).observer.latest) 0 (takes_by_counts tried t ∙ counts-due)

    -- and has the same side but for the keys
    pub side_under : (tried : List ℕ) → Choice k tried → (after k r calls tried).peer.side ≡ with_keys (after k r calls (dealt k r)).peer.side tried
    side_under tried c = side_same tried (dealt k r) (tried_run k r tried c) as_dealt counts-due
