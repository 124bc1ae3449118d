-- Each call at each stage of one side, due or not; what must be known of the canonical run is in Kept and Heard.
use Prim.Native.Nat.{ℕ, suc, ◌+◌, ◌-◌, ◌≤◌, ◌<◌}
use mathlib.Core.Path.{◌≡◌, refl, ◌∙◌}
use mathlib.Core.List.{List, []}
use mathlib.Core.Bool.{Bool, true, false, cond, ◌&&◌}
use native.Mathlib.Omega.{arith}
use lib.ListN.{length}
use lib.Dec.{eqb, leb}
use borrow.Author.Tests.{eq-eqb, ne_eqb}
use Rattle.lists.specs.Answers.{ask}
use Rattle.lists.specs.Lists.{all_to, all_below}
use Rattle.lists.proofs.Questions.{ask_in, ask-last}
use Rattle.field.specs.Field.{q}
use Rattle.settings.specs.Schedule.{rounds, steps, send_step, take_step}
use Rattle.settings.specs.Sizes.{openings, field_count, message_length, work_length}
use Rattle.message.specs.Message.{header_in, header_number, fields_ok, ask_form, header_with}
use Rattle.state.specs.declared.Phase.TheVariants.{Sending, Taking, Finished}
use Rattle.state.specs.State.{send_due, take_due}
use Rattle.opening.specs.Opening.{passes}
use Rattle.side.specs.Side.{begun_side, send_no, take_no}
use Rattle.settings.specs.declared.Settings.{Settings}
use Rattle.settings.specs.Settings.{params_in, Params}
use Rattle.message.specs.declared.Header.{Header}
use Rattle.runs.specs.Records.{PartyInput, PartyState, Call, outcome}
use Rattle.runs.specs.Records.Call.{begin, send, take_latest}
use Rattle.runs.specs.Progress.{side_at, party_at}
use Rattle.runs.specs.Honest.{Meets}
use Rattle.runs.proofs.Doors.{Leaves, Sound, send_go, send_stay, send-not, send-due, take_go, take_stay, take-not, take-due, begin_spent}
use Rattle.runs.proofs.PartyStates.{Which, FieldsPass, state, slice, send_in, take_in, at-send, at_take, at-end, which_below}
use Rattle.runs.proofs.Laws.{of_another_round}

-- a no by length or header is neither 0 nor 13
pub late_0 : (a b : Bool) (rest : ℕ) → (a && b) ≡ false → eqb (ask a 10 (ask b 11 rest)) 0 ≡ false
unfolding ask
late_0 false b rest e = refl
late_0 true b rest e = rw e refl

pub late_13 : (a b : Bool) (rest : ℕ) → (a && b) ≡ false → eqb (ask a 10 (ask b 11 rest)) 13 ≡ false
unfolding ask
late_13 false b rest e = refl
late_13 true b rest e = rw e refl

-- a header alone is 8 bytes
pub header_fits : (k : ℕ) (p : Params) (round : ℕ) → 8 ≤ message_length k p round
unfolding message_length
header_fits k p round = omega arith

-- the empty message is shorter than any
pub short : (k : ℕ) (p : Params) (round : ℕ) → eqb (length {A = ℕ} []) (message_length k p round) ≡ false
short k p round = ne_eqb 0 (message_length k p round) (λ z. omega (arith, z, header_fits k p round))

-- a message of good form that passes is taken
pub form-passes : (k : ℕ) (due : Header) (msg : List ℕ) (last : Bool)
    → let p = params_in due.settings in
    eqb (length msg) (message_length k p due.round) ≡ true
    → eqb (header_in (field_count k p due.round) msg) (header_number due) ≡ true
    → fields_ok (field_count k p due.round) msg ≡ true
    → last ≡ true
    → ask_form k due msg (ask last 13 0) ≡ 0
unfolding ask_form ask
form-passes k due msg last a b c d = rw (a, b, c, d)

module _ (k : ℕ) (s : Settings) (serial : ℕ) (numbers : ℕ → List ℕ) (h : PartyInput) where
  -- a side's settings, key and slices pass
  pub record Kept : Type 0 where
    pub terms : FieldsPass s serial h
    pub exact : (R : ℕ) → R ≤ rounds → eqb (length (slice k s serial numbers h R)) (work_length k) ≡ true
    pub low : (R : ℕ) → R ≤ rounds → all_below q (slice k s serial numbers h R) ≡ true

  -- the other side's messages, by round: they meet this side, and are as long as their round asks
  pub record Heard (messages : ℕ → List ℕ) : Type 0 where
    pub sized : (R : ℕ) → R < rounds → length (messages (suc R)) ≡ message_length k (params_in s) (suc R)
    pub meets : Meets k s serial numbers h messages

  -- does a message have the length and header of round R + 1?
  abbrev pub is_of : ℕ → List ℕ → Bool
  is_of R msg =
      eqb (length msg) (message_length k (params_in s) (suc R))
      && eqb (header_in (field_count k (params_in s) (suc R)) msg) (header_number (header_with (1 - h.number) s (suc R) serial))

  -- one of the round before has not
  pub late : (messages : ℕ → List ℕ) → Heard messages → (R : ℕ) → R < rounds → is_of (suc R) (messages (suc R)) ≡ false
  late messages z R r =
      of_another_round k (1 - h.number) s serial (messages (suc R)) (suc R) (z.sized R r) (z.meets.header R r)

  module _ (u : Which h) (v : Kept) where
    abbrev pub at : ℕ → PartyState
    at m = state k s serial numbers h m

    -- what a call at step m leaves
    abbrev pub Left : List ℕ → ℕ → Call → PartyState → Bool → Type 0
    Left incoming m c x went = Leaves (outcome k s serial h incoming (at m) c) x went

    -- begin, at any stage
    pub begins : (incoming : List ℕ) (m : ℕ) → Left incoming m begin (at m) false
    unfolding party_at side_at begun_side
    begins incoming m = begin_spent k s serial h incoming (at m) refl

    sending_due : (R : ℕ) → R < rounds → send_due (at (send_step h.number R)).side ≡ true
    sending_due R r = send_in k s serial numbers h v.terms (send_step h.number R) Sending (at-send k s serial numbers h R u r).phase_is

    taking_due : (R : ℕ) → R < rounds → take_due (at (take_step h.number R)).side ≡ true
    taking_due R r = take_in k s serial numbers h v.terms (take_step h.number R) Taking (at_take k s serial numbers h R u r).phase_is

    sound_send : (R : ℕ) → R < rounds → Sound k (at (send_step h.number R))
    sound_send R r =
        let i : R + h.number ≤ rounds = omega (arith, which_below h u) in
        let e = (at-send k s serial numbers h R u r).slice_is in
        record { exact = rw e (v.exact (R + h.number) i); low = rw e (v.low (R + h.number) i) }

    sound_take : (R : ℕ) → R < rounds → Sound k (at (take_step h.number R))
    sound_take R r =
        let i : R ≤ rounds = omega (arith) in
        let e = (at_take k s serial numbers h R u r).slice_is in
        record { exact = rw e (v.exact R i); low = rw e (v.low R i) }

    send-answer : (R : ℕ) → R < rounds → (out : List ℕ)
        → send_no k (at (send_step h.number R)).side (at (send_step h.number R)).work out ≡ ask (leb (message_length k (params_in s) (suc R)) (length out)) 9 0
    unfolding party_at side_at begun_side
    send-answer R r out =
        rw (← (at-send k s serial numbers h R u r).round)
        (send-due k (at (send_step h.number R)) (sound_send R r) out (sending_due R r))

    -- send, at its stage, at the other stages
    pub sends : (incoming : List ℕ) (R : ℕ) (r : R < rounds) (out : List ℕ) (d : Bool)
        → leb (message_length k (params_in s) (suc R)) (length out) ≡ d
        → Left incoming (send_step h.number R) (send out) (cond d (at (suc (send_step h.number R))) (at (send_step h.number R))) d
    unfolding party_at side_at begun_side
    sends incoming R r out true e =
        rw (at-send k s serial numbers h R u r).after at
        (send_go k s serial h incoming (at (send_step h.number R)) out (rw (send-answer R r out) (ask_in _ 9 e)))
    sends incoming R r out false e =
        send_stay k s serial h incoming (at (send_step h.number R)) out
        (rw (send-answer R r out) (ask-last _ 8 _ e))

    pub sends_not_taking : (incoming : List ℕ) (R : ℕ) → R < rounds → (out : List ℕ) → Left incoming (take_step h.number R) (send out) (at (take_step h.number R)) false
    sends_not_taking incoming R r out =
        send-not k s serial h incoming (at (take_step h.number R)) out
        (send_in k s serial numbers h v.terms (take_step h.number R) Taking (at_take k s serial numbers h R u r).phase_is)

    pub sends_not_ended : (incoming : List ℕ) (out : List ℕ) → Left incoming steps (send out) (at steps) false
    sends_not_ended incoming out =
        send-not k s serial h incoming (at steps) out (send_in k s serial numbers h v.terms steps Finished (at-end k s serial numbers h))

    pub takes_not_sending : (incoming : List ℕ) (R : ℕ) → R < rounds → Left incoming (send_step h.number R) take_latest (at (send_step h.number R)) false
    takes_not_sending incoming R r =
        take-not k s serial h incoming (at (send_step h.number R))
        (take_in k s serial numbers h v.terms (send_step h.number R) Sending (at-send k s serial numbers h R u r).phase_is)

    pub takes_not_ended : (incoming : List ℕ) → Left incoming steps take_latest (at steps) false
    takes_not_ended incoming =
        take-not k s serial h incoming (at steps) (take_in k s serial numbers h v.terms steps Finished (at-end k s serial numbers h))

    take-answer : (R : ℕ) → R < rounds → (msg : List ℕ)
        → take_no k (at (take_step h.number R)).side (at (take_step h.number R)).work msg
        ≡ ask_form k (header_with (1 - h.number) s (suc R) serial) msg
        (ask (all_to (openings (params_in s) (suc R)) (passes k (at (take_step h.number R)).side (at (take_step h.number R)).work msg)) 13 0)
    unfolding party_at side_at begun_side
    take-answer R r msg =
        rw (← (at_take k s serial numbers h R u r).round)
        (take-due k (at (take_step h.number R)) (sound_take R r) msg (taking_due R r))

    -- a message of another round, or none
    pub takes_late : (R : ℕ) → R < rounds → (msg : List ℕ) → is_of R msg ≡ false → Left msg (take_step h.number R) take_latest (at (take_step h.number R)) false
    unfolding ask_form
    takes_late R r msg e =
        take_stay k s serial h msg (at (take_step h.number R))
        (rw (take-answer R r msg) (late_0 _ _ _ e))
        (rw (take-answer R r msg) (late_13 _ _ _ e))

    pub takes_empty : (R : ℕ) → R < rounds → Left [] (take_step h.number R) take_latest (at (take_step h.number R)) false
    takes_empty R r = takes_late R r [] (rw (short k (params_in s) (suc R)) refl)

    -- the message that is due
    module _ (messages : ℕ → List ℕ) (z : Heard messages) where
      take-passes : (R : ℕ) → R < rounds → take_no k (at (take_step h.number R)).side (slice k s serial numbers h R) (messages (suc R)) ≡ 0
      unfolding party_at
      take-passes R r =
          rw (at_take k s serial numbers h R u r).slice_is at (take-answer R r (messages (suc R)))
          ∙ form-passes _ _ _ _ (eq-eqb _ _ (z.sized R r)) (eq-eqb _ _ (z.meets.header R r)) (z.meets.fields R r) (z.meets.pass R r)

      pub takes : (R : ℕ) → R < rounds → Left (messages (suc R)) (take_step h.number R) take_latest (at (suc (take_step h.number R))) true
      unfolding party_at
      takes R r =
          rw (at_take k s serial numbers h R u r).after at
          (take_go k s serial h (messages (suc R)) (at (take_step h.number R)) (numbers R)
          (rw (at_take k s serial numbers h R u r).slice_is (take-passes R r))
          (rw (at_take k s serial numbers h R u r).slice_is (z.meets.opens R r)))
