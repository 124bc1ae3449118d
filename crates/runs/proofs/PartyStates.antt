-- The canonical party states: which step is due at each, and what its step leaves.
use Prim.Native.Nat.{ℕ, suc, ◌+◌, ◌-◌, ◌/◌, ◌%◌, ◌≤◌, ◌<◌}
use mathlib.Core.Path.{◌≡◌, refl}
use mathlib.Core.List.{List, []}
use mathlib.Core.Bool.{Bool, true, false, cond, ◌&&◌}
use native.Mathlib.Omega.{arith}
use native.Mathlib.Decide.{dec_lt}
use lib.ListN.{length, replicate}
use lib.Dec.{eqb, leb}
use borrow.Author.Tests.{ne_eqb, eqb-true, eqb-false}
use Rattle.lists.specs.Answers.{ask}
use Rattle.lists.specs.Lists.{in_front}
use Rattle.settings.specs.Questions.{is_bit, count_ok, bound_ok, ask_settings, keys_ok, ask_shape}
use Rattle.settings.specs.Schedule.{rounds, steps, sends_after, taken_by, sent_by, send_step, take_step}
use Rattle.settings.specs.Sizes.{message_length}
use Rattle.settings.proofs.Schedule.{round_ok_lem, send-round, take-round}
use Rattle.state.specs.State.{is_sending, is_taking, whole, send_due, take_due, step_of}
use Rattle.state.proofs.Steps.{phase_sending, phase_taking, phase_ended, step-at}
use Rattle.side.specs.Side.{begun_side, sent_side, taken_side}
use Rattle.state.specs.declared.Phase.{Phase}
use Rattle.state.specs.declared.Phase.TheVariants.{Sending, Taking, Finished}
use Rattle.settings.specs.declared.Settings.{Settings}
use Rattle.settings.specs.Settings.{params_in}
use Rattle.runs.specs.Records.{PartyInput, PartyState, run_of}
use Rattle.runs.specs.Progress.{work_at, answer_at, side_at, message_at, party_at}
use Rattle.runs.proofs.Laws.{message-sized}
use Rattle.runs.proofs.Doors.{begun_state, sent_state, taken_state}

-- an input by its parts
abbrev pub input_as : ℕ → List ℕ → List ℕ → List ℕ → PartyInput
input_as number keys inputs book = record { number = number; keys = keys; inputs = inputs; book = book }

-- which side an input is of: with its number known the canonical party states compute
pub data Which : PartyInput → Type 0 where
  server : {keys inputs book : List ℕ} → Which (input_as 0 keys inputs book)
  phone : {keys inputs book : List ℕ} → Which (input_as 1 keys inputs book)

-- where a side stands after so many steps
pub data Stage (number : ℕ) : ℕ → Type 0 where
  sending : {R : ℕ} → R < rounds → Stage number (send_step number R)
  taking : {R : ℕ} → R < rounds → Stage number (take_step number R)
  ended : Stage number steps

-- what the kept fields must be
pub record FieldsPass (s : Settings) (serial : ℕ) (h : PartyInput) : Type 0 where
  pub number_bit : is_bit h.number ≡ true
  pub bits : (is_bit s.shape.set && is_bit s.shape.kind) ≡ true
  pub count : count_ok s.shape.n ≡ true
  pub bound : bound_ok s.shape.kind s.bound ≡ true
  pub keys_ok_lem : keys_ok h.keys ≡ true
  pub above : leb 1 serial ≡ true

pub which_below : (h : PartyInput) → Which h → h.number < 2
which_below _ server = omega arith
which_below _ phone = omega arith

module _ (k : ℕ) (s : Settings) (serial : ℕ) (numbers : ℕ → List ℕ) where
  abbrev pub state : PartyInput → ℕ → PartyState
  state h m = party_at k s serial numbers h m

  abbrev pub said : PartyInput → ℕ → List ℕ
  said h round = message_at k s serial numbers h round

  abbrev pub slice : PartyInput → ℕ → List ℕ
  slice h R = work_at k s serial numbers h R

  -- what a step leaves
  pub begun : (h : PartyInput) (x : PartyState) → Which h → x.latest ≡ [] → begun_state k s serial h x ≡ state h 0
  unfolding party_at side_at work_at begun_side
  begun h x server e = rw e
  begun h x phone e = rw e

  -- the kept fields of a side in its run pass
  pub kept_whole : (h : PartyInput) → FieldsPass s serial h → (m : ℕ) → whole (side_at k s serial numbers h m) ≡ true
  unfolding whole ask_settings ask_shape begun_side ask side_at
  kept_whole h v m = rw (v.number_bit, v.bits, v.count, v.bound, v.keys_ok_lem, v.above, round_ok_lem m)

  -- so its phase tells what is due
  pub send_in : (h : PartyInput) → FieldsPass s serial h → (m : ℕ) (p : Phase) → (state h m).side.phase ≡ p → send_due (state h m).side ≡ is_sending p
  unfolding send_due party_at
  send_in h v m p e = rw (kept_whole h v m, e)

  pub take_in : (h : PartyInput) → FieldsPass s serial h → (m : ℕ) (p : Phase) → (state h m).side.phase ≡ p → take_due (state h m).side ≡ is_taking p
  unfolding take_due party_at
  take_in h v m p e = rw (kept_whole h v m, e)

  -- its steps are read off it
  pub step_is : (h : PartyInput) → h.number < 2 → (m : ℕ) → m ≤ steps → step_of (side_at k s serial numbers h m) ≡ m
  unfolding side_at begun_side
  step_is h u m l = step-at (begun_side (run_of s serial h)) m _ u l

  -- a side at its sending step of round R + 1
  pub record AtSend (h : PartyInput) (R : ℕ) : Type 0 where
    pub after : sent_state k (state h (send_step h.number R)) ≡ state h (suc (send_step h.number R))
    pub phase_is : (state h (send_step h.number R)).side.phase ≡ Sending
    pub round : (state h (send_step h.number R)).side.round ≡ suc R
    pub message-is : (sent_state k (state h (send_step h.number R))).latest ≡ said h (suc R)
    pub slice_is : (state h (send_step h.number R)).work ≡ slice h (R + h.number)

  pub at-send : (h : PartyInput) (R : ℕ) → Which h → R < rounds → AtSend h R
  unfolding party_at side_at message_at begun_side sent_side
  at-send h R u r =
      let n : h.number < 2 = which_below h u in
      let m : ℕ = send_step h.number R in
      let taken : taken_by h.number (suc m) ≡ taken_by h.number m = omega arith in
      let sent : sent_by h.number (suc m) ≡ suc R = omega arith in
      let before : taken_by h.number m ≡ R + h.number = omega arith in
      let back : suc R - 1 ≡ R = omega arith in
      record {
        after = rw (step_is h n m (omega arith), taken, sent, ne_eqb (suc R) 0 (λ e. omega (arith, e)), back);
        phase_is = phase_sending h.number R n r;
        round = send-round h.number R n r;
        message-is = rw back;
        slice_is = rw before;
      }

  -- the answer that the take of round R + 1 leaves
  next-answer : (h : PartyInput) (R : ℕ) → R < rounds → let kept = answer_at k s serial numbers h in
      cond (eqb (suc R) rounds) (in_front (numbers R) (kept R)) (kept R) ≡ kept (suc R)
  next-answer h R r = rw (ne_eqb R rounds (λ e. omega (arith, e))) (by (eqb (suc R) rounds) refl)
    where
      zeros : List ℕ
      zeros = replicate 8 0

      by : (b : Bool) → eqb (suc R) rounds ≡ b → cond b (in_front (numbers R) zeros) zeros ≡ cond b (in_front (numbers (rounds - 1)) zeros) zeros
      by true e =
          let last : R ≡ rounds - 1 = omega (arith, eqb-true (suc R) rounds e) in
          rw last
      by false e = refl

  -- and at its taking step
  pub record AtTake (h : PartyInput) (R : ℕ) : Type 0 where
    pub after : taken_state k (state h (take_step h.number R)) (numbers R) ≡ state h (suc (take_step h.number R))
    pub phase_is : (state h (take_step h.number R)).side.phase ≡ Taking
    pub round : (state h (take_step h.number R)).side.round ≡ suc R
    pub slice_is : (state h (take_step h.number R)).work ≡ slice h R

  pub at_take : (h : PartyInput) (R : ℕ) → Which h → R < rounds → AtTake h R
  unfolding party_at side_at work_at begun_side taken_side
  at_take h R u r =
      let n : h.number < 2 = which_below h u in
      let m : ℕ = take_step h.number R in
      let taken : taken_by h.number (suc m) ≡ suc R = omega arith in
      let before : taken_by h.number m ≡ R = omega arith in
      let sent : sent_by h.number (suc m) ≡ sent_by h.number m = omega arith in
      record {
        after = rw (step_is h n m (omega arith), taken, before, sent, take-round h.number R n r, next-answer h R r);
        phase_is = phase_taking h.number R n r;
        round = take-round h.number R n r;
        slice_is = rw before;
      }

  pub at-end : (h : PartyInput) → (state h steps).side.phase ≡ Finished
  unfolding party_at side_at begun_side
  at-end h = phase_ended h.number

  -- its messages are as long as their round asks
  pub said_sized : (h : PartyInput) (R : ℕ) → Which h → R < rounds → length (said h (suc R)) ≡ message_length k (params_in s) (suc R)
  unfolding party_at side_at begun_side
  said_sized h R u r =
      rw (← (at-send h R u r).message-is, ← (at-send h R u r).round)
      (message-sized k (state h (send_step h.number R)).side (state h (send_step h.number R)).work)

pub stage : (number m : ℕ) → number < 2 → m ≤ steps → Stage number m
stage number m u le = by (dec_lt m steps) (sends_after number m) refl
  where
    by : Dec (m < steps) → (b : Bool) → sends_after number m ≡ b → Stage number m
    by (no a) b e =
        let end : steps ≡ m = omega arith in
        let x : Stage number steps = ended in
        rw end at x
    by (yes a) true e =
        let here : send_step number (m / 2) ≡ m = omega (arith, eqb-true (m % 2) number e) in
        let x : Stage number (send_step number (m / 2)) = sending {R = m / 2} (omega arith) in
        rw here at x
    by (yes a) false e =
        let here : take_step number (m / 2) ≡ m = omega (arith, eqb-false (m % 2) number e) in
        let x : Stage number (take_step number (m / 2)) = taking {R = m / 2} (omega arith) in
        rw here at x
