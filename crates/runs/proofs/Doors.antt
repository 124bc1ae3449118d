-- What the doors answer at a party state of which little is known, and what a call then leaves there.
use Prim.Native.Nat.{ℕ}
use mathlib.Core.Path.{◌≡◌, refl}
use mathlib.Core.List.{List}
use mathlib.Core.Bool.{Bool, true, false}
use native.Mathlib.Omega.{arith}
use lib.ListN.{length, get_or, drop}
use lib.Dec.{eqb, leb}
use lib.Seq.{take_at}
use borrow.Author.Tests.{le-ltb}
use Rattle.lists.specs.Answers.{ask}
use Rattle.lists.specs.Lists.{all_to, all_below}
use Rattle.lists.proofs.Questions.{ask_no, ask-last}
use Rattle.field.specs.Field.{q}
use Rattle.settings.specs.Sizes.{width_of, openings, message_length, work_length}
use Rattle.settings.specs.Questions.{ask_shape, ask_settings}
use Rattle.message.specs.Message.{ask_form}
use Rattle.slice.specs.Layout.{weights, begun_work}
use Rattle.steps.specs.Work.{taken_work}
use Rattle.state.specs.State.{send_due, take_due}
use Rattle.opening.specs.Opening.{message, passes, due_header}
use Rattle.side.specs.Side.{handed_no, begin_no, begin_call, begun_side, send_no, send_call, sent_side, take_no, take_call, taken_side, opened_list}
use Rattle.settings.specs.declared.Settings.{Settings}
use Rattle.settings.specs.Settings.{params_in, terms_of}
use Rattle.runs.specs.Records.{PartyInput, PartyState, Observation, Outcome, outcome, run_of}
use Rattle.runs.specs.Records.Call.{begin, send, take_latest}
use Rattle.runs.specs.Records.Observation.{began, sent, took, answered, counted}
use Rattle.runs.proofs.Laws.{message-sized}

-- what the begin of input h answers at a party state, and what each call leaves there when it goes through
abbrev pub begin_no_at : ℕ → Settings → ℕ → PartyInput → PartyState → ℕ
begin_no_at k s serial h x =
    begin_no k x.side (run_of s serial h) h.inputs h.book x.work

abbrev pub begun_state : ℕ → Settings → ℕ → PartyInput → PartyState → PartyState
begun_state k s serial h x =
    record {
      side = begun_side (run_of s serial h);
      work = begun_work (params_in s) (width_of k) h.inputs h.book;
      latest = x.latest;
    }

abbrev pub sent_state : ℕ → PartyState → PartyState
sent_state k x = record { side = sent_side x.side; work = x.work; latest = message k x.side x.work }

abbrev pub taken_state : ℕ → PartyState → List ℕ → PartyState
taken_state k x numbers =
    record {
      side = taken_side x.side numbers;
      work = taken_work (terms_of x.side.settings) x.side.round (λ (o : ℕ). get_or numbers o 0)
          (weights k x.side.number x.side.keys) x.work;
      latest = x.latest;
    }

-- was a call accepted that moves a run?
abbrev pub accepted : Observation → Bool
accepted (began r) = eqb r 0
accepted (sent r m) = eqb r 0
accepted (took r m) = eqb r 0
accepted (answered r ns) = false
accepted (counted c) = false

-- a call leaves the party state x, and was accepted or not
pub record Leaves (o : Outcome) (x : PartyState) (went : Bool) : Type 0 where
  pub state-is : o.state ≡ x
  pub went_is : accepted o.observation ≡ went

module _ (k : ℕ) (s : Settings) (serial : ℕ) (h : PartyInput) (m : List ℕ) (x : PartyState) where
  pub begin_go : eqb (begin_no_at k s serial h x) 0 ≡ true → Leaves (outcome k s serial h m x begin) (begun_state k s serial h x) true
  unfolding outcome begin_call
  begin_go e = record { state-is = rw e; went_is = rw e }

  pub begin_stay : eqb (begin_no_at k s serial h x) 0 ≡ false → Leaves (outcome k s serial h m x begin) x false
  unfolding outcome begin_call
  begin_stay e = record { state-is = rw e; went_is = rw (e, e) }

  pub send_go : (out : List ℕ) → eqb (send_no k x.side x.work out) 0 ≡ true → Leaves (outcome k s serial h m x (send out)) (sent_state k x) true
  unfolding outcome send_call
  send_go out e =
      record {
        state-is = rw (
          e,
          ← message-sized k x.side x.work,
          take_at (message k x.side x.work) (drop (length (message k x.side x.work)) out)
              (length (message k x.side x.work)) refl,
        );
        went_is = rw e;
      }

  pub send_stay : (out : List ℕ) → eqb (send_no k x.side x.work out) 0 ≡ false → Leaves (outcome k s serial h m x (send out)) x false
  unfolding outcome send_call
  send_stay out e = record { state-is = rw (e, e); went_is = rw (e, e) }

  pub take_go : (numbers : List ℕ) → take_no k x.side x.work m ≡ 0 → opened_list k x.side x.work m ≡ numbers
      → Leaves (outcome k s serial h m x take_latest) (taken_state k x numbers) true
  unfolding outcome take_call
  take_go numbers e f = record { state-is = rw (e, f); went_is = rw e }

  -- every no but 13 leaves the party state
  pub take_stay : eqb (take_no k x.side x.work m) 0 ≡ false → eqb (take_no k x.side x.work m) 13 ≡ false
      → Leaves (outcome k s serial h m x take_latest) x false
  unfolding outcome take_call
  take_stay e f = record { state-is = rw (e, f); went_is = rw (e, f, e) }

  -- ---- no step due
  pub send-not : (out : List ℕ) → send_due x.side ≡ false → Leaves (outcome k s serial h m x (send out)) x false
  unfolding send_no ask
  send-not out e = send_stay out (rw e refl)

  pub take-not : take_due x.side ≡ false → Leaves (outcome k s serial h m x take_latest) x false
  unfolding take_no ask
  take-not e = take_stay (rw e refl) (rw e refl)

  -- a serial that was begun is spent
  pub begin_spent : x.side.serial ≡ serial → Leaves (outcome k s serial h m x begin) x false
  unfolding begin_no handed_no ask_settings ask_shape
  begin_spent e =
      begin_stay
      (ask_no _ 7 _ refl (ask_no _ 0 _ refl (ask_no _ 0 _ refl (ask_no _ 1 _ refl (ask_no _ 2 _ refl (ask_no _ 3 _ refl (ask_no _ 4 _ refl (ask_no _ 5 _ refl
      (ask-last _ 6 _ (le-ltb x.side.serial serial (omega arith)))))))))))

-- ---- a step due, at a party state with a slice that passes
pub record Sound (k : ℕ) (x : PartyState) : Type 0 where
  pub exact : eqb (length x.work) (work_length k) ≡ true
  pub low : all_below q x.work ≡ true

module _ (k : ℕ) (x : PartyState) (v : Sound k x) where
  pub send-due : (out : List ℕ) → send_due x.side ≡ true
      → send_no k x.side x.work out ≡ ask (leb (message_length k (params_in x.side.settings) x.side.round) (length out)) 9 0
  unfolding send_no ask
  send-due out e = rw (e, v.exact, v.low)

  pub take-due : (m : List ℕ) → take_due x.side ≡ true
      → take_no k x.side x.work m
      ≡ ask_form k (due_header x.side) m
      (ask (all_to (openings (params_in x.side.settings) x.side.round) (passes k x.side x.work m)) 13 0)
  unfolding take_no ask
  take-due m e = rw (e, v.exact, v.low)
