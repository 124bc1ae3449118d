-- Demand 1, call by call: its first no is that of its questions, and what it leaves follows.
use Prim.Native.Nat.{ℕ}
use mathlib.Core.Path.{◌≡◌, refl, sym}
use mathlib.Core.Bool.{Bool, true, false, not, cond, ◌&&◌}
use mathlib.Core.List.{List, []}
use native.Mathlib.Omega.{arith}
use lib.Dec.{eqb, leb, ltb}
use borrow.Author.Tests.{eqb-true, eqb-false, ne_eqb, ltb-true, le-leb}
use Rattle.lists.specs.Answers.{ask}
use Rattle.lists.specs.Lists.{every}
use Rattle.lists.proofs.Questions.{passed, both_yes}
use Rattle.settings.specs.declared.Shape.{Shape}
use Rattle.settings.specs.declared.Settings.{Settings}
use Rattle.settings.specs.Sets.{scale_of}
use Rattle.field.specs.Field.{q}
use Rattle.settings.specs.Questions.{is_bit, ask_shape, ask_settings, keys_ok}
use Rattle.settings.specs.Schedule.{round_ok, round_after}
use Rattle.settings.proofs.Schedule.{round_ok_lem}
use Rattle.settings.proofs.Ready.{settings-pass, settings_rest}
use Rattle.settings.specs.Refusals.{Outcome, Gives, No}
use Rattle.rounding.specs.Plain.{high_low_of, verdict}
use Rattle.rounding.specs.Calls.{parts_no, verdict_no, parts_call, verdict_call}
use Rattle.message.specs.Message.{ask_form, form_no}
use Rattle.dealer.specs.Deal.{deal_no, deal_call}
use Rattle.stock.specs.Stock.{ask_stocks, choose_no, chosen}
use Rattle.generator.specs.declared.Generator.{Generator}
use Rattle.generator.specs.Calls.{seed_call, draw_no, draw_call}
use Rattle.ring.specs.Calls.{called, ring_no, ring_call, transform_no, transform_call, transformed_call}
use Rattle.state.specs.declared.Side.{Side}
use Rattle.state.specs.State.{whole, send_due, take_due, under_way, finished, is_sending, is_taking, answer_no, answer_call}
use Rattle.side.specs.declared.Run.{Run}
use Rattle.side.specs.Side.{handed_no, begin_no, begin_call, begun_side, send_no, send_call, sent_side, take_no, take_call, taken_side, opened_list}
use Rattle.refusals.specs.Questions.{Question, parts_questions, verdict_questions, form_questions, deal_questions, choose_questions}
use Rattle.refusals.specs.Questions.{seed_questions, draw_questions, ring_questions, transform_questions}
use Rattle.refusals.specs.Questions.{begin_questions, send_questions, take_questions, answer_questions}
use Rattle.refusals.specs.Demands.{Decides, Refuses, RefusesSide, refusal_of, Demand1}
use Rattle.refusals.proofs.Deciding.{first_no, joined, decides, never_thirteen}
use Rattle.refusals.proofs.Leaving.{went, refused, went_on, kept, stops, not_stopped, done-runs}

-- ---- Level One

parts-decides : (set w : ℕ) → Decides (parts_questions set w) (parts_no set w)
unfolding parts_no first_no every
parts-decides set w = decides (parts_questions set w) refl

verdict-decides : (set bound : ℕ) (ws : List ℕ) → Decides (verdict_questions set bound ws) (verdict_no set bound ws)
unfolding verdict_no first_no every
verdict-decides set bound ws = decides (verdict_questions set bound ws) refl

-- the number in a call's answer is its first no
number-is : {A : Type 0} (value : A) (refusal : ℕ) → refusal_of (cond (eqb refusal 0) (Gives value) (No refusal)) ≡ refusal
number-is value refusal = by (eqb refusal 0) refl
  where
    by : (b : Bool) → eqb refusal 0 ≡ b → refusal_of (cond b (Gives value) (No refusal)) ≡ refusal
    by true e = sym (eqb-true refusal 0 e)
    by false e = refl

parts-number : (set w : ℕ) → refusal_of (parts_call set w) ≡ parts_no set w
unfolding parts_call
parts-number set w = number-is (high_low_of (scale_of set) w) (parts_no set w)

verdict-number : (set bound : ℕ) (ws : List ℕ) → refusal_of (verdict_call set bound ws) ≡ verdict_no set bound ws
unfolding verdict_call
verdict-number set bound ws = number-is (verdict q bound ws) (verdict_no set bound ws)

-- ---- Messages

form-decides : (k receiver : ℕ) (s : Settings) (round serial : ℕ) (message : List ℕ)
    → Decides (form_questions k receiver s round serial message) (form_no k receiver s round serial message)
unfolding form_no ask_settings ask_shape ask_form first_no every
form-decides k receiver s round serial message =
    rw (joined (is_bit receiver) (is_bit s.shape.set) (is_bit s.shape.kind) 1 _)
    (decides (form_questions k receiver s round serial message) refl)

-- ---- Level Three

deal-decides : (k : ℕ) (a : Shape) (keys0 keys1 draw server phone : List ℕ)
    → Decides (deal_questions k a keys0 keys1 draw server phone) (deal_no k a keys0 keys1 draw server phone)
unfolding deal_no ask_shape first_no every
deal-decides k a keys0 keys1 draw server phone = decides (deal_questions k a keys0 keys1 draw server phone) refl

deal_refuses : (k : ℕ) (a : Shape) (keys0 keys1 draw server phone : List ℕ)
    → let r = deal_call k a keys0 keys1 draw server phone in
    Refuses (deal_questions k a keys0 keys1 draw server phone) r.refused ((r.server ≡ server) × (r.phone ≡ phone))
unfolding deal_call
deal_refuses k a keys0 keys1 draw server phone = by (eqb (deal_no k a keys0 keys1 draw server phone) 0) refl
  where
    questions : List Question
    questions = deal_questions k a keys0 keys1 draw server phone

    by : (b : Bool) → eqb (deal_no k a keys0 keys1 draw server phone) 0 ≡ b
        → let r = deal_call k a keys0 keys1 draw server phone in Refuses questions r.refused ((r.server ≡ server) × (r.phone ≡ phone))
    by true e = rw e (went questions _ (deal_no k a keys0 keys1 draw server phone) e (deal-decides k a keys0 keys1 draw server phone))
    by false e = rw e (refused questions _ _ (deal-decides k a keys0 keys1 draw server phone) (refl, refl))

choose-decides : (k : ℕ) (a : Shape) (first second : List ℕ) (last : ℕ)
    → Decides (choose_questions k a first second last) (choose_no k a first second last)
unfolding choose_no ask_stocks ask_shape first_no every
choose-decides k a first second last = decides (choose_questions k a first second last) refl

choose_refuses : (k : ℕ) (a : Shape) (first second : List ℕ) (last : ℕ)
    → Refuses (choose_questions k a first second last) (choose_no k a first second last) (chosen k a first second last ≡ [])
unfolding chosen
choose_refuses k a first second last =
    record { decides = choose-decides k a first second last; changes_nothing = λ h. rw (ne_eqb _ 0 h) refl }

-- ---- The generator for tests

seed-number : (seed : ℕ) → refusal_of (seed_call seed) ≡ ask (ltb 0 seed) 16 0
unfolding seed_call ask
seed-number seed = by (record { state = seed }) (ltb 0 seed)
  where
    by : (generator : Generator) (b : Bool) → refusal_of (cond b (Gives generator) (No 16)) ≡ ask b 16 0
    by generator true = refl
    by generator false = refl

seed-decides : (seed : ℕ) → Decides (seed_questions seed) (refusal_of (seed_call seed))
unfolding first_no every
seed-decides seed = rw (seed-number seed) (decides (seed_questions seed) refl)

draw-decides : (k : ℕ) (a : Shape) (out : List ℕ) → Decides (draw_questions k a out) (draw_no k a out)
unfolding draw_no ask_shape first_no every
draw-decides k a out = decides (draw_questions k a out) refl

draw_refuses : (k state : ℕ) (a : Shape) (out : List ℕ)
    → let r = draw_call k state a out in
    Refuses (draw_questions k a out) r.refused ((r.state ≡ state) × (r.out ≡ out))
unfolding draw_call
draw_refuses k state a out = by (eqb (draw_no k a out) 0) refl
  where
    by : (b : Bool) → eqb (draw_no k a out) 0 ≡ b
        → let r = draw_call k state a out in Refuses (draw_questions k a out) r.refused ((r.state ≡ state) × (r.out ≡ out))
    by true e = rw e (went (draw_questions k a out) _ (draw_no k a out) e (draw-decides k a out))
    by false e = rw e (refused (draw_questions k a out) _ _ (draw-decides k a out) (refl, refl))

-- ---- Products in the ring

-- a call that writes its output unless it is refused
output_kept : (questions : List Question) (refusal : ℕ) (result out : List ℕ) → Decides questions refusal
    → Refuses questions refusal ((called refusal result out).out ≡ out)
output_kept questions refusal result out d = record { decides = d; changes_nothing = λ h. rw (ne_eqb refusal 0 h) refl }

ring_decides : (public row out : List ℕ) → Decides (ring_questions public row out) (ring_no public row out)
unfolding ring_no first_no every
ring_decides public row out = decides (ring_questions public row out) refl

transform-decides : (public out : List ℕ) → Decides (transform_questions public out) (transform_no public out)
unfolding transform_no first_no every
transform-decides public out = decides (transform_questions public out) refl

product_refuses : (public row out : List ℕ)
    → let r = ring_call public row out in Refuses (ring_questions public row out) r.refused (r.out ≡ out)
unfolding ring_call
product_refuses public row out = output_kept _ _ _ out (ring_decides public row out)

transform_refuses : (public out : List ℕ)
    → let r = transform_call public out in Refuses (transform_questions public out) r.refused (r.out ≡ out)
unfolding transform_call
transform_refuses public out = output_kept _ _ _ out (transform-decides public out)

transformed_refuses : (transformed row out : List ℕ)
    → let r = transformed_call transformed row out in Refuses (ring_questions transformed row out) r.refused (r.out ≡ out)
unfolding transformed_call
transformed_refuses transformed row out = output_kept _ _ _ out (ring_decides transformed row out)

-- ---- Level Two

module _ (k : ℕ) (s : Side) where
  begin-decides : (run : Run) (inputs book work : List ℕ)
      → Decides (begin_questions k s run inputs book work) (begin_no k s run inputs book work)
  unfolding begin_no handed_no ask_settings ask_shape first_no every
  begin-decides run inputs book work =
      rw (joined (is_bit run.number) (is_bit run.settings.shape.set) (is_bit run.settings.shape.kind) 1 _)
      (decides (begin_questions k s run inputs book work) refl)

  send-decides : (work out : List ℕ) → Decides (send_questions k s work out) (send_no k s work out)
  unfolding send_no first_no every
  send-decides work out = decides (send_questions k s work out) refl

  take-decides : (work message : List ℕ) → Decides (take_questions k s work message) (take_no k s work message)
  unfolding take_no ask_form first_no every
  take-decides work message = decides (take_questions k s work message) refl

  answer-decides : (out : List ℕ) → Decides (answer_questions s out) (answer_no s out)
  unfolding answer_no first_no every
  answer-decides out = decides (answer_questions s out) refl

  -- ---- begin

  some-serial : (serial : ℕ) → ltb s.serial serial ≡ true → leb 1 serial ≡ true
  some-serial serial e = le-leb 1 serial (omega (arith, ltb-true s.serial serial e))

  -- a side that has begun keeps what questions 1 to 4 and 7 let through
  begun-whole : (run : Run) (inputs book work : List ℕ) → begin_no k s run inputs book work ≡ 0 → whole (begun_side run) ≡ true
  unfolding begin_no whole begun_side ask
  begun-whole run inputs book work e =
      let yes-to = (begin-decides run inputs book work).accepted e in
      let handed : ℕ = handed_no k s run inputs book work in
      let chain : ask_settings run.number run.settings handed ≡ 0 = (passed (not (under_way s)) 7 _ e).1 in
      let rest : handed ≡ 0 = settings_rest run.number run.settings handed chain in
      let keys : keys_ok run.keys ≡ true = yes-to 4 (omega arith) in
      let serial : leb 1 run.serial ≡ true = some-serial run.serial (yes-to 7 (omega arith)) in
      let after : ℕ = ask (keys_ok run.keys) 4 (ask (leb 1 run.serial && round_ok (round_after 0)) 8 0) in
      rw (settings-pass run.number run.settings after (rw rest at chain), keys, serial, round_ok_lem 0)

  begin_refuses : (run : Run) (inputs book work : List ℕ)
      → let r = begin_call k s run inputs book work in
      RefusesSide (begin_questions k s run inputs book work) r.done.refused s r.done.side (r.work ≡ work)
  unfolding begin_call begun_side every
  begin_refuses run inputs book work = by (eqb refusal 0) refl
    where
      refusal : ℕ
      refusal = begin_no k s run inputs book work

      decided : Decides (begin_questions k s run inputs book work) refusal
      decided = begin-decides run inputs book work

      by : (b : Bool) → eqb refusal 0 ≡ b
          → let r = begin_call k s run inputs book work in
          RefusesSide (begin_questions k s run inputs book work) r.done.refused s r.done.side (r.work ≡ work)
      by true e =
          rw e
          (went_on _ _ refusal s (begun_side run) e decided
          (not_stopped (begun_side run) 0 _ (begun-whole run inputs book work (eqb-true refusal 0 e))))
      by false e = rw e (kept _ _ refusal s (eqb-false refusal 0 e) (never_thirteen _ refusal refl decided) decided refl)

  -- ---- send

  send_refuses : (work out : List ℕ)
      → let r = send_call k s work out in
      RefusesSide (send_questions k s work out) r.sent.refused s r.sent.side ((r.sent.length ≡ 0) × (r.out ≡ out))
  unfolding send_call send_no sent_side send_due every
  send_refuses work out = by (eqb refusal 0) refl
    where
      refusal : ℕ
      refusal = send_no k s work out

      decided : Decides (send_questions k s work out) refusal
      decided = send-decides work out

      by : (b : Bool) → eqb refusal 0 ≡ b
          → let r = send_call k s work out in
          RefusesSide (send_questions k s work out) r.sent.refused s r.sent.side ((r.sent.length ≡ 0) × (r.out ≡ out))
      by true e =
          let due : send_due s ≡ true = (passed (send_due s) 7 _ (eqb-true refusal 0 e)).0 in
          rw e (went_on _ _ refusal s (sent_side s) e decided (not_stopped s _ _ (both_yes (whole s) (is_sending s.phase) due).0))
      by false e = rw e (kept _ _ refusal s (eqb-false refusal 0 e) (never_thirteen _ refusal refl decided) decided (refl, refl))

  -- ---- take

  take_refuses : (work message : List ℕ)
      → let r = take_call k s work message in
      RefusesSide (take_questions k s work message) r.done.refused s r.done.side (r.work ≡ work)
  unfolding take_call take_no taken_side take_due
  take_refuses work message = by (eqb refusal 0) refl (eqb refusal 13) refl
    where
      refusal : ℕ
      refusal = take_no k s work message

      decided : Decides (take_questions k s work message) refusal
      decided = take-decides work message

      by : (a : Bool) → eqb refusal 0 ≡ a → (b : Bool) → eqb refusal 13 ≡ b
          → let r = take_call k s work message in
          RefusesSide (take_questions k s work message) r.done.refused s r.done.side (r.work ≡ work)
      by true e b f =
          let due : take_due s ≡ true = (passed (take_due s) 7 _ (eqb-true refusal 0 e)).0 in
          rw e
          (went_on _ _ refusal s (taken_side s (opened_list k s work message)) e decided
          (not_stopped s _ _ (both_yes (whole s) (is_taking s.phase) due).0))
      by false e true f = rw (e, f) (stops _ _ refusal s f decided refl)
      by false e false f = rw (e, f) (kept _ _ refusal s (eqb-false refusal 0 e) (eqb-false refusal 13 f) decided refl)

  -- ---- answer

  answer_refuses : (out : List ℕ)
      → let r = answer_call s out in
      RefusesSide (answer_questions s out) r.result.refused s s ((r.result.length ≡ 0) × (r.out ≡ out))
  unfolding answer_call answer_no under_way send_due take_due finished every
  answer_refuses out = by (eqb refusal 0) refl
    where
      refusal : ℕ
      refusal = answer_no s out

      decided : Decides (answer_questions s out) refusal
      decided = answer-decides out

      by : (b : Bool) → eqb refusal 0 ≡ b
          → let r = answer_call s out in
          RefusesSide (answer_questions s out) r.result.refused s s ((r.result.length ≡ 0) × (r.out ≡ out))
      by true e = rw e (went_on _ _ refusal s s e decided (done-runs s (passed (finished s) 7 _ (eqb-true refusal 0 e)).0))
      by false e = rw e (kept _ _ refusal s (eqb-false refusal 0 e) (never_thirteen _ refusal refl decided) decided (refl, refl))

-- ---- All calls

pub every_call_refuses : (k : ℕ) → Demand1 k
every_call_refuses k =
    record {
      parts = λ set w. rw (parts-number set w) (parts-decides set w);
      verdict = λ set bound ws. rw (verdict-number set bound ws) (verdict-decides set bound ws);
      form = form-decides k;
      deal = deal_refuses k;
      choose = choose_refuses k;
      seed = seed-decides;
      draw = draw_refuses k;
      product = product_refuses;
      transform = transform_refuses;
      product_transformed = transformed_refuses;
      begin = begin_refuses k;
      send = send_refuses k;
      take = take_refuses k;
      answer = answer_refuses k;
    }
