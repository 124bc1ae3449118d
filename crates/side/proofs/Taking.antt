-- Take: its questions one after the other, and what its working functions leave.
use mathlib.Core.Path.{◌≡◌, refl, sym, ap, fun_ext, ◌∙◌}
use mathlib.Core.Logic.{◌≢◌}
use mathlib.Core.Bool.{Bool, true, false}
use mathlib.Core.List.{List}
use Prim.Native.Nat.{ℕ, ◌<◌}
use native.Mathlib.Decide.{dec_lt}
use native.Mathlib.Omega.{arith}
use lib.Dec.{eqb}
use lib.ListN.{length, get_or, get_or-eq_default}
use borrow.Author.Tests.{eqb-true, ne_eqb}
use Rattle.lists.specs.Answers.{ask}
use Rattle.lists.specs.Lists.{list_to, all_below, all_to}
use Rattle.lists.proofs.Lists.{length-list_from, get_d_list_to, list_to_cong}
use Rattle.lists.proofs.Questions.{passed}
use Rattle.field.specs.Field.{q}
use Rattle.settings.specs.Sizes.{key_count, openings, field_count, message_length, work_length}
use Rattle.message.specs.Message.{header_number, header_in, fields_ok, ask_form}
use Rattle.message.specs.Fields.{HeaderFits}
use Rattle.settings.specs.Settings.{params_in, terms_of}
use Rattle.slice.specs.Layout.{weights}
use Rattle.steps.specs.Work.{taken_work}
use Rattle.state.specs.declared.Side.{Side}
use Rattle.state.specs.declared.Phase.TheVariants.{Stopped}
use Rattle.state.specs.State.{take_due, in_phase, Whole}
use Rattle.state.proofs.States.{due-whole}
use Rattle.opening.specs.Opening.{due_header, opened, passes}
use Rattle.opening.proofs.Taking.{Joins, opened-is}
use Rattle.side.specs.Side.{after, take_no, opened_list, taken_side, take_call}
use Rattle.side.specs.Work.{take_door, front_of}

-- ---- The questions

pub whole-fits : (s : Side) → Whole s → HeaderFits (due_header s)
whole-fits s h = record { sender_fits = omega arith; settings_fit = h.ready; round_fits = omega (arith, h.round_most) }

-- a no at the door is the no of the chain, and is not 13; behind the door the rest decides
abbrev doors : (a b c d e f : Bool) → ℕ → ℕ
doors a b c d e f rest = ask a 8 (ask b 5 (ask c 6 (ask d 10 (ask e 11 (ask f 12 rest)))))

door_stop : (a b c d e f : Bool) (rest : ℕ) → doors a b c d e f 0 ≢ 0 → (doors a b c d e f rest ≡ doors a b c d e f 0) × (eqb (doors a b c d e f 0) 13 ≡ false)
unfolding ask
door_stop false b c d e f rest h = (refl, refl)
door_stop true false c d e f rest h = (refl, refl)
door_stop true true false d e f rest h = (refl, refl)
door_stop true true true false e f rest h = (refl, refl)
door_stop true true true true false f rest h = (refl, refl)
door_stop true true true true true false rest h = (refl, refl)
door_stop true true true true true true rest h = absurd (h refl)

door_pass : (a b c d e f : Bool) (rest : ℕ) → doors a b c d e f 0 ≡ 0 → doors a b c d e f rest ≡ rest
unfolding ask
door_pass false b c d e f rest h = absurd (omega arith)
door_pass true false c d e f rest h = absurd (omega arith)
door_pass true true false d e f rest h = absurd (omega arith)
door_pass true true true false e f rest h = absurd (omega arith)
door_pass true true true true false f rest h = absurd (omega arith)
door_pass true true true true true false rest h = absurd (omega arith)
door_pass true true true true true true rest h = refl

-- what a take that the door lets through knows
pub record TakeReady (k : ℕ) (s : Side) (work msg : List ℕ) : Type 0 where
  pub fields : Whole s
  pub work_long : length work ≡ work_length k
  pub work-below : all_below q work ≡ true
  pub message_long : length msg ≡ message_length k (params_in s.settings) s.round

module _ (k : ℕ) (s : Side) (work msg : List ℕ) where
  abbrev long : Bool
  long = eqb (length msg) (message_length k (params_in s.settings) s.round)

  abbrev mine : Bool
  mine = eqb (header_in (field_count k (params_in s.settings) s.round) msg) (header_number (due_header s))

  abbrev fields : Bool
  fields = fields_ok (field_count k (params_in s.settings) s.round) msg

  abbrev checks : Bool
  checks = all_to (openings (params_in s.settings) s.round) (passes k s work msg)

  no_stop : take_door k s work msg ≢ 0 → (take_no k s work msg ≡ take_door k s work msg) × (eqb (take_door k s work msg) 13 ≡ false)
  unfolding take_door take_no ask_form
  no_stop h = door_stop (take_due s) (eqb (length work) (work_length k)) (all_below q work) long mine fields (ask checks 13 0) h

  no_pass : take_door k s work msg ≡ 0 → take_no k s work msg ≡ ask checks 13 0
  unfolding take_door take_no ask_form
  no_pass h = door_pass (take_due s) (eqb (length work) (work_length k)) (all_below q work) long mine fields (ask checks 13 0) h

  pub take-ready : take_door k s work msg ≡ 0 → TakeReady k s work msg
  unfolding take_door ask_form
  take-ready e =
      let eight = passed (take_due s) 7 _ e in
      let five = passed (eqb (length work) (work_length k)) 4 _ eight.1 in
      let six = passed (all_below q work) 5 _ five.1 in
      let ten = passed long 9 _ six.1 in
      record { fields = due-whole s eight.0; work_long = eqb-true _ _ five.0; work-below = six.0; message_long = eqb-true _ _ ten.0 }

  -- the three ends of take
  pub take-refused : (r : ℕ) → r ≡ take_door k s work msg → r ≢ 0 → after r s work ≡ take_call k s work msg
  unfolding take_call
  take-refused r e h =
      let stops = no_stop (λ z. h (e ∙ z)) in
      rw (stops.0, stops.1, ← e, ne_eqb r 0 h)

  pub take-stopped : take_door k s work msg ≡ 0 → checks ≡ false → after 13 (in_phase s Stopped) work ≡ take_call k s work msg
  unfolding take_call ask
  take-stopped e f = rw (no_pass e, f)

  pub take_done : take_door k s work msg ≡ 0 → checks ≡ true → after 0 (taken_side s (opened_list k s work msg))
      (taken_work (terms_of s.settings) s.round (λ (o : ℕ). get_or (opened_list k s work msg) o 0) (weights k s.number s.keys) work)
      ≡ take_call k s work msg
  unfolding take_call ask
  take_done e f = rw (no_pass e, f)

-- ---- The opened numbers

module _ {s : Side} {work own msg fields numbers : List ℕ} (j : Joins s work own msg fields numbers) where
  abbrev count : ℕ
  count = openings (params_in s.settings) s.round

  opened-at : (o : ℕ) → get_or numbers o 0 ≡ get_or (opened_list key_count s work msg) o 0
  unfolding opened_list
  opened-at o = go (dec_lt o count)
    where
      go : Dec (o < count) → get_or numbers o 0 ≡ get_or (list_to count (opened key_count s work msg)) o 0
      go (yes h) = opened-is j o h ∙ sym (get_d_list_to count (opened key_count s work msg) o 0 h)
      go (no h) =
          j.behind o (omega arith)
          ∙ sym (get_or-eq_default (list_to count (opened key_count s work msg)) 0 (omega (arith, length-list_from 0 count (opened key_count s work msg))))

  pub front_same : front_of s numbers ≡ opened_list key_count s work msg
  unfolding opened_list
  front_same = list_to_cong count _ _ (opened-is j)

  -- the slice that `take_work` leaves
  pub work-same : (ws later : List ℕ) → ws ≡ weights key_count s.number s.keys
      → later ≡ taken_work (terms_of s.settings) s.round (λ (o : ℕ). get_or numbers o 0) ws work
      → later ≡ taken_work (terms_of s.settings) s.round (λ (o : ℕ). get_or (opened_list key_count s work msg) o 0) (weights key_count s.number s.keys) work
  work-same ws later g p =
      rw g at p
      ∙ ap (λ (h : ℕ → ℕ). taken_work (terms_of s.settings) s.round h (weights key_count s.number s.keys) work) (fun_ext opened-at)
