-- When the kept fields are whole, and what then holds of them.
use mathlib.Core.Path.{◌≡◌, refl}
use mathlib.Core.Logic.{◌≢◌}
use mathlib.Core.Bool.{Bool, true, false, cond, ◌&&◌}
use mathlib.Core.List.{List, ◌++◌}
use Prim.Native.Nat.{ℕ, zero, suc, ◌≤◌}
use native.Mathlib.Omega.{arith}
use lib.Dec.{leb, eqb}
use lib.ListN.{length, get_or, take, drop}
use Rattle.lists.specs.Lists.{list_to, in_front}
use Rattle.lists.proofs.Lists.{front-taken, length-list_from}
use borrow.Author.Tests.{ne_eqb, eqb-true, leb-true}
use Rattle.lists.specs.Answers.{ask}
use Rattle.lists.proofs.Questions.{passed, both_yes}
use Rattle.settings.specs.Questions.{ask_settings, keys_ok}
use Rattle.settings.proofs.Sizes.{answer-most}
use Rattle.settings.specs.Settings.{params_in}
use Rattle.settings.proofs.Ready.{settings-ready, settings-pass, settings_refuse, settings_rest}
use Rattle.settings.specs.Schedule.{rounds, steps, round_ok, steps_in}
use Rattle.state.specs.declared.Side.{Side}
use Rattle.state.specs.State.{is_sending, is_taking, is_finished, whole, send_due, take_due, finished, Whole, step_of, places_of, in_range, answer_no}

-- questions 1 to 3 of the kept settings
abbrev pub kept_no : Side → ℕ
kept_no s = ask_settings s.number s.settings 0

asked : (n m : ℕ) (k b c d : Bool) → (n ≡ 0 → m ≡ ask k 4 (ask (b && (c && d)) 8 0)) → (n ≢ 0 → m ≡ n) → eqb m 0 ≡ (eqb n 0 && k && b && c && d)
unfolding ask
asked zero m true true true true p r = rw (p refl)
asked zero m true true true false p r = rw (p refl)
asked zero m true true false d p r = rw (p refl)
asked zero m true false c d p r = rw (p refl)
asked zero m false b c d p r = rw (p refl)
asked (suc n) m k b c d p r = let some : suc n ≢ 0 = λ z. omega arith in rw (r some, ne_eqb (suc n) 0 some)

module _ (s : Side) where
  -- the kept fields behind the settings
  abbrev rest_ok : Bool
  rest_ok = leb 1 s.serial && round_ok s.round

  -- the kept fields one after the other
  pub whole_is : whole s ≡ (eqb (kept_no s) 0 && keys_ok s.keys && leb 1 s.serial && leb 1 s.round && leb s.round rounds)
  unfolding whole
  whole_is =
      let rest = ask (keys_ok s.keys) 4 (ask rest_ok 8 0) in
      asked (kept_no s) _ (keys_ok s.keys) (leb 1 s.serial) (leb 1 s.round) (leb s.round rounds)
      (λ z. settings-pass s.number s.settings rest z) (λ n. settings_refuse s.number s.settings rest n)

pub whole_fields : (s : Side) → whole s ≡ true → Whole s
unfolding whole
whole_fields s e =
    let rest : ℕ = ask (keys_ok s.keys) 4 (ask (rest_ok s) 8 0) in
    let all : ask_settings s.number s.settings rest ≡ 0 = eqb-true _ 0 e in
    let four = passed (keys_ok s.keys) 3 (ask (rest_ok s) 8 0) (settings_rest s.number s.settings rest all) in
    let eight = passed (rest_ok s) 7 0 four.1 in
    let begun = both_yes (leb 1 s.serial) (round_ok s.round) eight.0 in
    let round = both_yes (leb 1 s.round) (leb s.round rounds) begun.1 in
    let ready = settings-ready s.number s.settings rest all in
    record {
      side2 = ready.0;
      ready = ready.1;
      keys = four.0;
      begun = leb-true 1 s.serial begun.0;
      round_some = leb-true 1 s.round round.0;
      round_most = leb-true s.round rounds round.1;
    }

-- a side makes its steps and no more
pub step-most : (s : Side) → Whole s → step_of s ≤ steps
unfolding step_of
step-most s w = by (is_finished s.phase) (is_sending s.phase)
  where
    by : (a b : Bool) → cond a steps (steps_in s.number s.round b) ≤ steps
    by true b = omega arith
    by false true = omega (arith, w.side2)
    by false false = omega arith

-- a side whose call is due, or whose run is finished
pub send-whole : (s : Side) → send_due s ≡ true → Whole s
unfolding send_due
send-whole s e = whole_fields s (both_yes (whole s) (is_sending s.phase) e).0

pub due-whole : (s : Side) → take_due s ≡ true → Whole s
unfolding take_due
due-whole s e = whole_fields s (both_yes (whole s) (is_taking s.phase) e).0

pub finished-whole : (s : Side) → finished s ≡ true → Whole s
unfolding finished
finished-whole s e = whole_fields s (both_yes (whole s) (is_finished s.phase) e).0

-- an answer has room in the kept fields
pub places-most : (s : Side) → Whole s → places_of s ≤ 8
places-most s w = answer-most (params_in s.settings) w.ready.shape.most

-- what an answer that is not refused knows
pub answer-ready : (s : Side) (out : List ℕ) → answer_no s out ≡ 0 → (places_of s ≤ 8) × (places_of s ≤ length out)
unfolding answer_no
answer-ready s out e =
    let eight = passed (finished s) 7 _ e in
    let fifteen = passed (in_range s) 14 _ eight.1 in
    let nine = passed (leb (places_of s) (length out)) 8 0 fifteen.1 in
    (places-most s (finished-whole s eight.0), leb-true (places_of s) (length out) nine.0)

-- the first n numbers of a list, copied in front of another
pub front_written : (held t out : List ℕ) (n m : ℕ) → n ≡ m → n ≤ length held → t ≡ take n held → t ++ drop n out ≡ in_front (list_to m (λ (j : ℕ). get_or held j 0)) out
front_written held t out n m count room front =
    let at : ℕ → ℕ = λ j. get_or held j 0 in
    rw (front, front-taken n held room, ← count, length-list_from 0 n at)
