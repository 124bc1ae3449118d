-- What a call leaves, refused or not.
use Prim.Native.Nat.{ℕ}
use mathlib.Core.Path.{◌≡◌, refl}
use mathlib.Core.Logic.{◌≢◌}
use mathlib.Core.Bool.{Bool, true, false, cond, not, ◌&&◌, ◌||◌}
use mathlib.Core.List.{List}
use native.Mathlib.Omega.{arith}
use lib.Dec.{eqb, leb}
use borrow.Author.Tests.{eqb-true}
use Rattle.lists.specs.Answers.{ask}
use Rattle.lists.proofs.Questions.{passed, both_yes}
use Rattle.settings.specs.Questions.{ask_settings, keys_ok}
use Rattle.settings.specs.Schedule.{goes_on, round_after, sends_after, round_ok}
use Rattle.settings.proofs.Schedule.{round_ok_lem}
use Rattle.settings.proofs.Ready.{settings-pass, settings_rest}
use Rattle.state.specs.declared.Side.{Side}
use Rattle.state.specs.declared.Phase.{Phase}
use Rattle.state.specs.declared.Phase.TheVariants.{Sending, Taking, Stopped, Finished}
use Rattle.state.specs.State.{is_sending, is_taking, is_finished, whole, send_due, take_due, under_way, finished, in_phase, phase_after, at_step}
use Rattle.refusals.specs.Questions.{Question}
use Rattle.refusals.specs.Demands.{Decides, Refuses, RefusesSide, stopped}

-- ---- By its refusal number

module _ (questions : List Question) (unchanged : Type 0) where
  -- a call whose first no is 0 is not refused
  accepted : (refusal : ℕ) → eqb refusal 0 ≡ true → Decides questions refusal → Decides questions 0
  accepted refusal e d = rw (eqb-true refusal 0 e) at d

  pub went : (refusal : ℕ) → eqb refusal 0 ≡ true → Decides questions refusal → Refuses questions 0 unchanged
  went refusal e d = record { decides = accepted refusal e d; changes_nothing = λ h. absurd (h refl) }

  pub refused : (refusal : ℕ) → Decides questions refusal → unchanged → Refuses questions refusal unchanged
  refused refusal d u = record { decides = d; changes_nothing = λ h. u }

  pub went_on : (refusal : ℕ) (before after : Side) → eqb refusal 0 ≡ true → Decides questions refusal → stopped after ≡ false
      → RefusesSide questions 0 before after unchanged
  went_on refusal before after z d e =
      record {
        decides = accepted refusal z d;
        changes_nothing = λ h. absurd (h refl);
        keeps_side = λ h. absurd (h refl);
        thirteen_stops = λ z. absurd (omega (arith, z));
        goes_on = λ z. e;
      }

  pub kept : (refusal : ℕ) (side : Side) → refusal ≢ 0 → refusal ≢ 13 → Decides questions refusal → unchanged
      → RefusesSide questions refusal side side unchanged
  kept refusal side zero thirteen d u =
      record {
        decides = d;
        changes_nothing = λ h. u;
        keeps_side = λ h l. refl;
        thirteen_stops = λ z. absurd (thirteen z);
        goes_on = λ z. absurd (zero z);
      }

  pub stops : (refusal : ℕ) (side : Side) → eqb refusal 13 ≡ true → Decides questions refusal → unchanged
      → RefusesSide questions 13 side (in_phase side Stopped) unchanged
  stops refusal side e d u =
      record {
        decides = rw (eqb-true refusal 13 e) at d;
        changes_nothing = λ h. u;
        keeps_side = λ h l. absurd (l refl);
        thirteen_stops = λ z. refl;
        goes_on = λ z. absurd (omega (arith, z));
      }

-- ---- A side that goes on is not stopped

-- fields that are whole stay so at another step
abbrev rest_ok : Side → ℕ → Bool
rest_ok s round = leb 1 s.serial && round_ok round

whole-at : (s : Side) (m : ℕ) (answer : List ℕ) → whole s ≡ true → whole (at_step s m answer) ≡ true
unfolding whole ask
whole-at s m answer e =
    let rest : ℕ = ask (keys_ok s.keys) 4 (ask (rest_ok s s.round) 8 0) in
    let all : ask_settings s.number s.settings rest ≡ 0 = eqb-true _ 0 e in
    let none : rest ≡ 0 = settings_rest s.number s.settings rest all in
    let four = passed (keys_ok s.keys) 3 _ none in
    let eight = passed (rest_ok s s.round) 7 0 four.1 in
    let serial : leb 1 s.serial ≡ true = (both_yes (leb 1 s.serial) (round_ok s.round) eight.0).0 in
    rw (settings-pass s.number s.settings (ask (keys_ok s.keys) 4 (ask (rest_ok s (round_after m)) 8 0)) (rw none at all), four.0, serial, round_ok_lem m)

pub not_stopped : (s : Side) (m : ℕ) (answer : List ℕ) → whole s ≡ true → stopped (at_step s m answer) ≡ false
unfolding under_way send_due take_due finished phase_after
not_stopped s m answer e = rw (whole-at s m answer e) (by (goes_on m) (sends_after s.number m))
  where
    by : (a b : Bool) → let p : Phase = cond a (cond b Sending Taking) Finished in not ((is_sending p || is_taking p) || is_finished p) ≡ false
    by true true = refl
    by true false = refl
    by false b = refl

pub done-runs : (s : Side) → finished s ≡ true → stopped s ≡ false
done-runs s e = rw e (by (under_way s))
  where
    by : (b : Bool) → not (b || true) ≡ false
    by true = refl
    by false = refl
