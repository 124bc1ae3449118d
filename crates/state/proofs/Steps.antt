-- A side after so many steps.
use Prim.Native.Nat.{ℕ, ◌+◌, ◌/◌, ◌%◌, ◌≤◌, ◌<◌}
use mathlib.Core.Path.{◌≡◌, refl}
use mathlib.Core.Bool.{Bool, true, false, cond}
use mathlib.Core.List.{List}
use native.Mathlib.Omega.{arith}
use native.Mathlib.Decide.{dec_lt}
use borrow.Author.Tests.{eqb-true, eqb-false, lt-ltb, le-ltb}
use Rattle.settings.specs.Schedule.{rounds, steps, round_after, sends_after, send_step, take_step, steps_in}
use Rattle.settings.proofs.Schedule.{send_on, take_on, send_sends, take_takes}
use Rattle.state.specs.declared.Side.{Side}
use Rattle.state.specs.declared.Phase.{Phase}
use Rattle.state.specs.declared.Phase.TheVariants.{Sending, Taking, Finished}
use Rattle.state.specs.State.{is_sending, is_finished, step_of, phase_after, at_step}

module _ (number R : ℕ) (u : number < 2) (l : R < rounds) where
  pub phase_sending : phase_after number (send_step number R) ≡ Sending
  unfolding phase_after
  phase_sending = rw (send_on number R u l, send_sends number R u l)

  pub phase_taking : phase_after number (take_step number R) ≡ Taking
  unfolding phase_after
  phase_taking = rw (take_on number R u l, take_takes number R u l)

pub phase_ended : (number : ℕ) → phase_after number steps ≡ Finished
unfolding phase_after
phase_ended number = refl

-- the steps are read off the side
pub step-at : (s : Side) (m : ℕ) (answer : List ℕ) → s.number < 2 → m ≤ steps → step_of (at_step s m answer) ≡ m
unfolding step_of phase_after round_after
step-at s m answer u l = by (dec_lt m steps)
  where
    before : (b : Bool) → sends_after s.number m ≡ b → m < steps
        → let p : Phase = cond b Sending Taking in cond (is_finished p) steps (steps_in s.number (m / 2 + 1) (is_sending p)) ≡ m
    before true e a = omega (arith, eqb-true (m % 2) s.number e)
    before false e a = omega (arith, eqb-false (m % 2) s.number e)

    by : Dec (m < steps) → step_of (at_step s m answer) ≡ m
    by (yes a) = rw (lt-ltb m steps a) (before (sends_after s.number m) refl a)
    by (no a) = rw (le-ltb m steps (omega arith)) (omega arith)
