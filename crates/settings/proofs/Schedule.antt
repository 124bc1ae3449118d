-- The order of a run, by arithmetic.
use Prim.Native.Nat.{ℕ, suc, ◌+◌, ◌/◌, ◌%◌, ◌<◌}
use mathlib.Core.Path.{◌≡◌, refl}
use mathlib.Core.Bool.{true, false, cond}
use native.Mathlib.Omega.{arith}
use native.Mathlib.Decide.{dec_lt}
use borrow.Author.Tests.{eq-eqb, ne_eqb, le-leb, lt-ltb, le-ltb}
use Rattle.settings.specs.Schedule.{rounds, steps, round_ok, goes_on, round_after, sends_after, send_step, take_step}

-- a side stands in one of the rounds
pub round_ok_lem : (m : ℕ) → round_ok (round_after m) ≡ true
unfolding round_after
round_ok_lem m = by (dec_lt m steps)
  where
    by : Dec (m < steps) → round_ok (cond (goes_on m) (m / 2 + 1) rounds) ≡ true
    by (yes l) = rw (lt-ltb m steps l, le-leb 1 (m / 2 + 1) (omega arith)) (le-leb (m / 2 + 1) rounds (omega arith))
    by (no l) = rw (le-ltb m steps (omega arith)) refl

-- a step of round R + 1
module _ (number R : ℕ) (u : number < 2) (l : R < rounds) where
  pub send_on : goes_on (send_step number R) ≡ true
  send_on = lt-ltb (send_step number R) steps (omega arith)

  pub take_on : goes_on (take_step number R) ≡ true
  take_on = lt-ltb (take_step number R) steps (omega arith)

  pub send_sends : sends_after number (send_step number R) ≡ true
  send_sends = eq-eqb (send_step number R % 2) number (omega arith)

  pub take_takes : sends_after number (take_step number R) ≡ false
  take_takes = ne_eqb (take_step number R % 2) number (λ e. omega (arith, e))

  pub send-round : round_after (send_step number R) ≡ suc R
  unfolding round_after
  send-round = rw send_on (omega arith)

  pub take-round : round_after (take_step number R) ≡ suc R
  unfolding round_after
  take-round = rw take_on (omega arith)
