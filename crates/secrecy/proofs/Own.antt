-- A side's own party state at its count depends on its input and on the numbers that the rounds open, and on nothing else.
use mathlib.Core.Path.{◌≡◌, refl}
use mathlib.Core.List.{List}
use Prim.Native.Nat.{ℕ, zero, suc, ◌-◌, ◌≤◌, ◌<◌}
use native.Mathlib.Omega.{arith}
use Rattle.settings.specs.Schedule.{rounds, steps, taken_by, sent_by, send_step}
use Rattle.settings.specs.declared.Settings.{Settings}
use Rattle.runs.specs.Records.{PartyInput, PartyState}
use Rattle.runs.specs.Progress.{work_at, side_at, message_at, party_at, party_from}

-- two runs that open the same numbers
abbrev pub SameNumbers : (ℕ → List ℕ) → (ℕ → List ℕ) → Type 0
SameNumbers N N' = (r : ℕ) → r < rounds → N r ≡ N' r

module _ (k : ℕ) (s : Settings) (serial : ℕ) (N N' : ℕ → List ℕ) (same : SameNumbers N N') (h : PartyInput) where
  pub work-same : (R : ℕ) → R ≤ rounds → work_at k s serial N h R ≡ work_at k s serial N' h R
  unfolding work_at
  work-same zero l = refl
  work-same (suc R) l = rw (same R (omega arith), work-same R (omega arith))

  side_same : (m : ℕ) → side_at k s serial N h m ≡ side_at k s serial N' h m
  unfolding side_at
  side_same m = rw (same (rounds - 1) (omega arith))

  message-same : h.number < 2 → (round : ℕ) → round ≤ rounds → message_at k s serial N h round ≡ message_at k s serial N' h round
  unfolding message_at
  message-same u round l =
      let m : ℕ = send_step h.number (round - 1) in
      rw (side_same m, work-same (taken_by h.number m) (omega arith))

  pub state-same : h.number < 2 → (m : ℕ) → m ≤ steps → party_at k s serial N h m ≡ party_at k s serial N' h m
  unfolding party_at
  state-same u m l = rw (side_same m, work-same (taken_by h.number m) (omega arith), message-same u (sent_by h.number m) (omega arith))

  -- before it begins, a side is as it started
  pub own_same : h.number < 2 → (x : PartyState) (c : ℕ) → c ≤ suc steps → party_from k s serial N h x c ≡ party_from k s serial N' h x c
  own_same u x zero l = refl
  own_same u x (suc m) l = state-same u m (omega arith)
