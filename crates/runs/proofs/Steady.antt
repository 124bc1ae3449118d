-- Demand 2, the second part: at every point of every list of calls a begun run goes on, finishes in time and counts by its rounds.
use Prim.Native.Nat.{ℕ, zero, suc, ◌≤◌, ◌<◌}
use mathlib.Core.Path.{◌≡◌, refl, sym, ap, ◌∙◌}
use mathlib.Core.List.{List}
use mathlib.Core.Bool.{Bool, true, false, cond, ◌&&◌, ◌||◌, true≢false}
use native.Mathlib.Omega.{arith}
use native.Mathlib.Decide.{dec_lt}
use lib.Dec.{eqb}
use borrow.Author.Tests.{eq-eqb, ne_eqb, eqb-true, lt-ltb, le-ltb}
use Rattle.settings.specs.Sizes.{width_of, openings_up_to}
use Rattle.settings.specs.Schedule.{rounds, steps, goes_on, sends_after, taken_by, sent_by}
use Rattle.column.specs.Run.{plain_opened}
use Rattle.state.specs.declared.Phase.{Phase}
use Rattle.state.specs.declared.Phase.TheVariants.{Sending, Taking, Finished}
use Rattle.state.specs.State.{is_sending, is_taking, is_finished, send_due, take_due, under_way, finished, phase_after, rounds_taken, count_call}
use Rattle.side.specs.Side.{begun_side}
use Rattle.settings.specs.declared.Settings.{Settings}
use Rattle.settings.specs.Settings.{params_in, terms_of}
use Rattle.runs.specs.Records.{PartyInput, PartyState, Observation}
use Rattle.runs.specs.Demands.{Steady, Demand2Steady, takes_in, sends_in, began_in, observer_input, peer_input}
use Rattle.runs.specs.Progress.{side_at, party_at, party_from, none, joint_at}
use Rattle.runs.specs.Honest.{Runs}
use Rattle.runs.proofs.PartyStates.{FieldsPass, kept_whole, step_is}
use Rattle.runs.proofs.Both.{start_pace, pace_after}
use Rattle.runs.proofs.Whole.{honest-pair, progress_law}
use Rattle.runs.proofs.Tally.{Tally, tally}

-- ---- a side after m of its steps

-- a side that is begun sends, takes or is finished
phases : (a b : Bool) → let p : Phase = cond a (cond b Sending Taking) Finished in ((is_sending p || is_taking p) || is_finished p) ≡ true
phases true true = refl
phases true false = refl
phases false b = refl

not-finished : (b : Bool) → is_finished (cond b Sending Taking) ≡ false
not-finished true = refl
not-finished false = refl

-- it has taken and sent all rounds at the end, and not before
all-rounds : (number m : ℕ) → number < 2 → m < steps → (eqb (taken_by number m) rounds && eqb (sent_by number m) rounds) ≡ false
all-rounds number m u l = by (eqb (taken_by number m) rounds) refl
  where
    by : (d : Bool) → eqb (taken_by number m) rounds ≡ d → (d && eqb (sent_by number m) rounds) ≡ false
    by false e = refl
    by true e =
        let f : taken_by number m ≡ rounds = eqb-true (taken_by number m) rounds e in
        ne_eqb (sent_by number m) rounds (λ x. omega arith)

module _ (k : ℕ) (s : Settings) (serial : ℕ) (numbers : ℕ → List ℕ) (h : PartyInput) (u : h.number < 2) (t : FieldsPass s serial h) (m : ℕ) (l : m ≤ steps) where
  begun_goes : (under_way (side_at k s serial numbers h m) || finished (side_at k s serial numbers h m)) ≡ true
  unfolding under_way send_due take_due finished side_at begun_side phase_after
  begun_goes = rw (kept_whole k s serial numbers h t m) (phases (goes_on m) (sends_after h.number m))

  pub finished-at : finished (side_at k s serial numbers h m) ≡ (eqb (taken_by h.number m) rounds && eqb (sent_by h.number m) rounds)
  unfolding finished side_at begun_side phase_after
  finished-at = rw (kept_whole k s serial numbers h t m) (by (dec_lt m steps))
    where
      by : Dec (m < steps) → is_finished (phase_after h.number m) ≡ (eqb (taken_by h.number m) rounds && eqb (sent_by h.number m) rounds)
      by (yes a) = rw (lt-ltb m steps a, all-rounds h.number m u a) (not-finished (sends_after h.number m))
      by (no a) =
          rw (le-ltb m steps (omega arith), eq-eqb (taken_by h.number m) rounds (omega arith))
          (sym (eq-eqb (sent_by h.number m) rounds (omega arith)))

  rounds-at : rounds_taken (side_at k s serial numbers h m) ≡ taken_by h.number m
  unfolding rounds_taken side_at begun_side
  rounds-at = ap (taken_by h.number) (step_is k s serial numbers h u m l)

  pub count_at : count_call (side_at k s serial numbers h m) ≡ openings_up_to (params_in s) (taken_by h.number m)
  unfolding count_call side_at begun_side
  count_at = rw (kept_whole k s serial numbers h t m, rounds-at)

  -- with a log of so many takes and sends
  steady_at : (log : List Observation) → takes_in log ≡ taken_by h.number m → sends_in log ≡ sent_by h.number m → Steady s log (party_at k s serial numbers h m)
  unfolding party_at
  steady_at log e f = record { goes_on = begun_goes; in-time = rw (e, f) finished-at; by_rounds = rw e count_at }

-- a run that has begun has a count above 0
steady_from : (k : ℕ) (s : Settings) (serial : ℕ) (numbers : ℕ → List ℕ) (h : PartyInput) → h.number < 2 → FieldsPass s serial h → (x : PartyState) (log : List Observation) (c : ℕ)
    → c ≤ suc steps → Tally h.number log 0 c → began_in log ≡ true → Steady s log (party_from k s serial numbers h x c)
steady_from k s serial numbers h u t x log zero l a b = absurd (true≢false (sym b ∙ or_false (began_in log) a.begun))
  where
    or_false : (b : Bool) → (b || false) ≡ false → b ≡ false
    or_false true e = e
    or_false false e = refl
steady_from k s serial numbers h u t x log (suc m) l a b =
    steady_at k s serial numbers h u t m (omega arith) log (omega (arith, a.took)) (omega (arith, a.sent))

-- after any list of calls, at either side
pub steady : (k : ℕ) → Runs k → Demand2Steady k
unfolding joint_at
steady k runs s serial keys0 keys1 f number l secret inputs draw x y d w i calls b =
    let h : PartyInput = observer_input k s number keys0 keys1 inputs draw in
    let o : PartyInput = peer_input k s number keys0 keys1 inputs secret draw in
    let numbers : ℕ → List ℕ = plain_opened (terms_of s) (width_of k) draw secret in
    let z = honest-pair k runs s serial keys0 keys1 f number l secret inputs draw x y d in
    rw (progress_law k runs s serial keys0 keys1 f number l secret inputs draw x y d w i calls)
    (steady_from k s serial numbers h l z.0.kept.terms w.observer _ _
    (pace_after k s number l calls none (start_pace number)).own-most
    (tally k s serial numbers h o refl z.0 z.1 w i calls none (start_pace number)) b)
