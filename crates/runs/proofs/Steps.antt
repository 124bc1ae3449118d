-- One call at one side, from any count; then any list of calls at both.
use Prim.Native.Nat.{ℕ, zero, suc, ◌*◌, ◌≤◌, ◌<◌}
use mathlib.Core.Path.{◌≡◌, refl}
use mathlib.Core.List.{List, []}
use mathlib.Core.Bool.{Bool, true, false, cond, ◌&&◌, ◌||◌}
use native.Mathlib.Omega.{arith}
use lib.ListN.{length}
use lib.Dec.{eqb, ltb}
use borrow.Author.Tests.{eq-eqb, ne_eqb, lt-ltb, le-ltb, ltb-true, ltb-false}
use Rattle.lists.specs.Answers.{ask}
use Rattle.lists.specs.Lists.{all_below}
use Rattle.field.specs.Field.{q}
use Rattle.settings.specs.Sizes.{width_of, shared, work_length}
use Rattle.settings.specs.Questions.{ask_shape, ask_settings}
use Rattle.settings.specs.Schedule.{rounds, steps, taken_by, send_step, take_step}
use Rattle.state.specs.State.{under_way, send_due, take_due}
use Rattle.side.specs.Side.{handed_no, begin_no}
use Rattle.settings.specs.declared.Settings.{Settings}
use Rattle.settings.specs.Settings.{params_in}
use Rattle.runs.specs.Records.{PartyInput, PartyState, Call, outcome}
use Rattle.runs.specs.Records.Call.{begin, send, take_latest, answer, count}
use Rattle.runs.specs.Demands.{Idle}
use Rattle.runs.specs.Progress.{taken_of, onward, room_for, next, party_from}
use Rattle.runs.proofs.Doors.{Leaves, begin_go, send-not, take-not, begin_no_at}
use Rattle.runs.proofs.PartyStates.{Which, Stage, begun, stage, which_below}
use Rattle.runs.proofs.PartyStates.Stage.{sending, taking, ended}
use Rattle.runs.proofs.Stages.{Kept, Heard, late, begins, sends, sends_not_taking, sends_not_ended, takes, takes_late, takes_empty, takes_not_sending, takes_not_ended}
use Rattle.runs.proofs.Counts.{next-send, next_send_not, next-take, next_take_not, next_end_send, next_end_take}

-- no run under way: neither step is due
pub idle_send : (x : PartyState) → under_way x.side ≡ false → send_due x.side ≡ false
unfolding under_way
idle_send x e = or_left _ _ e
  where
    or_left : (a b : Bool) → (a || b) ≡ false → a ≡ false
    or_left false b e = refl
    or_left true b e = e

pub idle_take : (x : PartyState) → under_way x.side ≡ false → take_due x.side ≡ false
unfolding under_way
idle_take x e = or_right (send_due x.side) _ e
  where
    or_right : (a b : Bool) → (a || b) ≡ false → b ≡ false
    or_right false b e = e
    or_right true false e = refl
    or_right true true e = e

-- the latest of so many messages
abbrev pub latest_of : (ℕ → List ℕ) → ℕ → List ℕ
latest_of message-of sends = cond (eqb sends 0) [] (message-of sends)

-- a count that moves is greater
went : (d : Bool) (c : ℕ) → ltb c (onward d c) ≡ d
went true c = lt-ltb c (suc c) (omega arith)
went false c = le-ltb c c (omega arith)

-- what its begin is handed passes
pub record Handed (k : ℕ) (s : Settings) (h : PartyInput) : Type 0 where
  pub inputs-exact : eqb (length h.inputs) (s.shape.n * width_of k) ≡ true
  pub book-exact : eqb (length h.book) (shared (params_in s) * width_of k) ≡ true
  pub low : (all_below q h.inputs && all_below q h.book) ≡ true

module _ (k : ℕ) (s : Settings) (serial : ℕ) (numbers : ℕ → List ℕ) (h : PartyInput) where
  module _ (u : Which h) (v : Kept k s serial numbers h) (f : Handed k s h) (x : PartyState) (i : Idle k serial x) where
    begin_in : eqb (begin_no_at k s serial h x) 0 ≡ true
    unfolding begin_no handed_no ask_settings ask_shape ask
    begin_in =
        let a = eq-eqb (length x.work) (work_length k) i.exact in
        let b = lt-ltb x.side.serial serial i.last in
        rw (i.none, v.terms.number_bit, v.terms.bits, v.terms.count, v.terms.bound, v.terms.keys_ok_lem, f.inputs-exact, f.book-exact, a, f.low, b)
        refl

    module _ (message-of : ℕ → List ℕ) (z : Heard k s serial numbers h message-of) where
      -- a call from count c, so many messages having come, moves the count or not
      abbrev Moves : (c heard : ℕ) → Call → Bool → Type 0
      Moves c heard call d =
          Leaves (outcome k s serial h (latest_of message-of heard) (party_from k s serial numbers h x c) call) (party_from k s serial numbers h x (onward d c)) d

      abbrev pub goes : (c heard : ℕ) → Call → Type 0
      goes c heard call =
          Leaves (outcome k s serial h (latest_of message-of heard) (party_from k s serial numbers h x c) call) (party_from k s serial numbers h x (next k s h.number heard call c))
          (ltb c (next k s h.number heard call c))

      goes_by : (c heard : ℕ) (call : Call) (d : Bool) → next k s h.number heard call c ≡ onward d c → Moves c heard call d → goes c heard call
      goes_by c heard call d e r = rw (e, went d c) r

      send_by : (R heard : ℕ) → R < rounds → (out : List ℕ) (d : Bool) → room_for k s (suc R) (length out) ≡ d → Moves (suc (send_step h.number R)) heard (send out) d
      send_by R heard r out true e = sends k s serial numbers h u v (latest_of message-of heard) R r out true e
      send_by R heard r out false e = sends k s serial numbers h u v (latest_of message-of heard) R r out false e

      send-step : (m heard : ℕ) (out : List ℕ) → Stage h.number m → goes (suc m) heard (send out)
      send-step _ heard out (sending {R} r) =
          goes_by _ heard (send out) (room_for k s (suc R) (length out)) (next-send k s h.number heard (which_below h u) R r out) (send_by R heard r out _ refl)
      send-step _ heard out (taking {R} r) =
          goes_by _ heard (send out) false (next_send_not k s h.number heard (which_below h u) R r out) (sends_not_taking k s serial numbers h u v (latest_of message-of heard) R r out)
      send-step _ heard out ended =
          goes_by _ heard (send out) false (next_end_send k s h.number heard (which_below h u) out) (sends_not_ended k s serial numbers h u v (latest_of message-of heard) out)

      late_by : (R : ℕ) → R < rounds → Moves (suc (take_step h.number R)) R take_latest false
      late_by zero r = takes_empty k s serial numbers h u v zero r
      late_by (suc R) r =
          rw (ne_eqb (suc R) 0 (λ e. omega arith))
          (takes_late k s serial numbers h u v (suc R) r (message-of (suc R)) (late k s serial numbers h message-of z R (omega arith)))

      take_by : (R heard : ℕ) → R < rounds → R ≤ heard → heard ≤ suc R → (d : Bool) → ltb R heard ≡ d → Moves (suc (take_step h.number R)) heard take_latest d
      take_by R heard r a b true e =
          let eq : heard ≡ suc R = omega (arith, ltb-true R heard e) in
          rw (eq, ne_eqb (suc R) 0 (λ e. omega arith)) (takes k s serial numbers h u v message-of z R r)
      take_by R heard r a b false e =
          let eq : heard ≡ R = omega (arith, ltb-false R heard e) in
          rw eq (late_by R r)

      take_step_lem : (m heard : ℕ) → taken_by h.number m ≤ heard → heard ≤ suc (taken_by h.number m) → Stage h.number m → goes (suc m) heard take_latest
      take_step_lem _ heard a b (sending {R} r) =
          goes_by _ heard take_latest false (next_take_not k s h.number heard (which_below h u) R r) (takes_not_sending k s serial numbers h u v (latest_of message-of heard) R r)
      take_step_lem _ heard a b (taking {R} r) =
          goes_by _ heard take_latest (ltb R heard) (next-take k s h.number heard (which_below h u) R r)
          (take_by R heard r (omega (arith, which_below h u)) (omega (arith, which_below h u)) _ refl)
      take_step_lem _ heard a b ended =
          goes_by _ heard take_latest false (next_end_take k s h.number heard (which_below h u)) (takes_not_ended k s serial numbers h u v (latest_of message-of heard))

      pub one_call : (c heard : ℕ) → c ≤ suc steps → taken_of h.number c ≤ heard → heard ≤ suc (taken_of h.number c) → (call : Call) → goes c heard call
      unfolding next outcome
      one_call zero heard l a b begin =
          goes_by 0 heard begin true refl (rw (begun k s serial numbers h x u i.silent) at (begin_go k s serial h (latest_of message-of heard) x begin_in))
      one_call (suc m) heard l a b begin = goes_by (suc m) heard begin false refl (begins k s serial numbers h u v (latest_of message-of heard) m)
      one_call zero heard l a b (send out) = goes_by 0 heard (send out) false refl (send-not k s serial h (latest_of message-of heard) x out (idle_send x i.none))
      one_call (suc m) heard l a b (send out) = send-step m heard out (stage h.number m (which_below h u) (omega arith))
      one_call zero heard l a b take_latest = goes_by 0 heard take_latest false refl (take-not k s serial h (latest_of message-of heard) x (idle_take x i.none))
      one_call (suc m) heard l a b take_latest = take_step_lem m heard a b (stage h.number m (which_below h u) (omega arith))
      one_call c heard l a b (answer out) = goes_by c heard (answer out) false refl (record { state-is = refl; went_is = refl })
      one_call c heard l a b count = goes_by c heard count false refl (record { state-is = refl; went_is = refl })
