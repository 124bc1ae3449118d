-- Any list of calls at both sides leaves the joint state at its counts.
use Prim.Native.Nat.{ℕ, zero, suc, ◌-◌, ◌<◌}
use mathlib.Core.Path.{◌≡◌, refl}
use mathlib.Core.List.{List, [], ◌∷◌}
use native.Mathlib.Omega.{arith}
use lib.Dec.{ltb}
use Rattle.settings.specs.declared.Settings.{Settings}
use Rattle.runs.specs.Records.{PartyInput, PartyState, Call, Party, ScheduledCall, JointState, outcome, step, joint_after}
use Rattle.runs.specs.Records.Party.{observer, peer}
use Rattle.runs.specs.Demands.{Start}
use Rattle.runs.specs.Progress.{Counts, sent_of, next, step_counts, counts_after, party_at, party_from, joint_at}
use Rattle.runs.specs.Honest.{Meets}
use Rattle.runs.proofs.Doors.{Leaves}
use Rattle.runs.proofs.PartyStates.{Which, which_below, said, said_sized}
use Rattle.runs.proofs.Stages.{Kept, Heard}
use Rattle.runs.proofs.Counts.{Moved, next-moved, Pace, pace_moved, pace_swap, heard_most}
use Rattle.runs.proofs.Steps.{Handed, latest_of, one_call}

-- all that is used of one side of the canonical run, the other side being o
pub record HonestSide (k : ℕ) (s : Settings) (serial : ℕ) (numbers : ℕ → List ℕ) (h o : PartyInput) : Type 0 where
  pub which : Which h
  pub kept : Kept k s serial numbers h
  pub handed : Handed k s h
  pub meets : Meets k s serial numbers h (said k s serial numbers o)

module _ (k : ℕ) (s : Settings) (serial : ℕ) (numbers : ℕ → List ℕ) where
  pub latest-is : (h : PartyInput) (x : PartyState) → x.latest ≡ [] → (c : ℕ)
      → (party_from k s serial numbers h x c).latest ≡ latest_of (said k s serial numbers h) (sent_of h.number c)
  unfolding party_at
  latest-is h x e zero = e
  latest-is h x e (suc m) = refl

  heard_by : (h o : PartyInput) → HonestSide k s serial numbers h o → Which o → Heard k s serial numbers h (said k s serial numbers o)
  heard_by h o z u = record { sized = λ R r. said_sized k s serial numbers o R u r; meets = z.meets }

-- the two counts keep pace
pub keeps_pace : (k : ℕ) (s : Settings) (number : ℕ) → number < 2 → (c : Counts) → Pace number c.observer c.peer → (party : Party) (call : Call)
    → Pace number (step_counts k s number c party call).observer (step_counts k s number c party call).peer
unfolding step_counts
keeps_pace k s number u c p observer call = pace_moved number _ _ _ c.peer u p (next-moved k s number (sent_of (1 - number) c.peer) call c.observer)
keeps_pace k s number u c p peer call =
    let e : 1 - (1 - number) ≡ number = omega arith in
    let b = next k s (1 - number) (sent_of number c.observer) call c.peer in
    let v : Moved (1 - number) (sent_of (1 - (1 - number)) c.observer) call c.peer b = rw e (next-moved k s (1 - number) (sent_of number c.observer) call c.peer) in
    rw e at (pace_swap (1 - number) b c.observer (omega arith) (pace_moved (1 - number) call c.peer b c.observer (omega arith) (pace_swap number c.observer c.peer u p) v))

pub start_pace : (number : ℕ) → Pace number 0 0
start_pace number = record { own-most = omega arith; other-most = omega arith; own-after = omega arith; other_after = omega arith }

pub pace_after : (k : ℕ) (s : Settings) (number : ℕ) → number < 2 → (ms : List ScheduledCall) (c : Counts) → Pace number c.observer c.peer
    → Pace number (counts_after k s number c ms).observer (counts_after k s number c ms).peer
unfolding counts_after
pace_after k s number u [] c p = p
pace_after k s number u (m ∷ ms) c p = pace_after k s number u ms (step_counts k s number c m.party m.call) (keeps_pace k s number u c p m.party m.call)

module _ (k : ℕ) (s : Settings) (serial : ℕ) (numbers : ℕ → List ℕ)
    (h o : PartyInput) (faces : o.number ≡ 1 - h.number) (y : HonestSide k s serial numbers h o)
    (z : HonestSide k s serial numbers o h) (w : JointState) (i : Start k serial w) where
  -- a call at `observer`, and one at the other side, from any counts
  pub own-call : (c : Counts) → Pace h.number c.observer c.peer → (call : Call) → let c' = step_counts k s h.number c observer call in
      Leaves (outcome k s serial h (joint_at k s serial numbers h o w c).peer.latest (joint_at k s serial numbers h o w c).observer call)
      (joint_at k s serial numbers h o w c').observer (ltb c.observer c'.observer)
  unfolding step_counts joint_at
  own-call c p call =
      let most = heard_most h.number c.observer c.peer (which_below h y.which) p in
      rw (← faces, latest-is k s serial numbers o w.peer i.peer.silent c.peer)
      (one_call k s serial numbers h y.which y.kept y.handed w.observer i.observer _ (heard_by k s serial numbers h o y z.which)
      c.observer (sent_of o.number c.peer) p.own-most (rw faces p.own-after) (rw faces most) call)

  pub other-call : (c : Counts) → Pace h.number c.observer c.peer → (call : Call) → let c' = step_counts k s h.number c peer call in
      Leaves (outcome k s serial o (joint_at k s serial numbers h o w c).observer.latest (joint_at k s serial numbers h o w c).peer call)
      (joint_at k s serial numbers h o w c').peer (ltb c.peer c'.peer)
  unfolding step_counts joint_at
  other-call c p call =
      let u : h.number < 2 = which_below h y.which in
      let f : 1 - o.number ≡ h.number = rw faces (omega arith) in
      let r : Pace o.number c.peer c.observer = rw faces (pace_swap h.number c.observer c.peer u p) in
      rw (latest-is k s serial numbers h w.observer i.observer.silent c.observer, ← faces)
      (one_call k s serial numbers o z.which z.kept z.handed w.peer i.peer _ (heard_by k s serial numbers o h z y.which)
      c.peer (sent_of h.number c.observer) r.own-most (rw f at r.own-after)
      (rw f at (heard_most o.number c.peer c.observer (which_below o z.which) r)) call)

  pub step_counts_lem : (c : Counts) → Pace h.number c.observer c.peer → (party : Party) (call : Call)
      → step k s serial h o (joint_at k s serial numbers h o w c) party call ≡ joint_at k s serial numbers h o w (step_counts k s h.number c party call)
  unfolding step step_counts joint_at
  step_counts_lem c p observer call = rw (own-call c p call).state-is refl
  step_counts_lem c p peer call = rw (other-call c p call).state-is refl

  pub joint_at_counts : (ms : List ScheduledCall) (c : Counts) → Pace h.number c.observer c.peer
      → joint_after k s serial h o (joint_at k s serial numbers h o w c) ms ≡ joint_at k s serial numbers h o w (counts_after k s h.number c ms)
  unfolding joint_after counts_after
  joint_at_counts [] c p = refl
  joint_at_counts (m ∷ ms) c p =
      rw (step_counts_lem c p m.party m.call)
      (joint_at_counts ms (step_counts k s h.number c m.party m.call) (keeps_pace k s h.number (which_below h y.which) c p m.party m.call))
