-- Two joint states that look the same to one side after every list of calls give it the same events.
use mathlib.Core.Path.{◌≡◌, refl, ap₂}
use mathlib.Core.List.{List, [], ◌∷◌, ◌++◌}
use Prim.Native.Nat.{ℕ}
use Rattle.settings.specs.declared.Settings.{Settings}
use Rattle.runs.specs.Records.{PartyInput, Party, Call, ScheduledCall, JointState, Observation, step, observed, joint_after, observations}
use Rattle.runs.specs.Records.Party.{observer, peer}

-- what one side sees of a joint state: its own party state, and the other's latest message
pub record Alike (a b : JointState) : Type 0 where
  pub observer : a.observer ≡ b.observer
  pub heard : a.peer.latest ≡ b.peer.latest

module _ (k : ℕ) (s : Settings) (serial : ℕ) where
  -- one call more
  joint_more : (h o : PartyInput) (w : JointState) (past : List ScheduledCall) (m : ScheduledCall)
      → joint_after k s serial h o w (past ++ (m ∷ [])) ≡ step k s serial h o (joint_after k s serial h o w past) m.party m.call
  unfolding joint_after
  joint_more h o w [] m = refl
  joint_more h o w (p ∷ past) m = joint_more h o (step k s serial h o w p.party p.call) past m

  note_same : (h o o' : PartyInput) (a b : JointState) → Alike a b → (party : Party) (call : Call) → observed k s serial h o a party call ≡ observed k s serial h o' b party call
  unfolding observed
  note_same h o o' a b e observer call = rw (e.observer, e.heard)
  note_same h o o' a b e peer call = refl

  module _ (h o o' : PartyInput) (w w' : JointState)
      (alike : (past : List ScheduledCall) → Alike (joint_after k s serial h o w past) (joint_after k s serial h o' w' past)) where
    rest_same : (past calls : List ScheduledCall)
        → observations k s serial h o (joint_after k s serial h o w past) calls ≡ observations k s serial h o' (joint_after k s serial h o' w' past) calls
    unfolding observations
    rest_same past [] = refl
    rest_same past (m ∷ ms) =
        ap₂ (λ (a b : List Observation). a ++ b) (note_same h o o' _ _ (alike past) m.party m.call)
        (rw (← joint_more h o w past m, ← joint_more h o' w' past m) (rest_same (past ++ (m ∷ [])) ms))

    pub events_same : (calls : List ScheduledCall) → observations k s serial h o w calls ≡ observations k s serial h o' w' calls
    unfolding joint_after
    events_same calls = rest_same [] calls
