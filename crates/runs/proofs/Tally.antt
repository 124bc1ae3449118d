-- What a side's events add up to: the begins, sends and takes that were accepted are those that its count tells.
use Prim.Native.Nat.{ℕ, suc, ◌+◌, ◌-◌, ◌<◌}
use mathlib.Core.Path.{◌≡◌, refl, sym, ◌∙◌}
use mathlib.Core.List.{List, [], ◌∷◌, ◌++◌}
use mathlib.Core.Bool.{Bool, true, false, ◌||◌}
use native.Mathlib.Omega.{arith}
use lib.Dec.{ltb}
use borrow.Author.Tests.{lt-ltb, le-ltb}
use Rattle.lists.specs.Answers.{bit}
use Rattle.lists.proofs.Indicators.{lt_one}
use Rattle.settings.specs.declared.Settings.{Settings}
use Rattle.runs.specs.Records.{PartyInput, PartyState, Call, Observation, Party, ScheduledCall, JointState, outcome, observed, observations}
use Rattle.runs.specs.Records.Party.{observer, peer}
use Rattle.runs.specs.Records.Call.{begin, send, take_latest, answer, count}
use Rattle.runs.specs.Demands.{Start, takes_in, sends_in, began_in}
use Rattle.runs.specs.Progress.{Counts, taken_of, sent_of, step_counts, counts_after, joint_at}
use Rattle.runs.proofs.Doors.{accepted}
use Rattle.runs.proofs.PartyStates.{which_below}
use Rattle.runs.proofs.Counts.{Moved, next-moved, Pace}
use Rattle.runs.proofs.Counts.Moved.{stays, began, sent, took}
use Rattle.runs.proofs.Both.{HonestSide, keeps_pace, own-call, step_counts_lem}

-- what a call adds, if it was accepted
abbrev takes_of : Call → Bool → ℕ
takes_of begin d = 0
takes_of (send out) d = 0
takes_of take_latest d = bit d
takes_of (answer out) d = 0
takes_of count d = 0

abbrev pub sends_of : Call → Bool → ℕ
sends_of begin d = 0
sends_of (send out) d = bit d
sends_of take_latest d = 0
sends_of (answer out) d = 0
sends_of count d = 0

abbrev begins_of : Call → Bool → Bool
begins_of begin d = d
begins_of (send out) d = false
begins_of take_latest d = false
begins_of (answer out) d = false
begins_of count d = false

module _ (k : ℕ) (s : Settings) (serial : ℕ) (h : PartyInput) (m : List ℕ) (x : PartyState) (es : List Observation) where
  event_takes : (call : Call) → takes_in ((outcome k s serial h m x call).observation ∷ es) ≡ takes_of call (accepted (outcome k s serial h m x call).observation) + takes_in es
  unfolding outcome takes_in
  event_takes begin = omega arith
  event_takes (send out) = omega arith
  event_takes take_latest = refl
  event_takes (answer out) = omega arith
  event_takes count = omega arith

  pub event_sends : (call : Call) → sends_in ((outcome k s serial h m x call).observation ∷ es) ≡ sends_of call (accepted (outcome k s serial h m x call).observation) + sends_in es
  unfolding outcome sends_in
  event_sends begin = omega arith
  event_sends (send out) = refl
  event_sends take_latest = omega arith
  event_sends (answer out) = omega arith
  event_sends count = omega arith

  event_begins : (call : Call) → began_in ((outcome k s serial h m x call).observation ∷ es) ≡ (begins_of call (accepted (outcome k s serial h m x call).observation) || began_in es)
  unfolding outcome began_in
  event_begins begin = refl
  event_begins (send out) = refl
  event_begins take_latest = refl
  event_begins (answer out) = refl
  event_begins count = refl

-- so many takes and sends, and a begin or none, lead from count c to c'
pub record Adds-up (number takes sends : ℕ) (begins : Bool) (c c' : ℕ) : Type 0 where
  pub took : takes + taken_of number c ≡ taken_of number c'
  pub sent : sends + sent_of number c ≡ sent_of number c'
  pub begun : (begins || ltb 0 c) ≡ ltb 0 c'

-- the same of a log
abbrev pub Tally : ℕ → List Observation → ℕ → ℕ → Type 0
Tally number log c c' = Adds-up number (takes_in log) (sends_in log) (began_in log) c c'

no_takes : (call : Call) → takes_of call false ≡ 0
unfolding bit
no_takes begin = refl
no_takes (send out) = refl
no_takes take_latest = refl
no_takes (answer out) = refl
no_takes count = refl

pub no_sends : (call : Call) → sends_of call false ≡ 0
unfolding bit
no_sends begin = refl
no_sends (send out) = refl
no_sends take_latest = refl
no_sends (answer out) = refl
no_sends count = refl

no_begins : (call : Call) → begins_of call false ≡ false
no_begins begin = refl
no_begins (send out) = refl
no_begins take_latest = refl
no_begins (answer out) = refl
no_begins count = refl

above : (m : ℕ) → ltb 0 (suc m) ≡ ltb 0 (suc (suc m))
above m = lt-ltb 0 (suc m) (omega arith) ∙ sym (lt-ltb 0 (suc (suc m)) (omega arith))

-- each call leads from its count to the next
one_adds : (number heard : ℕ) (call : Call) (c c' : ℕ) → number < 2 → Moved number heard call c c'
    → Adds-up number (takes_of call (ltb c c')) (sends_of call (ltb c c')) (begins_of call (ltb c c')) c c'
one_adds number heard call c _ u stays =
    rw (le-ltb c c (omega arith), no_takes call, no_sends call, no_begins call) (record { took = omega arith; sent = omega arith; begun = refl })
one_adds number heard _ _ _ u began = record { took = omega arith; sent = omega arith; begun = refl }
one_adds number heard _ _ _ u (sent {out} {m} e l) =
    record { took = omega arith; sent = omega (arith, lt_one {a = suc m} {b = suc (suc m)} (omega arith)); begun = above m }
one_adds number heard _ _ _ u (took {m} e l i) =
    record { took = omega (arith, lt_one {a = suc m} {b = suc (suc m)} (omega arith)); sent = omega arith; begun = above m }

or_move : (a b c d e : Bool) → (a || c) ≡ d → (b || d) ≡ e → ((a || b) || c) ≡ e
or_move true true c d e p r = r
or_move true false c d e p r = rw (← p) at r
or_move false true c d e p r = r
or_move false false c d e p r = rw (← p) at r

-- one call more, before the others
adds-more : {number t t' s s' : ℕ} {b b' : Bool} {c c₁ c₂ : ℕ} → Adds-up number t s b c c₁ → Adds-up number t' s' b' c₁ c₂
    → Adds-up number (t + t') (s + s') (b || b') c c₂
adds-more {b = b} {b' = b'} {c = c} {c₁ = c₁} {c₂ = c₂} x y =
    record { took = omega (arith, x.took, y.took); sent = omega (arith, x.sent, y.sent); begun = or_move b b' (ltb 0 c) (ltb 0 c₁) (ltb 0 c₂) x.begun y.begun }

module _ (k : ℕ) (s : Settings) (serial : ℕ) (numbers : ℕ → List ℕ)
    (h o : PartyInput) (faces : o.number ≡ 1 - h.number) (y : HonestSide k s serial numbers h o)
    (z : HonestSide k s serial numbers o h) (w : JointState) (i : Start k serial w) where
  abbrev at : Counts → JointState
  at c = joint_at k s serial numbers h o w c

  tally_one : (party : Party) (call : Call) (c : Counts) (es : List Observation) (c₂ : ℕ) → Pace h.number c.observer c.peer
      → Tally h.number es (step_counts k s h.number c party call).observer c₂
      → Tally h.number (observed k s serial h o (at c) party call ++ es) c.observer c₂
  unfolding observed step_counts
  tally_one observer call c es c₂ p t =
      let u : h.number < 2 = which_below h y.which in
      let heard = sent_of (1 - h.number) c.peer in
      let came = (at c).peer.latest in
      let a = event_takes k s serial h came (at c).observer es call in
      let b = event_sends k s serial h came (at c).observer es call in
      let d = event_begins k s serial h came (at c).observer es call in
      rw (a, b, d, (own-call k s serial numbers h o faces y z w i c p call).went_is)
      (adds-more (one_adds h.number heard call c.observer _ u (next-moved k s h.number heard call c.observer)) t)
  tally_one peer call c es c₂ p t = t

  -- the events of a list, from any counts
  pub tally : (ms : List ScheduledCall) (c : Counts) → Pace h.number c.observer c.peer
      → Tally h.number (observations k s serial h o (at c) ms) c.observer (counts_after k s h.number c ms).observer
  unfolding observations counts_after takes_in sends_in began_in
  tally [] c p = record { took = omega arith; sent = omega arith; begun = refl }
  tally (m ∷ ms) c p =
      tally_one m.party m.call c _ _ p
      (rw (step_counts_lem k s serial numbers h o faces y z w i c p m.party m.call)
      (tally ms (step_counts k s h.number c m.party m.call) (keeps_pace k s h.number (which_below h y.which) c p m.party m.call)))
