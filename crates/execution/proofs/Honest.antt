-- An honest run is refused nowhere: each of its calls moves a count, for there are as many calls as the counts come to.
use Prim.Native.Nat.{ℕ, zero, suc, ◌+◌, ◌-◌, ◌≤◌, ◌<◌}
use Rattle.std.specs.Prelude.{None}
use mathlib.Core.Path.{◌≡◌, refl, sym, subst, ◌∙◌}
use mathlib.Core.Bool.{true, true≢false}
use mathlib.Core.List.{List, [], ◌∷◌, ◌++◌}
use native.Mathlib.Omega.{arith}
use lib.Dec.{leb}
use lib.ListN.{length, replicate, length-replicate}
use borrow.Author.Tests.{le-leb, leb-true, lt-ltb}
use Rattle.lists.specs.Lists.{join_from}
use Rattle.lists.proofs.Questions.{both_yes}
use Rattle.settings.specs.declared.Settings.{Settings}
use Rattle.settings.specs.Settings.{Params, params_in, terms_of}
use Rattle.settings.specs.Sizes.{key_count, width_of, most_bytes, message_length}
use Rattle.settings.specs.Schedule.{rounds}
use Rattle.settings.proofs.Sizes.{openings-most}
use Rattle.column.specs.Run.{plain_opened}
use Rattle.runs.specs.Records.{PartyInput, JointState, Party, Call, ScheduledCall, Observation, joint_after}
use Rattle.runs.specs.Records.Party.{observer, peer}
use Rattle.runs.specs.Records.Observation.{began, sent, took, answered, counted}
use Rattle.runs.specs.Demands.{Start, observer_input, peer_input, out_for, round_in_order, holds, carried_through}
use Rattle.runs.specs.Progress.{Counts, none, sent_of, step_counts, counts_after, joint_at}
use Rattle.runs.proofs.Doors.{accepted}
use Rattle.runs.proofs.PartyStates.{which_below}
use Rattle.runs.proofs.Counts.{Pace}
use Rattle.runs.proofs.Both.{HonestSide, keeps_pace, start_pace, own-call, other-call, step_counts_lem}
use Rattle.runs.proofs.Carried.{next_near, carried}
use Rattle.runs.proofs.Whole.{honest-pair, allowed}
use Rattle.runs.proofs.Theorem.{honest, progress, every_run_ends}
use Rattle.execution.specs.Execution.{Carried, played_by, refused_call, refused_in, message_in, message_room, round_calls, run_calls, outcome_at, carry, carry_all}
use Rattle.execution.specs.Theorems.{HonestRunGoesThrough}

-- ---- A call that was accepted

refusal-none : (party : Party) (e : Observation) → accepted e ≡ true → refused_in (played_by party) e ≡ None
unfolding refused_call
refusal-none party (began r) a = rw a
refusal-none party (sent r m) a = rw a
refusal-none party (took r m) a = rw a
refusal-none party (answered r ns) a = absurd (true≢false (sym a))
refusal-none party (counted n) a = absurd (true≢false (sym a))

-- ---- Counts

abbrev total : Counts → ℕ
total c = c.observer + c.peer

-- the count of one party
abbrev count_of : Party → Counts → ℕ
count_of observer c = c.observer
count_of peer c = c.peer

module _ (k : ℕ) (s : Settings) (number : ℕ) where
  -- a call adds one at most, at its own party
  step-adds : (c : Counts) (party : Party) (call : Call)
      → (total (step_counts k s number c party call) ≤ suc (total c))
      × (suc (total c) ≤ total (step_counts k s number c party call) → count_of party c < count_of party (step_counts k s number c party call))
  unfolding step_counts
  step-adds c observer call =
      let near = next_near k s number (sent_of (1 - number) c.peer) call c.observer in
      (omega (arith, near.1), λ l. omega (arith, l))
  step-adds c peer call =
      let near = next_near k s (1 - number) (sent_of number c.observer) call c.peer in
      (omega (arith, near.1), λ l. omega (arith, l))

  all-add : (ms : List ScheduledCall) (c : Counts) → total (counts_after k s number c ms) ≤ total c + length ms
  unfolding counts_after
  all-add [] c = omega arith
  all-add (m ∷ ms) c =
      omega (arith, all-add ms (step_counts k s number c m.party m.call), (step-adds c m.party m.call).0)

-- ---- A list of which each call moves a count

module _ (s : Settings) (serial : ℕ) (numbers : ℕ → List ℕ) (h o : PartyInput) (faces : o.number ≡ 1 - h.number)
    (y : HonestSide key_count s serial numbers h o) (z : HonestSide key_count s serial numbers o h) (w : JointState) (i : Start key_count serial w) where
  abbrev at : Counts → JointState
  at c = joint_at key_count s serial numbers h o w c

  abbrev reached : Counts → List ℕ → Carried
  reached c bytes = record { refused = None; parties = at c; messages = bytes }

  one_call : (party : Party) (call : Call) (c : Counts) → Pace h.number c.observer c.peer
      → count_of party c < count_of party (step_counts key_count s h.number c party call) → (bytes : List ℕ)
      → carry s serial h o (reached c bytes) party call
      ≡ reached (step_counts key_count s h.number c party call) (bytes ++ message_in (outcome_at s serial h o (at c) party call).observation)
  unfolding carry outcome_at
  one_call observer call c p l bytes =
      rw (refusal-none observer _ ((own-call key_count s serial numbers h o faces y z w i c p call).went_is ∙ lt-ltb _ _ l), step_counts_lem key_count s serial numbers h o faces y z w i c p observer call)
  one_call peer call c p l bytes =
      rw (refusal-none peer _ ((other-call key_count s serial numbers h o faces y z w i c p call).went_is ∙ lt-ltb _ _ l), step_counts_lem key_count s serial numbers h o faces y z w i c p peer call)

  pub goes_through : (ms : List ScheduledCall) (c : Counts) → Pace h.number c.observer c.peer
      → total c + length ms ≤ total (counts_after key_count s h.number c ms) → (bytes : List ℕ)
      → ((carry_all s serial h o (reached c bytes) ms).refused ≡ None)
      × ((carry_all s serial h o (reached c bytes) ms).parties ≡ at (counts_after key_count s h.number c ms))
  unfolding carry_all counts_after
  goes_through [] c p l bytes = (refl, refl)
  goes_through (m ∷ ms) c p l bytes =
      let u : h.number < 2 = which_below h y.which in
      let next = step_counts key_count s h.number c m.party m.call in
      let adds = step-adds key_count s h.number c m.party m.call in
      let moves = adds.1 (omega (arith, l, all-add key_count s h.number ms next)) in
      subst (λ (x : Carried). ((carry_all s serial h o x ms).refused ≡ None) × ((carry_all s serial h o x ms).parties ≡ at (counts_after key_count s h.number next ms)))
      (sym (one_call m.party m.call c p moves bytes))
      (goes_through ms next (keeps_pace key_count s h.number u c p m.party m.call) (omega (arith, l, adds.0)) _)

-- ---- The calls of a run in order carry it through

message-fits : (p : Params) (round : ℕ) → p.n ≤ 8 → message_length key_count p round ≤ most_bytes key_count
unfolding message_length
message-fits p round h = omega (arith, openings-most p round h)

module _ (s : Settings) (most : s.shape.n ≤ 8) where
  roomy : (round : ℕ) → leb (length (out_for key_count s round)) (length message_room) ≡ true
  roomy round =
      let n : ℕ = message_length key_count (params_in s) round in
      le-leb (length (replicate {A = ℕ} n 0)) (most_bytes key_count) (omega (arith, length-replicate {A = ℕ} n 0, message-fits (params_in s) round most))

  holds-rounds : (i n : ℕ) → holds (join_from i n (λ (j : ℕ). round_in_order key_count s (1 + j))) (round_calls n) ≡ true
  unfolding join_from holds
  holds-rounds i zero = refl
  holds-rounds i (suc n) = simp (roomy (1 + i)) (holds-rounds (suc i) n)

  carried_through_lem : carried_through key_count s run_calls ≡ true
  unfolding carried_through holds
  carried_through_lem = simp (holds-rounds 0 rounds)

-- ---- The honest run

pub honest_run_goes_through : HonestRunGoesThrough
unfolding joint_at
honest_run_goes_through s serial keys0 keys1 f secret inputs draw x y d w i =
    let numbers : ℕ → List ℕ = plain_opened (terms_of s) (width_of key_count) draw secret in
    let h : PartyInput = observer_input key_count s 0 keys0 keys1 inputs draw in
    let o : PartyInput = peer_input key_count s 0 keys0 keys1 inputs secret draw in
    let z = honest-pair key_count (honest key_count) s serial keys0 keys1 f 0 (omega arith) secret inputs draw x y d in
    let most : s.shape.n ≤ 8 = leb-true s.shape.n 8 (both_yes (leb 1 s.shape.n) (leb s.shape.n 8) (allowed s f.settings).count).1 in
    let through = carried_through_lem s most in
    let ends = carried key_count s run_calls through in
    let a = goes_through s serial numbers h o refl z.0 z.1 w i run_calls none (start_pace 0) (rw ends (omega arith)) [] in
    let e = every_run_ends key_count s serial keys0 keys1 f secret inputs draw x y d w i run_calls through in
    let same : (carry_all s serial h o (record { refused = None; parties = w; messages = [] }) run_calls).parties ≡ joint_after key_count s serial h o w run_calls =
    a.1 ∙ sym (progress key_count s serial keys0 keys1 f 0 (omega arith) secret inputs draw x y d w i run_calls) in
    record { accepted = a.0; server = rw same e.0; phone = rw same e.1 }
