-- A run carried through in order leaves both counts at their end, whatever other calls stand between: calls only help.
use Prim.Native.Nat.{ℕ, zero, suc, ◌+◌, ◌-◌, ◌≤◌, ◌<◌}
use mathlib.Core.Path.{◌≡◌, refl, sym, ap, ◌∙◌}
use mathlib.Core.List.{List, [], ◌∷◌, ◌++◌}
use mathlib.Core.Bool.{Bool, true, false, not, ◌&&◌, ◌||◌, true≢false}
use native.Mathlib.Nat.{add-zero}
use native.Mathlib.Omega.{arith}
use native.Mathlib.Decide.{dec_lt}
use lib.Dec.{eqb, leb, ltb}
use lib.ListN.{length, replicate, length-replicate}
use borrow.Author.Tests.{le-leb, lt-ltb, leb-true, ltb-true, eqb-true}
use Rattle.lists.specs.Lists.{join_from}
use Rattle.lists.proofs.Questions.{both_yes}
use Rattle.settings.specs.Schedule.{rounds, steps, goes_on, round_after, sends_after, taken_by, send_step, take_step}
use Rattle.settings.specs.Sizes.{message_length}
use Rattle.settings.specs.declared.Settings.{Settings}
use Rattle.settings.specs.Settings.{params_in}
use Rattle.runs.specs.Records.{Call, Party, ScheduledCall}
use Rattle.runs.specs.Records.Party.{observer, peer}
use Rattle.runs.specs.Records.Call.{begin, send, take_latest, answer, count}
use Rattle.runs.specs.Demands.{out_for, round_in_order, phone_second, phone_first, phone_late, party_number, call_number, room, is_call, holds, carried_through}
use Rattle.runs.specs.Progress.{Counts, none, sent_of, onward, room_for, next, step_counts, counts_after}
use Rattle.runs.proofs.Counts.{Moved, next-moved, next-send, next-take}
use Rattle.runs.proofs.Counts.Moved.{stays, began, sent, took}
use Rattle.runs.proofs.Both.{start_pace, pace_after}

-- ---- More calls, more room and more messages never set a count back

sent-more : (number c c' : ℕ) → c ≤ c' → sent_of number c ≤ sent_of number c'
sent-more number zero c' l = omega arith
sent-more number (suc m) zero l = absurd (omega arith)
sent-more number (suc m) (suc m') l = omega arith

-- a step that is due stays due
onward-more : (a b r r' : Bool) (c : ℕ) → (r ≡ true → r' ≡ true) → onward (a && b && r) c ≤ onward (a && b && r') c
onward-more true true true r' c f = rw (f refl) (omega arith)
onward-more true true false true c f = omega arith
onward-more true true false false c f = omega arith
onward-more true false r r' c f = omega arith
onward-more false b r r' c f = omega arith

-- a call moves a count by one at most
near : {number heard : ℕ} {call : Call} {c c' : ℕ} → Moved number heard call c c' → (c ≤ c') × (c' ≤ suc c)
near stays = (omega arith, omega arith)
near began = (omega arith, omega arith)
near (sent e l) = (omega arith, omega arith)
near (took e l i) = (omega arith, omega arith)

module _ (k : ℕ) (s : Settings) (number : ℕ) where
  pub next_near : (heard : ℕ) (call : Call) (c : ℕ) → (c ≤ next k s number heard call c) × (next k s number heard call c ≤ suc c)
  next_near heard call c = near (next-moved k s number heard call c)

  -- the same call, with as much room and as many messages at least
  data Like : Call → Call → Type 0 where
    begins : Like begin begin
    sends : {out out' : List ℕ} → length out ≤ length out' → Like (send out) (send out')
    takes : Like take_latest take_latest
    rests : {call call' : Call} → ((heard c : ℕ) → next k s number heard call c ≡ c) → Like call call'

  next-same : (heard heard' : ℕ) (call call' : Call) (c : ℕ) → heard ≤ heard' → Like call call'
      → next k s number heard call c ≤ next k s number heard' call' c
  unfolding next
  next-same heard heard' _ _ zero l begins = omega arith
  next-same heard heard' _ _ (suc m) l begins = omega arith
  next-same heard heard' _ _ zero l (sends r) = omega arith
  next-same heard heard' _ _ (suc m) l (sends {out} {out'} r) =
      onward-more (sends_after number m) (goes_on m) (room_for k s (round_after m) (length out)) (room_for k s (round_after m) (length out')) (suc m)
      (λ e. le-leb (message_length k (params_in s) (round_after m)) (length out') (omega (arith, leb-true (message_length k (params_in s) (round_after m)) (length out) e)))
  next-same heard heard' _ _ zero l takes = omega arith
  next-same heard heard' _ _ (suc m) l takes =
      onward-more (not (sends_after number m)) (goes_on m) (ltb (taken_by number m) heard) (ltb (taken_by number m) heard') (suc m)
      (λ e. lt-ltb (taken_by number m) heard' (omega (arith, ltb-true (taken_by number m) heard e)))
  next-same heard heard' call call' c l (rests f) = omega (arith, f heard c, (next_near heard' call' c).0)

  next_more : (heard heard' : ℕ) (call call' : Call) (c c' : ℕ) → heard ≤ heard' → c ≤ c' → Like call call'
      → next k s number heard call c ≤ next k s number heard' call' c'
  next_more heard heard' call call' c c' l a v = by (dec_lt c c')
    where
      by : Dec (c < c') → next k s number heard call c ≤ next k s number heard' call' c'
      by (yes b) = omega (arith, (next_near heard call c).1, (next_near heard' call' c').0)
      by (no b) =
          let e : c ≡ c' = omega arith in
          rw (← e) (next-same heard heard' call call' c l v)

  like : (call call' : Call) → call_number call ≡ call_number call' → room call ≤ room call' → Like call call'
  unfolding next
  like begin begin e r = begins
  like begin (send out) e r = absurd (omega arith)
  like begin take_latest e r = absurd (omega arith)
  like begin (answer out) e r = absurd (omega arith)
  like begin count e r = absurd (omega arith)
  like (send out) begin e r = absurd (omega arith)
  like (send out) (send out') e r = sends r
  like (send out) take_latest e r = absurd (omega arith)
  like (send out) (answer out') e r = absurd (omega arith)
  like (send out) count e r = absurd (omega arith)
  like take_latest begin e r = absurd (omega arith)
  like take_latest (send out) e r = absurd (omega arith)
  like take_latest take_latest e r = takes
  like take_latest (answer out) e r = absurd (omega arith)
  like take_latest count e r = absurd (omega arith)
  like (answer out) call e r = rests (λ heard c. refl)
  like count call e r = rests (λ heard c. refl)

-- ---- Both counts

record Behind (c d : Counts) : Type 0 where
  observer : c.observer ≤ d.observer
  peer : c.peer ≤ d.peer

module _ (k : ℕ) (s : Settings) where
  grows : (c d : Counts) → Behind c d → (party : Party) (call : Call) → Behind c (step_counts k s 0 d party call)
  unfolding step_counts
  grows c d b observer call = record { observer = omega (arith, (next_near k s 0 (sent_of (1 - 0) d.peer) call d.observer).0); peer = b.peer }
  grows c d b peer call = record { observer = b.observer; peer = omega (arith, (next_near k s (1 - 0) (sent_of 0 d.observer) call d.peer).0) }

  -- the planned call in both, with as much room
  both_step : (c d : Counts) → Behind c d → (party who' : Party) (call call' : Call)
      → party_number party ≡ party_number who' → call_number call ≡ call_number call' → room call ≤ room call'
      → Behind (step_counts k s 0 c party call) (step_counts k s 0 d who' call')
  unfolding step_counts
  both_step c d b observer observer call call' e f r =
      let heard = sent-more (1 - 0) c.peer d.peer b.peer in
      record { observer = next_more k s 0 _ _ call call' c.observer d.observer heard b.observer (like k s 0 call call' f r); peer = b.peer }
  both_step c d b peer peer call call' e f r =
      let heard = sent-more 0 c.observer d.observer b.observer in
      record { observer = b.observer; peer = next_more k s (1 - 0) _ _ call call' c.peer d.peer heard b.peer (like k s (1 - 0) call call' f r) }
  both_step c d b observer peer call call' e f r = absurd (omega arith)
  both_step c d b peer observer call call' e f r = absurd (omega arith)

  -- the counts of a plan stay behind those of a list that holds it
  overtakes : (plan calls : List ScheduledCall) (c d : Counts) → Behind c d → holds plan calls ≡ true → Behind (counts_after k s 0 c plan) (counts_after k s 0 d calls)
  unfolding holds counts_after
  overtakes [] [] c d b e = b
  overtakes [] (m ∷ ms) c d b e = overtakes [] ms c (step_counts k s 0 d m.party m.call) (grows c d b m.party m.call) (holds-none ms)
    where
      holds-none : (ms : List ScheduledCall) → holds [] ms ≡ true
      holds-none [] = refl
      holds-none (m ∷ ms) = refl
  overtakes (p ∷ ps) [] c d b e = absurd (true≢false (sym e))
  overtakes (p ∷ ps) (m ∷ ms) c d b e =
      by (is_call p m) refl (λ x f. overtakes ps ms _ _ x f) (λ f. overtakes (p ∷ ps) ms c _ (grows c d b m.party m.call) f)
    where
      by : {Goal : Type 0} (t : Bool) → is_call p m ≡ t
          → (Behind (step_counts k s 0 c p.party p.call) (step_counts k s 0 d m.party m.call) → holds ps ms ≡ true → Goal)
          → (holds (p ∷ ps) ms ≡ true → Goal)
          → Goal
      by true f go stay =
          let x = both_yes (eqb (party_number p.party) (party_number m.party) && eqb (call_number p.call) (call_number m.call)) (leb (room p.call) (room m.call)) f in
          let y = both_yes (eqb (party_number p.party) (party_number m.party)) (eqb (call_number p.call) (call_number m.call)) x.0 in
          go (both_step c d b p.party m.party p.call m.call (eqb-true _ _ y.0) (eqb-true _ _ y.1) (leb-true _ _ x.1)) (rw f at e)
      by false f go stay = stay (rw f at e)

  -- ---- The plans

  -- both sides before round R + 1
  abbrev pub before : ℕ → Counts
  before R = record { observer = suc (send_step 0 R); peer = suc (take_step 1 R) }

  enough : (round : ℕ) → room_for k s round (length (out_for k s round)) ≡ true
  enough round =
      let n : ℕ = message_length k (params_in s) round in
      le-leb n (length (replicate {A = ℕ} n 0)) (omega (arith, length-replicate {A = ℕ} n 0))

  -- a step that is due is made
  pub send_goes : (number heard R : ℕ) → number < 2 → R < rounds → next k s number heard (send (out_for k s (suc R))) (suc (send_step number R)) ≡ suc (suc (send_step number R))
  send_goes number heard R u r = rw (next-send k s number heard u R r (out_for k s (suc R)), enough (suc R))

  pub take_goes : (number heard R : ℕ) → number < 2 → R < rounds → R < heard → next k s number heard take_latest (suc (take_step number R)) ≡ suc (suc (take_step number R))
  take_goes number heard R u r l = rw (next-take k s number heard u R r, lt-ltb R heard l)

  round_goes : (R : ℕ) → R < rounds → (rest : List ScheduledCall) → counts_after k s 0 (before R) (round_in_order k s (suc R) ++ rest) ≡ counts_after k s 0 (before (suc R)) rest
  unfolding counts_after step_counts
  round_goes R r rest =
      let half : suc (suc (take_step 1 R)) ≡ suc (send_step 1 R) = omega arith in
      let whole : suc (suc (take_step 0 R)) ≡ suc (send_step 0 (suc R)) = omega arith in
      rw (
        send_goes 0 (sent_of 1 (suc (take_step 1 R))) R (omega arith) r,
        take_goes 1 (sent_of 0 (suc (suc (send_step 0 R)))) R (omega arith) r (omega arith),
        half,
        send_goes 1 (sent_of 0 (suc (suc (send_step 0 R)))) R (omega arith) r,
        take_goes 0 (sent_of 1 (suc (suc (send_step 1 R)))) R (omega arith) r (omega arith),
        whole,
      )

  -- n rounds more
  pub rounds_go : (first j n R : ℕ) → first + j ≡ suc R → R + n ≤ rounds → counts_after k s 0 (before R) (join_from j n (λ i. round_in_order k s (first + i))) ≡ before (R + n)
  unfolding join_from counts_after
  rounds_go first j zero R e f = rw (add-zero R)
  rounds_go first j (suc n) R e f =
      let rest = join_from (suc j) n (λ i. round_in_order k s (first + i)) in
      let more : suc R + n ≡ R + suc n = omega arith in
      ap (λ (r : ℕ). counts_after k s 0 (before R) (round_in_order k s r ++ rest)) e
      ∙ round_goes R (omega arith) rest
      ∙ rounds_go first (suc j) n (suc R) (omega arith) (omega arith)
      ∙ ap before more

  second : counts_after k s 0 none (phone_second k s) ≡ before rounds
  unfolding counts_after step_counts next
  second = rounds_go 1 0 rounds 0 refl (omega arith)

  first : counts_after k s 0 none (phone_first k s) ≡ before rounds
  unfolding counts_after step_counts next
  first = rounds_go 1 0 rounds 0 refl (omega arith)

  late : counts_after k s 0 none (phone_late k s) ≡ before rounds
  unfolding join_from counts_after step_counts next round_after
  late = simp (enough 1) (rounds_go 2 0 (rounds - 1) 1 refl (omega arith))

  -- ---- A run carried through

  any_plan : (a b c : Bool) (P : Type 0) → (a ≡ true → P) → (b ≡ true → P) → (c ≡ true → P) → (a || b || c) ≡ true → P
  any_plan true b c P f g h e = f refl
  any_plan false true c P f g h e = g refl
  any_plan false false true P f g h e = h refl
  any_plan false false false P f g h e = absurd (true≢false (sym e))

  at-end : (plan calls : List ScheduledCall) → counts_after k s 0 none plan ≡ before rounds → holds plan calls ≡ true → counts_after k s 0 none calls ≡ before rounds
  at-end plan calls e f =
      let p = pace_after k s 0 (omega arith) calls none (start_pace 0) in
      let b = rw e at (overtakes plan calls none none (record { observer = omega arith; peer = omega arith }) f) in
      same-counts (counts_after k s 0 none calls) (omega (arith, p.own-most, b.observer)) (omega (arith, p.other-most, b.peer))
    where
      same-counts : (c : Counts) → c.observer ≡ suc steps → c.peer ≡ suc steps → c ≡ before rounds
      same-counts c e f = rw (e, f)

  pub carried : (calls : List ScheduledCall) → carried_through k s calls ≡ true → counts_after k s 0 none calls ≡ record { observer = suc steps; peer = suc steps }
  unfolding carried_through
  carried calls e =
      any_plan (holds (phone_second k s) calls) (holds (phone_first k s) calls) (holds (phone_late k s) calls) (counts_after k s 0 none calls ≡ before rounds)
      (at-end (phone_second k s) calls second) (at-end (phone_first k s) calls first) (at-end (phone_late k s) calls late) e
