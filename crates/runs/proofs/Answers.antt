-- Demand 2, the first part: a run carried through in order ends at both sides with the answer by the plain meaning, which is
-- FIPS 204's and in range, and with all openings counted.
use Prim.Native.Nat.{ℕ, ◌+◌, ◌*◌, ◌-◌, ◌%◌, ◌≤◌, ◌<◌}
use mathlib.Core.Path.{◌≡◌, refl, ap₂, ◌∙◌}
use mathlib.Core.List.{List, [], ◌∷◌, map}
use mathlib.Core.Bool.{Bool, true, false, cond, ◌&&◌}
use native.Mathlib.Omega.{arith}
use lib.Dec.{eqb, leb, ltb}
use lib.IntN.{pos}
use lib.ListN.{length, drop, replicate, length-map}
use borrow.Author.Tests.{ltb-true, leb-true, eqb-true, lt-ltb, le-leb}
use Rattle.lists.specs.Answers.{ask}
use Rattle.lists.specs.Lists.{every, all_below, all_to, in_front}
use Rattle.field.specs.Sums.{sum_to}
use Rattle.lists.proofs.Indicators.{bit_le}
use Rattle.lists.proofs.Questions.{both_yes}
use Rattle.lists.proofs.Every.{below_at, all_to-at}
use Rattle.lists.proofs.Lists.{length-list_from, front_list}
use Rattle.field.specs.Field.{q}
use Rattle.settings.specs.Sets.{Scale, scale_of}
use Rattle.settings.specs.Theorems.{Lawful}
use Rattle.rounding.specs.Plain.{high_part, decompose, inside, verdict}
use Rattle.rounding.specs.Rounds.{gap}
use Rattle.settings.proofs.Sets.{lawful}
use Rattle.rounding.proofs.Decompose.{high_is}
use Rattle.rounding.proofs.HighResult.{high_below}
use Rattle.settings.specs.Sizes.{width_of, openings, openings_up_to, answer_places}
use Rattle.settings.specs.Schedule.{rounds, steps}
use Rattle.column.specs.Run.{opened_from, plain_opened}
use Rattle.column.specs.Theorems.{Sound, PlainRun}
use Rattle.state.specs.State.{held_answer, answer_limit, in_range, answer_no, after_answer, answer_call, finished, count_call}
use Rattle.side.specs.Side.{begun_side}
use Rattle.settings.specs.declared.Settings.{Settings}
use Rattle.settings.specs.Questions.{settings_ok}
use Rattle.settings.specs.Settings.{params_in, terms_of}
use Rattle.settings.proofs.Sizes.{shared-most}
use Rattle.runs.specs.Records.{answer_of, PartyInput}
use Rattle.runs.specs.Demands.{Secret, Possible, all_openings, Ended, Demand2, FipsHigh, observer_input, peer_input}
use Rattle.runs.specs.Progress.{side_at, party_at, joint_at}
use Rattle.runs.specs.Theorems.{Progress}
use Rattle.runs.proofs.PartyStates.{Which, FieldsPass}
use Rattle.runs.proofs.PartyStates.Which.{server, phone}
use Rattle.runs.proofs.Whole.{allowed, terms}
use Rattle.runs.proofs.Steady.{finished-at, count_at}
use Rattle.runs.proofs.Carried.{carried}

-- ---- FIPS 204

high_parts : (set : ℕ) → set < 2 → (xs : List ℕ) → all_below q xs ≡ true
    → map pos (map (high_part (scale_of set)) xs) ≡ map (λ (w : ℕ). (decompose (scale_of set) w).high) xs
unfolding all_below every
high_parts set l [] e = refl
high_parts set l (x ∷ xs) e =
    let b = both_yes (ltb x q) (all_below q xs) e in
    ap₂ ◌∷◌ (high_is (scale_of set) (lawful set l) x (ltb-true x q b.0)) (high_parts set l xs b.1)

pub fips_high : FipsHigh
unfolding answer_of
fips_high s secret e kind x =
    rw kind (high_parts s.shape.set (ltb-true s.shape.set 2 (allowed s e).set-bit) secret x.below)

-- ---- Places and range of an answer

pub answer-length : (s : Settings) (secret : List ℕ) → length secret ≡ s.shape.n → length (answer_of s secret) ≡ answer_places (params_in s)
unfolding answer_of
answer-length s secret e = by (eqb s.shape.kind 0)
  where
    h : ℕ → ℕ
    h = high_part (scale_of s.shape.set)

    by : (b : Bool) → length (cond b (map h secret) (verdict q s.bound secret ∷ [])) ≡ cond b s.shape.n 1
    by true = length-map secret h ∙ e
    by false = refl

highs_below : (p : Scale) → Lawful p → (xs : List ℕ) → all_below p.parts (map (high_part p) xs) ≡ true
unfolding all_below every
highs_below p ok [] = refl
highs_below p ok (x ∷ xs) = rw (lt-ltb (high_part p x) p.parts (high_below p ok x)) (highs_below p ok xs)

verdict_small : (bound : ℕ) (secret : List ℕ) → verdict q bound secret < 2
unfolding verdict
verdict_small bound secret = omega (arith, bit_le (every (inside q bound) secret))

verdict-below : (bound : ℕ) (secret : List ℕ) → all_below 2 (verdict q bound secret ∷ []) ≡ true
unfolding all_below every
verdict-below bound secret = rw (lt-ltb (verdict q bound secret) 2 (verdict_small bound secret))

answer-below : (s : Settings) (secret : List ℕ) → settings_ok s ≡ true → all_below (answer_limit (params_in s)) (answer_of s secret) ≡ true
unfolding answer_of
answer-below s secret e = by (eqb s.shape.kind 0)
  where
    p : Scale
    p = scale_of s.shape.set

    by : (b : Bool) → all_below (cond b p.parts 2) (cond b (map (high_part p) secret) (verdict q s.bound secret ∷ [])) ≡ true
    by true = highs_below p (lawful s.shape.set (ltb-true s.shape.set 2 (allowed s e).set-bit)) secret
    by false = verdict-below s.bound secret

-- ---- What PlainRun asks

bound_some : (b : Bool) (bound : ℕ) → cond b (eqb bound 0) (leb 1 bound && leb bound 4190208) ≡ true
    → (cond b (eqb bound 0) (ltb 0 bound) ≡ true) × (2 * bound < q)
bound_some true bound e = (e, omega (arith, eqb-true bound 0 e))
bound_some false bound e =
    let y = both_yes (leb 1 bound) (leb bound 4190208) e in
    (lt-ltb 0 bound (omega (arith, leb-true 1 bound y.0)), omega (arith, leb-true bound 4190208 y.1))

-- the zero check's gap, by one test over all counts
gaps-fit : (n : ℕ) → n < 9 → q % (n + 1) ≤ gap q n
unfolding all_to
gaps-fit n l = leb-true (q % (n + 1)) (gap q n) (all_to-at 9 (λ (i : ℕ). leb (q % (i + 1)) (gap q i)) n refl l)

pub sound : (k : ℕ) (s : Settings) (secret draw : List ℕ) → settings_ok s ≡ true → Secret s secret → Possible k s draw
    → Sound (terms_of s) k draw secret
sound k s secret draw e x d =
    let a = allowed s e in
    let b = bound_some (eqb s.shape.kind 0) s.bound a.bound in
    let set_is : s.shape.set < 2 = ltb-true s.shape.set 2 a.set-bit in
    let n-most : s.shape.n ≤ 8 = leb-true s.shape.n 8 (both_yes (leb 1 s.shape.n) (leb s.shape.n 8) a.count).1 in
    record {
      lawful = lawful s.shape.set set_is;
      kinds = ltb-true s.shape.kind 2 a.kind-bit;
      counts = a.count;
      bounds = b.0;
      halves = b.1;
      room = shared-most s.shape set_is n-most;
      gaps = gaps-fit s.shape.n (omega arith);
      secret_size = x.size_is;
      secret_below = λ j. below_at q secret j (omega arith) x.below;
      draw_size = d.size_is;
      draw_below = λ j. below_at q draw j (omega arith) d.below;
    }

-- ---- The end of a run

counted-all : (s : Settings) → openings_up_to (params_in s) rounds ≡ all_openings s
unfolding openings_up_to sum_to openings
counted-all s = by (eqb s.shape.kind 0) refl
  where
    by : (b : Bool) → eqb s.shape.kind 0 ≡ b → openings_up_to (params_in s) rounds ≡ all_openings s
    by true e = rw e (omega arith)
    by false e = rw e (omega arith)

module _ (k : ℕ) (s : Settings) (serial : ℕ) (numbers : ℕ → List ℕ) where
  held_at : (h : PartyInput) → Which h → length (numbers (rounds - 1)) ≡ openings (params_in s) rounds → held_answer (side_at k s serial numbers h steps) ≡ numbers (rounds - 1)
  unfolding side_at begun_side openings
  held_at _ server e = front_list _ (numbers (rounds - 1)) (drop (length (numbers (rounds - 1))) (replicate 8 0)) e
  held_at _ phone e = front_list _ (numbers (rounds - 1)) (drop (length (numbers (rounds - 1))) (replicate 8 0)) e

  -- question 15, from what the side holds
  range_at : (h : PartyInput) (answer : List ℕ) → held_answer (side_at k s serial numbers h steps) ≡ answer
      → all_below (answer_limit (params_in s)) answer ≡ true → in_range (side_at k s serial numbers h steps) ≡ true
  unfolding in_range side_at begun_side
  range_at h answer e below = rw e below

  -- the answer call, from what the side holds
  given-at : (h : PartyInput) → finished (side_at k s serial numbers h steps) ≡ true → in_range (side_at k s serial numbers h steps) ≡ true
      → (answer : List ℕ) → held_answer (side_at k s serial numbers h steps) ≡ answer
      → (out : List ℕ) → answer_places (params_in s) ≤ length out
      → answer_call (side_at k s serial numbers h steps) out ≡ after_answer 0 (answer_places (params_in s)) (in_front answer out)
  unfolding answer_call answer_no ask side_at begun_side
  given-at h done range answer e out r = rw (done, range, le-leb (answer_places (params_in s)) (length out) r, ← e)

  ended_at : (h : PartyInput) → Which h → FieldsPass s serial h → (secret : List ℕ) → numbers (rounds - 1) ≡ answer_of s secret → length (numbers (rounds - 1)) ≡ openings (params_in s) rounds
      → settings_ok s ≡ true → Ended s secret (party_at k s serial numbers h steps)
  unfolding party_at
  ended_at h u t secret e l ok =
      let held = held_at h u l ∙ e in
      let range = range_at h (answer_of s secret) held (answer-below s secret ok) in
      record {
        done = done_at h u t;
        answer = held;
        in-range = range;
        gives = λ out r. given-at h (done_at h u t) range (answer_of s secret) held out r;
        openings = opened-at h u t ∙ counted-all s;
      }
    where
      done_at : (h : PartyInput) → Which h → FieldsPass s serial h → finished (side_at k s serial numbers h steps) ≡ true
      done_at h server t = finished-at k s serial numbers h (omega arith) t steps (omega arith)
      done_at h phone t = finished-at k s serial numbers h (omega arith) t steps (omega arith)

      opened-at : (h : PartyInput) → Which h → FieldsPass s serial h → count_call (side_at k s serial numbers h steps) ≡ openings_up_to (params_in s) rounds
      opened-at h server t = count_at k s serial numbers h (omega arith) t steps (omega arith)
      opened-at h phone t = count_at k s serial numbers h (omega arith) t steps (omega arith)

opened-size : (s : Settings) (width : ℕ) (draw secret : List ℕ)
    → length (plain_opened (terms_of s) width draw secret (rounds - 1)) ≡ openings (params_in s) rounds
unfolding plain_opened opened_from
opened-size s width draw secret = length-list_from 0 _ _

pub demand2 : (k : ℕ) → Progress k → PlainRun → Demand2 k
unfolding joint_at answer_of
demand2 k progress plain-run-law s serial keys0 keys1 f secret inputs draw x y d w i calls e =
    let numbers : ℕ → List ℕ = plain_opened (terms_of s) (width_of k) draw secret in
    let h : PartyInput = observer_input k s 0 keys0 keys1 inputs draw in
    let o : PartyInput = peer_input k s 0 keys0 keys1 inputs secret draw in
    let a : numbers (rounds - 1) ≡ answer_of s secret = plain-run-law.answer (terms_of s) k draw secret (sound k s secret draw f.settings x d) in
    let l = opened-size s (width_of k) draw secret in
    rw (progress s serial keys0 keys1 f 0 (omega arith) secret inputs draw x y d w i calls, carried k s calls e) (
      ended_at k s serial numbers h server (terms k s serial keys0 keys1 f 0 (omega arith) draw inputs) secret a l f.settings,
      ended_at k s serial numbers o phone (terms k s serial keys0 keys1 f 1 (omega arith) draw _) secret a l f.settings,
    )
