-- Progress of each side by itself: 0, not begun in this list; m + 1, begun and m of its steps made.
use Prim.Native.Nat.{ℕ, zero, suc, ◌-◌, ◌%◌, ◌≤◌, ◌<◌}
use mathlib.Core.Path.{◌≡◌, refl}
use mathlib.Core.List.{List}
use mathlib.Core.Bool.{Bool, true, false, not, ◌&&◌}
use native.Mathlib.Omega.{arith}
use lib.ListN.{length}
use lib.Dec.{ltb}
use borrow.Author.Tests.{ltb-true, eqb-true, eqb-false}
use Rattle.settings.specs.Schedule.{rounds, steps, round_after, sends_after, taken_by, send_step, take_step}
use Rattle.settings.proofs.Schedule.{send_on, take_on, send_sends, take_takes, send-round}
use Rattle.settings.specs.declared.Settings.{Settings}
use Rattle.runs.specs.Records.{Call}
use Rattle.runs.specs.Records.Call.{begin, send, take_latest, answer, count}
use Rattle.runs.specs.Progress.{taken_of, sent_of, onward, room_for, next}

never : (a b : Bool) → (a && false && b) ≡ false
never true b = refl
never false b = refl

-- a call at side `number`, at each stage
module _ (k : ℕ) (s : Settings) (number heard : ℕ) (u : number < 2) where
  pub next-send : (R : ℕ) → R < rounds → (out : List ℕ)
      → next k s number heard (send out) (suc (send_step number R)) ≡ onward (room_for k s (suc R) (length out)) (suc (send_step number R))
  unfolding next
  next-send R r out =
      rw (send_sends number R u r, send_on number R u r, send-round number R u r)

  pub next_send_not : (R : ℕ) → R < rounds → (out : List ℕ) → next k s number heard (send out) (suc (take_step number R)) ≡ suc (take_step number R)
  unfolding next
  next_send_not R r out = rw (take_takes number R u r)

  pub next-take : (R : ℕ) → R < rounds → next k s number heard take_latest (suc (take_step number R)) ≡ onward (ltb R heard) (suc (take_step number R))
  unfolding next
  next-take R r =
      let e : taken_by number (take_step number R) ≡ R = omega arith in
      rw (take_takes number R u r, take_on number R u r, e)

  pub next_take_not : (R : ℕ) → R < rounds → next k s number heard take_latest (suc (send_step number R)) ≡ suc (send_step number R)
  unfolding next
  next_take_not R r = rw (send_sends number R u r)

  pub next_end_send : (out : List ℕ) → next k s number heard (send out) (suc steps) ≡ suc steps
  unfolding next
  next_end_send out = rw (never (sends_after number steps) (room_for k s (round_after steps) (length out)))

  pub next_end_take : next k s number heard take_latest (suc steps) ≡ suc steps
  unfolding next
  next_end_take = rw (never (not (sends_after number steps)) (ltb (taken_by number steps) heard))

-- ---- The two counts keep pace

-- what a call makes of a count
pub data Moved (number heard : ℕ) : Call → ℕ → ℕ → Type 0 where
  stays : {call : Call} {c : ℕ} → Moved number heard call c c
  began : Moved number heard begin 0 1
  sent : {out : List ℕ} {m : ℕ} → m % 2 ≡ number → m < steps → Moved number heard (send out) (suc m) (suc (suc m))
  took : {m : ℕ} → (m % 2 ≡ number → ⊥) → m < steps → taken_by number m < heard → Moved number heard take_latest (suc m) (suc (suc m))

module _ (number heard m : ℕ) where
  sent_if : (out : List ℕ) (a b r : Bool) → (a ≡ true → m % 2 ≡ number) → (b ≡ true → m < steps)
      → Moved number heard (send out) (suc m) (onward (a && b && r) (suc m))
  sent_if out false b r f g = stays
  sent_if out true false r f g = stays
  sent_if out true true false f g = stays
  sent_if out true true true f g = sent (f refl) (g refl)

  took_if : (a b r : Bool) → (a ≡ false → m % 2 ≡ number → ⊥) → (b ≡ true → m < steps) → (r ≡ true → taken_by number m < heard)
      → Moved number heard take_latest (suc m) (onward (not a && b && r) (suc m))
  took_if true b r f g h = stays
  took_if false false r f g h = stays
  took_if false true false f g h = stays
  took_if false true true f g h = took (f refl) (g refl) (h refl)

pub next-moved : (k : ℕ) (s : Settings) (number heard : ℕ) (call : Call) (c : ℕ) → Moved number heard call c (next k s number heard call c)
unfolding next
next-moved k s number heard begin zero = began
next-moved k s number heard begin (suc m) = stays
next-moved k s number heard (send out) zero = stays
next-moved k s number heard (send out) (suc m) = sent_if number heard m out _ _ _ (eqb-true _ _) (ltb-true _ _)
next-moved k s number heard take_latest zero = stays
next-moved k s number heard take_latest (suc m) = took_if number heard m _ _ _ (eqb-false _ _) (ltb-true _ _) (ltb-true _ _)
next-moved k s number heard (answer out) c = stays
next-moved k s number heard count c = stays

pub record Pace (number a b : ℕ) : Type 0 where
  pub own-most : a ≤ suc steps
  pub other-most : b ≤ suc steps
  pub own-after : taken_of number a ≤ sent_of (1 - number) b
  pub other_after : taken_of (1 - number) b ≤ sent_of number a

pub pace_swap : (number a b : ℕ) → number < 2 → Pace number a b → Pace (1 - number) b a
pace_swap number a b u p =
    let e : 1 - (1 - number) ≡ number = omega arith in
    record { own-most = p.other-most; other-most = p.own-most; own-after = rw e p.other_after; other_after = rw e p.own-after }

pub pace_moved : (number : ℕ) (call : Call) (a a' b : ℕ) → number < 2 → Pace number a b → Moved number (sent_of (1 - number) b) call a a' → Pace number a' b
pace_moved number _ _ _ b u p stays = p
pace_moved number _ _ _ b u p began =
    record { own-most = omega arith; other-most = p.other-most; own-after = omega (arith, p.own-after, u); other_after = omega (arith, p.other_after) }
pace_moved number _ _ _ b u p (sent {m} e l) =
    record { own-most = omega arith; other-most = p.other-most; own-after = omega (arith, p.own-after, u); other_after = omega (arith, p.other_after) }
pace_moved number _ _ _ b u p (took {m} e l i) =
    record { own-most = omega arith; other-most = p.other-most; own-after = omega (arith, i, u); other_after = omega (arith, p.other_after) }

-- a side has heard at most one message more than it has taken
pub heard_most : (number a b : ℕ) → number < 2 → Pace number a b → sent_of (1 - number) b ≤ suc (taken_of number a)
heard_most number zero zero u p = omega arith
heard_most number (suc m) zero u p = omega arith
heard_most number zero (suc n) u p = omega (arith, p.other_after)
heard_most number (suc m) (suc n) u p = omega (arith, p.other_after)
