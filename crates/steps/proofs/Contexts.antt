-- The context of a round: how many numbers it splits, which of them a gate looks at, and that their digits are below their bases.
use mathlib.Core.Path.{◌≡◌, refl, ap, ◌∙◌}
use mathlib.Core.Logic.{◌≢◌}
use mathlib.Core.Bool.{Bool, true, false, cond}
use mathlib.Core.List.{List}
use Prim.Native.Nat.{ℕ, ◌+◌, ◌*◌, ◌/◌, ◌%◌, ◌≤◌, ◌<◌}
use native.Mathlib.Decide.{dec_lt}
use native.Mathlib.Nat.{add-zero}
use native.Mathlib.Omega.{arith}
use lib.Dec.{eqb}
use lib.ListN.{length, get_or, set}
use lib.Seq.{get_or-set_same, get_or-set_other}
use borrow.Author.Tests.{eq-eqb, ne_eqb, le-leb, le-ltb}
use Rattle.field.specs.Field.{q}
use Rattle.settings.specs.declared.Shape.{Shape}
use Rattle.settings.specs.declared.Settings.{Settings}
use Rattle.settings.specs.Sets.{scale_of}
use Rattle.settings.proofs.Sets.{lawful}
use Rattle.rounding.specs.declared.Split.{Split}
use Rattle.rounding.specs.Rounds.{threshold}
use Rattle.rounding.proofs.Radix.{digit_below}
use Rattle.steps.specs.declared.Context.{Context}
use Rattle.steps.specs.Steps.{looked_at}
use Rattle.steps.specs.Context.{looks_at, split_count, number_at, split_place, split_in, ContextOf, SplitsBelow}
use Rattle.steps.proofs.Bounds.{threshold-below}

-- rounds 2 to 5 look at digits
pub looks_middle : (kind round : ℕ) → 2 ≤ round → round ≤ 5 → looks_at kind round ≡ true
unfolding looks_at
looks_middle kind round h l = rw (le-ltb round 2 h, le-leb round 5 l, le-leb round 6 (omega arith)) (go (eqb kind 0))
  where
    go : (b : Bool) → cond b true true ≡ true
    go true = refl
    go false = refl

-- and so does round 6 of BOUND
pub looks_bound : (kind round : ℕ) → kind ≢ 0 → round ≡ 6 → looks_at kind round ≡ true
unfolding looks_at
looks_bound kind round e six = rw (six, ne_eqb kind 0 e)

-- how many numbers are split by a test
pub counted-all : {b : Bool} {n : ℕ} → b ≡ true → cond b n 0 ≡ n
counted-all e = rw e

pub counted_none : {b : Bool} (n : ℕ) → b ≡ false → cond b n 0 ≡ 0
counted_none n e = rw e

pub counted-most : (b : Bool) (n : ℕ) → cond b n 0 ≤ n
counted-most true n = omega arith
counted-most false n = omega arith

module _ (shape : Shape) where
  pub count-high : shape.kind ≡ 0 → split_count shape ≡ shape.n
  unfolding split_count
  count-high e = rw (eq-eqb shape.kind 0 e)

  pub count-bound : shape.kind ≢ 0 → split_count shape ≡ 2 * shape.n
  unfolding split_count
  count-bound e = rw (ne_eqb shape.kind 0 e)

  pub count_most : shape.n ≤ 8 → split_count shape ≤ 16
  unfolding split_count
  count_most h = go (eqb shape.kind 0)
    where
      go : (b : Bool) → cond b shape.n (2 * shape.n) ≤ 16
      go true = omega arith
      go false = omega arith

  -- the number that a gate looks at is one of those split
  pub place_in : (g : ℕ) → g < 2 * shape.n → split_place shape.kind g < split_count shape
  unfolding split_place split_count
  place_in g h = go (eqb shape.kind 0)
    where
      go : (b : Bool) → cond b (g / 2) g < cond b shape.n (2 * shape.n)
      go true = omega arith
      go false = h

-- and it is what the steps look at
pub number_looked : (settings : Settings) (masked : ℕ → ℕ) (g : ℕ)
    → number_at settings masked (split_place settings.shape.kind g) ≡ looked_at q settings.shape.kind settings.bound (g % 2) (masked (g / 2))
unfolding number_at split_place looked_at
number_looked settings masked g = go (eqb settings.shape.kind 0)
  where
    go : (b : Bool) → cond b (masked (cond b (g / 2) g)) (threshold q settings.bound (cond b (g / 2) g % 2) (masked (cond b (g / 2) g / 2)))
        ≡ cond b (masked (g / 2)) (threshold q settings.bound (g % 2) (masked (g / 2)))
    go true = refl
    go false = refl

-- numbers below q are split into numbers below q
number-below : (settings : Settings) (masked : ℕ → ℕ) → ((j : ℕ) → masked j < q) → (x : ℕ) → number_at settings masked x < q
unfolding number_at
number-below settings masked h x = go (eqb settings.shape.kind 0)
  where
    go : (b : Bool) → cond b (masked x) (threshold q settings.bound (x % 2) (masked (x / 2))) < q
    go true = h x
    go false = threshold-below settings.bound (x % 2) (masked (x / 2))

pub splits_below : (settings : Settings) (round : ℕ) (masked : ℕ → ℕ) (context : Context) → settings.shape.set < 2 → ((j : ℕ) → masked j < q)
    → looks_at settings.shape.kind round ≡ true → ContextOf settings round masked context → SplitsBelow context
splits_below settings round masked context hs h looks made x i b l =
    let set = settings.shape.set in
    let at = rw made.settings_kept at b in
    rw (made.settings_kept, made.split looks x at)
    (digit_below (scale_of set) (lawful set hs) (number_at settings masked x) i (number-below settings masked h x) l)

-- one number more is split
pub split-more : (s : List Split) (f : ℕ → Split) (k : ℕ) (v none : Split) → k < length s → v ≡ f k → ((x : ℕ) → x < k → get_or s x none ≡ f x)
    → (x : ℕ) → x < k + 1 → get_or (set s k v) x none ≡ f x
split-more s f k v none room e h x l = go (dec_lt x k)
  where
    go : Dec (x < k) → get_or (set s k v) x none ≡ f x
    go (yes p) = get_or-set_other s k x v none (omega arith) ∙ h x p
    go (no p) =
        let at : x ≡ k = omega arith in
        rw at (get_or-set_same s k v none room ∙ e)

-- BOUND: hi and lo of coefficient j
module _ (settings : Settings) (round : ℕ) (masked : ℕ → ℕ) (context : Context) (made : ContextOf settings round masked context) (bound : settings.shape.kind ≢ 0)
    (six : round ≡ 6) (j : ℕ) (h : j < settings.shape.n) where
  threshold-at : (which : ℕ) → which < 2 → (split_in context (2 * j + which)).number ≡ threshold q settings.bound which (masked j)
  unfolding number_at
  threshold-at which l =
      let two : (2 * j + which) % 2 ≡ which = omega arith in
      let half : (2 * j + which) / 2 ≡ j = omega arith in
      ap (λ (s : Split). s.number) (made.split (looks_bound settings.shape.kind round bound six) (2 * j + which) (omega (arith, count-bound settings.shape bound)))
      ∙ rw (ne_eqb settings.shape.kind 0 bound, two, half)

  pub hi_is : (split_in context (2 * j)).number ≡ threshold q settings.bound 0 (masked j)
  hi_is = rw add-zero at (threshold-at 0 (omega arith))

  pub lo_is : (split_in context (2 * j + 1)).number ≡ threshold q settings.bound 1 (masked j)
  lo_is = threshold-at 1 (omega arith)
