-- What a round makes of a working slice, place by place: a column's registers, a side's own openings, the masked numbers.
use mathlib.Core.Path.{◌≡◌, ap, fun_ext, ◌∙◌}
use mathlib.Core.Bool.{cond}
use mathlib.Core.List.{List}
use Prim.Native.Nat.{ℕ, ◌+◌, ◌-◌, ◌*◌, ◌≤◌, ◌<◌}
use native.Mathlib.Omega.{arith}
use native.Mathlib.Decide.{dec_lt}
use lib.Dec.{eqb, ltb}
use borrow.Author.Tests.{lt-ltb, le-ltb}
use lib.ListN.{length, get_or}
use Rattle.lists.specs.Lists.{fill}
use Rattle.lists.proofs.Fill.{fill-at, fill-before, fill-behind, length-fill}
use Rattle.field.specs.Forms.{Registers, updated}
use Rattle.settings.specs.Settings.{Terms}
use Rattle.settings.specs.Sizes.{openings, places}
use Rattle.settings.proofs.Sizes.{openings-most}
use Rattle.slice.specs.Layout.{running_at, own_at, column, own_in}
use Rattle.steps.specs.Steps.{Public, public_of}
use Rattle.steps.specs.Work.{opening_on, running_on, taken_column}

-- what a round makes of a column's registers
abbrev pub stepped : Public → ℕ → (ℕ → ℕ) → ℕ → Registers → Registers
stepped w round opened κ r =
    updated (updated r (running_at 0 0) w.params.n (running_on w round opened κ r 0)) (running_at 1 0) w.params.n (running_on w round opened κ r 1)

-- what both sides know while they take a round, from the masked numbers that the slice holds
abbrev pub taking : Terms → ℕ → (ℕ → ℕ) → (ℕ → ℕ) → Public
taking T round opened masked = public_of T (cond (eqb round 1) opened masked)

-- the masked numbers after a round
abbrev pub masked_after : ℕ → ℕ → (ℕ → ℕ) → (ℕ → ℕ) → ℕ → ℕ
masked_after n round opened masked c = cond (eqb round 1) (cond (ltb c n) (opened c) (masked c)) (masked c)

-- ---- a run of places filled, and a column's registers

-- in the registers of the same column
pub column-fill : (s : List ℕ) (c a n : ℕ) (f : ℕ → ℕ) → c * places + a + n ≤ length s → a + n ≤ own_at 0 → (i : ℕ)
    → column (fill s (c * places + a) n f) c i ≡ updated (column s c) a n f i
unfolding column
column-fill s c a n f r l i = go (dec_lt i a) (dec_lt i (a + n))
  where
    go : Dec (i < a) → Dec (i < a + n)
        → cond (ltb i 1344) (get_or (fill s (c * 1536 + a) n f) (c * 1536 + i) 0) 0
        ≡ cond (ltb i a) (cond (ltb i 1344) (get_or s (c * 1536 + i) 0) 0) (cond (ltb i (a + n)) (f (i - a)) (cond (ltb i 1344) (get_or s (c * 1536 + i) 0) 0))
    go (yes x) y = rw (lt-ltb i a x, fill-before s (c * 1536 + a) n f (c * 1536 + i) (omega arith))
    go (no x) (yes y) =
        let e : c * 1536 + a + (i - a) ≡ c * 1536 + i = omega arith in
        rw (le-ltb i a (omega arith), lt-ltb i (a + n) y, lt-ltb i 1344 (omega arith))
        (rw e at (fill-at s (c * 1536 + a) n f (i - a) r (omega arith)))
    go (no x) (no y) =
        rw (le-ltb i a (omega arith), le-ltb i (a + n) (omega arith), fill-behind s (c * 1536 + a) n f (c * 1536 + i) (omega arith))

-- two slices with the same numbers at a column's registers
pub column-same : (s t : List ℕ) (c : ℕ) → ((i : ℕ) → i < 1344 → get_or s (c * places + i) 0 ≡ get_or t (c * places + i) 0) → (i : ℕ) → column s c i ≡ column t c i
unfolding column
column-same s t c h i = go (dec_lt i 1344)
  where
    go : Dec (i < 1344) → cond (ltb i 1344) (get_or s (c * 1536 + i) 0) 0 ≡ cond (ltb i 1344) (get_or t (c * 1536 + i) 0) 0
    go (yes x) = rw (h i x)
    go (no x) = rw (le-ltb i 1344 (omega arith))

-- ---- a round in one column

module _ (w : Public) (round : ℕ) (opened : ℕ → ℕ) (most : w.params.n ≤ 8) (c κ : ℕ) (s : List ℕ) where
  abbrev own : ℕ → ℕ
  own = opening_on w round κ (column s c)

  abbrev first : ℕ → ℕ
  first = running_on w round opened κ (column s c) 0

  abbrev second : ℕ → ℕ
  second = running_on w round opened κ (column s c) 1

  abbrev count : ℕ
  count = openings w.params round

  abbrev taken : List ℕ
  taken = taken_column w round opened c κ s

  pub length_taken : length taken ≡ length s
  unfolding taken_column
  length_taken = length-fill _ _ _ second ∙ length-fill _ _ _ first ∙ length-fill s (c * places + 1344) count own

  -- places before and behind those that are written
  pub taken-before : (j : ℕ) → j < c * places + 1328 → get_or taken j 0 ≡ get_or s j 0
  unfolding taken_column
  taken-before j h =
      fill-before _ (c * places + 1336) w.params.n second j (omega arith)
      ∙ fill-before _ (c * places + 1328) w.params.n first j (omega arith)
      ∙ fill-before s (c * places + 1344) count own j (omega arith)

  pub taken-behind : (j : ℕ) → c * places + 1376 ≤ j → get_or taken j 0 ≡ get_or s j 0
  unfolding taken_column
  taken-behind j h =
      let k = openings-most w.params round most in
      fill-behind _ (c * places + 1336) w.params.n second j (omega arith)
      ∙ fill-behind _ (c * places + 1328) w.params.n first j (omega arith)
      ∙ fill-behind s (c * places + 1344) count own j (omega arith)

  -- the column itself
  pub column-taken : c * places + places ≤ length s → (i : ℕ) → column taken c i ≡ stepped w round opened κ (column s c) i
  unfolding taken_column
  column-taken r i =
      let t = fill s (c * places + 1344) count own in
      let u = fill t (c * places + 1328) w.params.n first in
      let lt : length t ≡ length s = length-fill s (c * places + 1344) count own in
      let lu : length u ≡ length t = length-fill t (c * places + 1328) w.params.n first in
      let e : column t c ≡ column s c = fun_ext (column-same t s c (λ k l. fill-before s (c * places + 1344) count own (c * places + k) (omega arith))) in
      column-fill u c 1336 w.params.n second (omega arith) (omega arith) i
      ∙ ap (λ (x : ℕ). cond (ltb i 1336) x (cond (ltb i (1336 + w.params.n)) (second (i - 1336)) x))
      (column-fill t c 1328 w.params.n first (omega arith) (omega arith) i ∙ ap (λ (r : Registers). updated r 1328 w.params.n first i) e)

  -- and its openings
  pub own-taken : c * places + places ≤ length s → (o : ℕ) → o < count → own_in taken c o ≡ own o
  unfolding taken_column own_in
  own-taken r o h =
      let k = openings-most w.params round most in
      let e : c * places + 1344 + o ≡ c * places + (1344 + o) = omega arith in
      fill-behind _ (c * places + 1336) w.params.n second (c * places + own_at o) (omega arith)
      ∙ fill-behind _ (c * places + 1328) w.params.n first (c * places + own_at o) (omega arith)
      ∙ (rw e at (fill-at s (c * places + 1344) count own o (omega arith) h))
