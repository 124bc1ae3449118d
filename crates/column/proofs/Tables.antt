-- Lists that hold a number for each column and opening, 32 places for a column, or for each column and gate, 16 places for a column.
use mathlib.Core.Path.{◌≡◌, sym, ap, ◌∙◌}
use mathlib.Core.Logic.{◌≢◌}
use mathlib.Core.Bool.{cond}
use mathlib.Core.List.{List}
use Prim.Native.Nat.{ℕ, ◌+◌, ◌*◌, ◌/◌, ◌%◌, ◌≤◌, ◌<◌}
use native.Mathlib.Decide.{dec_lt}
use native.Mathlib.Nat.{add_comm}
use native.Mathlib.Omega.{arith}
use lib.Dec.{eqb}
use lib.ListN.{length, get_or}
use borrow.Author.Tests.{eq-eqb, ne_eqb}
use Rattle.lists.specs.Lists.{fill_by}
use Rattle.lists.proofs.Strides.{stride-at, stride-other}
use Rattle.column.specs.Choice.{column_at}
use Rattle.column.specs.Held.{slot}

-- ---- A choice of columns

pub share_first : (skip f : ℕ) → f ≡ 0 → 0 ≡ column_at skip f
unfolding column_at
share_first skip f e = rw (eq-eqb f 0 e)

pub part_later : (skip f : ℕ) → f ≢ 0 → f + skip ≡ column_at skip f
unfolding column_at
part_later skip f e = rw (ne_eqb f 0 e)

-- all columns
pub column-all : (f : ℕ) → column_at 0 f ≡ f
unfolding column_at
column-all f = go (dec_lt 0 f)
  where
    go : Dec (0 < f) → cond (eqb f 0) 0 (f + 0) ≡ f
    go (yes h) = rw (ne_eqb f 0 (omega arith)) (omega arith)
    go (no h) = let e : f ≡ 0 = omega arith in rw (eq-eqb f 0 e) (sym e)

-- ---- Openings: number F f o at place 32 × f + o

module _ (F : ℕ → ℕ → ℕ) (out : List ℕ) where
  -- one opening more, in n columns
  pub openings_more : (n o : ℕ) (after : List ℕ) → o < 32 → 32 * n ≤ length out → after ≡ fill_by 32 out o n (λ (f : ℕ). F f o)
      → ((d k : ℕ) → d < n → k < o → get_or out (32 * d + k) 0 ≡ F d k)
      → (d k : ℕ) → d < n → k < o + 1 → get_or after (32 * d + k) 0 ≡ F d k
  openings_more n o after few room e h d k l m = rw e (go (dec_lt k o))
    where
      go : Dec (k < o) → get_or (fill_by 32 out o n (λ (f : ℕ). F f o)) (32 * d + k) 0 ≡ F d k
      go (yes p) = stride-other 32 out o n (λ (f : ℕ). F f o) (32 * d + k) (λ j b. omega arith) ∙ h d k l p
      go (no p) =
          let at : k ≡ o = omega arith in
          rw (at, add_comm (32 * d) o) (stride-at 32 out o n (λ (f : ℕ). F f o) d (omega arith) (omega arith) l)

-- ---- Registers: number F c g at place 16 × c + slot g, for at most 16 gates

pub slots_differ : (c d g k : ℕ) → g < 16 → k < 16 → k ≢ g → 16 * c + slot k ≢ slot g + 16 * d
slots_differ c d g k h l n e =
    let a : (16 * c + slot k) % 16 ≡ slot k = omega arith in
    let b : (slot g + 16 * d) % 16 ≡ slot g = omega arith in
    let same : slot k ≡ slot g = sym a ∙ ap (λ (x : ℕ). x % 16) e ∙ b in
    let half : (8 * (k % 2) + k / 2) % 8 ≡ k / 2 = omega arith in
    let half' : (8 * (g % 2) + g / 2) % 8 ≡ g / 2 = omega arith in
    let halves : k / 2 ≡ g / 2 = sym half ∙ ap (λ (x : ℕ). x % 8) same ∙ half' in
    n (omega arith)

module _ (F : ℕ → ℕ → ℕ) (next : List ℕ) where
  -- one gate more, in n columns
  pub slots_more : (n g : ℕ) (after : List ℕ) → g < 16 → 16 * n ≤ length next
      → after ≡ fill_by 16 next (slot g) n (λ (c : ℕ). F c g)
      → ((c k : ℕ) → c < n → k < g → get_or next (16 * c + slot k) 0 ≡ F c k)
      → (c k : ℕ) → c < n → k < g + 1 → get_or after (16 * c + slot k) 0 ≡ F c k
  slots_more n g after few room e h c k l m = rw e (go (dec_lt k g))
    where
      go : Dec (k < g) → get_or (fill_by 16 next (slot g) n (λ (c : ℕ). F c g)) (16 * c + slot k) 0 ≡ F c k
      go (yes p) = stride-other 16 next (slot g) n (λ (c : ℕ). F c g) (16 * c + slot k) (λ j b. slots_differ c j g k few (omega arith) (omega arith)) ∙ h c k l p
      go (no p) =
          let at : k ≡ g = omega arith in
          rw (at, add_comm (16 * c) (slot g)) (stride-at 16 next (slot g) n (λ (c : ℕ). F c g) c (omega arith) (omega arith) l)
