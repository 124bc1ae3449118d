-- The sizes of books, draws, openings and answers.
use mathlib.Core.Path.{◌≡◌, refl}
use mathlib.Core.Bool.{Bool, true, false, cond}
use mathlib.Core.Logic.{◌≢◌}
use Prim.Native.Nat.{ℕ, zero, suc, ◌+◌, ◌*◌, ◌≤◌, ◌<◌}
use native.Mathlib.Nat.{mul-le-mul}
use native.Mathlib.Omega.{arith}
use lib.Dec.{eqb, leb}
use borrow.Author.Tests.{eq-eqb, ne_eqb}
use Rattle.field.specs.Sums.{sum_to}
use Rattle.settings.specs.declared.Shape.{Shape}
use Rattle.settings.specs.Sets.{scale_of, base, top_digits}
use Rattle.settings.specs.Settings.{Params, params_of}
use Rattle.settings.specs.Sizes.{openings, openings_up_to, stride, shared, draw_length, answer_places}
use Rattle.settings.specs.Theorems.{SizeLaws}
use Rattle.settings.proofs.Sets.{lawful, top-length, top_entry}

-- ---- openings

-- no round has more than four openings a coefficient
pub openings-most : (p : Params) (round : ℕ) → p.n ≤ 8 → openings p round ≤ 32
unfolding openings
openings-most p round h = by (eqb round 1) (leb round 5) (eqb p.kind 0)
  where
    by : (a b c : Bool) → cond a p.n (cond b (4 * p.n) (cond c p.n 1)) ≤ 32
    by true b c = omega arith
    by false true c = omega arith
    by false false true = omega arith
    by false false false = omega arith

-- ---- answers

pub answer-most : (p : Params) → p.n ≤ 8 → answer_places p ≤ 8
answer-most p h = by (eqb p.kind 0)
  where
    by : (b : Bool) → cond b p.n 1 ≤ 8
    by true = h
    by false = omega arith

-- ---- books and draws, by the kind, as the code computes them

module _ (p : Params) where
  pub shared-high : p.kind ≡ 0 → shared p ≡ p.n * stride p
  unfolding shared
  shared-high e = rw (eq-eqb p.kind 0 e) (omega arith)

  pub shared-bound : p.kind ≢ 0 → shared p ≡ p.n * stride p + (p.n + 3)
  unfolding shared
  shared-bound e = rw (ne_eqb p.kind 0 e)

  pub draw-high : (width : ℕ) → p.kind ≡ 0 → draw_length p width ≡ shared p * width + 18 * p.n
  unfolding draw_length
  draw-high width e = rw (eq-eqb p.kind 0 e) (omega arith)

  pub draw-bound : (width : ℕ) → p.kind ≢ 0 → draw_length p width ≡ shared p * width + (17 * p.n + 1)
  unfolding draw_length
  draw-bound width e = rw (ne_eqb p.kind 0 e)

-- the vectors of each set
pub vectors-sum : (set : ℕ) → set < 2 → sum_to 5 (base (scale_of set)) ≤ 132
unfolding sum_to
vectors-sum zero h = omega arith
vectors-sum (suc zero) h = omega arith
vectors-sum (suc (suc set)) h = absurd (omega arith)

pub stride_most : (p : Params) → sum_to 5 (base p.scale) ≤ 132 → stride p ≤ cond (eqb p.kind 0) 165 157
unfolding stride
stride_most p l = by (eqb p.kind 0)
  where
    by : (b : Bool) → 1 + sum_to 5 (base p.scale) + 24 + cond b 8 0 ≤ cond b 165 157
    by true = omega arith
    by false = omega arith

-- a book fits a column
pub shared-most : (a : Shape) → a.set < 2 → a.n ≤ 8 → shared (params_of a) ≤ 1320
unfolding shared
shared-most a h k = by (eqb a.kind 0) (stride_most (params_of a) (vectors-sum a.set h))
  where
    by : (b : Bool) → stride (params_of a) ≤ cond b 165 157 → a.n * stride (params_of a) + cond b 0 (a.n + 3) ≤ 1320
    by true e = omega (arith, mul-le-mul k e)
    by false e = omega (arith, mul-le-mul k e)

pub size_laws : SizeLaws
unfolding shared stride sum_to draw_length openings_up_to openings
size_laws =
    record {
      sets = lawful;
      high_0 = λ n. omega arith;
      high_1 = λ n. omega arith;
      bound_0 = λ n. omega arith;
      bound_1 = λ n. omega arith;
      nine = refl;
      five = λ p round. refl;
      high_draw = λ set n. omega arith;
      bound_draw = λ set n. omega arith;
      high_openings = λ set n. omega arith;
      bound_openings = λ set n. omega arith;
      work = refl;
      work_for = λ k. refl;
      list_0 = top-length (scale_of 0).parts;
      list_1 = top-length (scale_of 1).parts;
      entries = λ s d. top_entry (top_digits s) s d refl;
      at_most = λ a r. shared-most a r.sets r.most;
    }
