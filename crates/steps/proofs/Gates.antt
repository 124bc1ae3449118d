-- A gate as the code has it: it fits its column, its forms are those of the steps, and its result from the numbers that a side holds.
use mathlib.Core.Path.{◌≡◌}
use mathlib.Core.List.{List}
use Prim.Native.Nat.{ℕ, ◌+◌, ◌-◌, ◌*◌, ◌/◌, ◌%◌, ◌≤◌, ◌<◌}
use native.Mathlib.Nat.{add-zero}
use native.Mathlib.Omega.{arith}
use lib.Dec.{lit<}
use lib.ListN.{get_or}
use borrow.Author.Tests.{lt-ltb, le-ltb}
use Rattle.field.specs.Field.{q, add, sub, mul}
use Rattle.field.proofs.Solve.{at, ◌⊕◌, ◌⊖◌, ◌⊗◌, neg, red, solve}
use Rattle.settings.specs.declared.Shape.{Shape}
use Rattle.settings.specs.declared.Settings.{Settings}
use Rattle.settings.specs.Sets.{scale_of, base}
use Rattle.settings.specs.Settings.{params_of}
use Rattle.settings.specs.Questions.{ShapeReady}
use Rattle.book.specs.Book.{triple_at}
use Rattle.settings.proofs.Sets.{lawful, base-range}
use Rattle.rounding.specs.declared.Split.{Split}
use Rattle.rounding.specs.Digits.{split_of}
use Rattle.slice.specs.Weights.{rule_of, TopFits}
use Rattle.slice.specs.declared.Weighted.{Weighted}
use Rattle.slice.specs.declared.Rule.TheVariants.{Top}
use Rattle.steps.specs.Steps.{looked_at, limit_of, vector_sum, addend, factor_u, factor_v, open_factor, gate_result}
use Rattle.steps.specs.Context.{public_by}
use Rattle.steps.specs.Gates.{terms_at, gate_at, sum_form, addend_form, u_form, v_form, open_u, open_v, result_form, TermsFit, Listed}
use Rattle.steps.proofs.Bounds.{vector_room, zero-low, top-last, limit-range}

-- ---- Bounds

pub terms_fit : (shape : Shape) (split : Split) (g i : ℕ) → ShapeReady shape → g < 2 * shape.n → i < 5
    → get_or split.digits i 0 < base (scale_of shape.set) i → TermsFit (terms_at shape split g i)
unfolding limit_of
terms_fit shape split g i ready hg hi below =
    let b = base-range shape.set i ready.sets hi in
    let l = limit-range shape.set i ready.sets hi in
    record {
      room = vector_room shape (g / 2) i ready.sets ready.kinds (omega (arith, ready.most)) hi;
      few = b.1;
      limit_some = l.0;
      limit_most = l.1;
      digit_below = below;
      zero_fits = λ rule. limit-low (zero-low shape.kind i (g % 2) rule);
      top_fits = λ rule. limit-last (top-last shape.kind i (g % 2) rule).1;
    }
  where
    limit-low : i < 4 → base (scale_of shape.set) i ≡ limit_of (scale_of shape.set) i
    limit-low low = rw (lt-ltb i 4 low)

    limit-last : 4 ≤ i → base (scale_of shape.set) i ≡ limit_of (scale_of shape.set) i + 1
    limit-last last =
        let e : i ≡ 4 = omega arith in
        rw (le-ltb i 4 last, e) (lawful shape.set ready.sets).last

-- a list of the set is that of its gates (`Listed` of `terms_at`): Top is HIGH's at digit 4, whose limit is s
pub listed : (lists : ℕ → List ℕ) (shape : Shape) (g i : ℕ) (list : List ℕ) → (shape.kind ≡ 0 → 4 ≤ i → list ≡ lists (scale_of shape.set).parts)
    → rule_of shape.kind i (g % 2) ≡ Top → list ≡ lists (limit_of (scale_of shape.set) i)
unfolding limit_of
listed lists shape g i list e rule =
    let last = top-last shape.kind i (g % 2) rule in
    rw (le-ltb i 4 last.1) (e last.0 last.1)

-- and what a sum over it asks for
pub top_ready : (lists : ℕ → List ℕ) (t : Weighted) (list : List ℕ) → TermsFit t → Listed lists t list → t.rule ≡ Top → TopFits lists t list
top_ready lists t list fits is rule =
    let n = fits.top_fits rule in
    (is rule, omega (arith, n), omega (arith, n, fits.digit_below))

-- ---- The forms of a gate that looks at the number of its coefficient

module _ (settings : Settings) (masked : ℕ → ℕ) (split : Split) (g i : ℕ)
    (looks : split ≡ split_of (scale_of settings.shape.set) (looked_at q settings.shape.kind settings.bound (g % 2) (masked (g / 2)))) where
  pub sum_is : (up : ℕ) → sum_form (terms_at settings.shape split g i) up ≡ vector_sum (public_by settings masked) (g / 2) i (g % 2) up
  unfolding vector_sum
  sum_is up = rw looks

  pub open_u_is : open_u (gate_at settings.shape split g i) ≡ open_factor (public_by settings masked) (g / 2) i (g % 2) 0
  unfolding open_factor u_form factor_u
  open_u_is = rw (looks, add-zero (triple_at (params_of settings.shape) (g / 2) (2 * (i - 1) + g % 2)))

  pub open_v_is : open_v (gate_at settings.shape split g i) ≡ open_factor (public_by settings masked) (g / 2) i (g % 2) 1
  unfolding open_factor v_form factor_v vector_sum
  open_v_is = rw looks

  pub result-is : (e f : ℕ) → result_form (gate_at settings.shape split g i) e f ≡ gate_result (public_by settings masked) (g / 2) i (g % 2) e f
  unfolding gate_result addend_form u_form v_form addend factor_u factor_v vector_sum
  result-is e f = rw looks

-- ---- The result, with u and v from the numbers that were opened for them

pub gate_sum : (sum first second third e f κ a b u v : ℕ) → u ≡ sub q first a → v ≡ sub q second b
    → (sum + e * (v + b) + f * (u + a) + third + (q - e * f % q) * κ) % q
    ≡ sub q (add q (add q (add q sum (mul q e second)) (mul q f first)) third) (mul q κ (e * f % q))
gate_sum sum first second third e f κ a b u v eu ev =
    rw (eu, ev)
    (solve q (lit< tt)
    (at sum ⊕ at e ⊗ (red (at second ⊖ at b) ⊕ at b) ⊕ at f ⊗ (red (at first ⊖ at a) ⊕ at a) ⊕ at third ⊕ neg (at e ⊗ at f) ⊗ at κ)
    (red (red (red (at sum ⊕ red (at e ⊗ at second)) ⊕ red (at f ⊗ at first)) ⊕ at third) ⊖ red (at κ ⊗ red (at e ⊗ at f)))
    (omega arith)).path
