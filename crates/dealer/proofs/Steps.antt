-- What the places of the book say of the steps of a deal: what each step deals, and where the next one goes on.
use mathlib.Core.Path.{◌≡◌, refl, sym, ap, ◌∙◌}
use mathlib.Core.Logic.{◌≢◌}
use mathlib.Core.Bool.{true}
use Prim.Native.Nat.{ℕ, ◌+◌, ◌*◌, ◌/◌, ◌≤◌, ◌<◌}
use native.Mathlib.Nat.{add-zero}
use native.Mathlib.Numerals.{add-one}
use native.Mathlib.Omega.{arith}
use borrow.Author.Tests.{eq-eqb, ne_eqb}
use lib.ListN.{get_or}
use Rattle.lists.specs.Answers.{bit}
use Rattle.field.specs.Field.{q, mul}
use Rattle.field.specs.Sums.{sum_to}
use Rattle.field.proofs.Sums.{sum-within}
use Rattle.settings.specs.Sets.{base}
use Rattle.rounding.specs.Digits.{split_of}
use Rattle.rounding.specs.Rounds.{gap}
use Rattle.rounding.specs.declared.Split.{Split}
use Rattle.book.specs.Book.{Entry, group_k, mask_at, vector_at, triple_at, group_at, is_drawn, drawn}
use Rattle.settings.specs.Sizes.{stride, groups, width}
use Rattle.book.specs.Theorems.{Holds}
use Rattle.dealer.specs.Work.{DealContext, params_for, shared_for, cursor_for, Next, Draws, Vector}
use Rattle.book.proofs.Places.{places}
use Rattle.book.proofs.Books.{value-holds}
use Rattle.settings.proofs.Sizes.{shared-high, shared-bound}

module _ (o : DealContext) where
  draws-at : (k m : ℕ) (e : Entry) → Holds (params_for o) m e → is_drawn e ≡ true → k ≡ m → Draws o k
  draws-at k m e h i f = rw f (record { inside = h.0; draws = ap is_drawn h.1 ∙ i })

  -- ---- where the next step goes on

  module _ (c : ℕ) where
    pub vector_first : vector_at (params_for o) c 0 ≡ mask_at (params_for o) c + 1
    unfolding vector_at sum_to
    vector_first = omega arith

    pub vector_step : (i : ℕ) → vector_at (params_for o) c i ≡ vector_at (params_for o) c 0 + sum_to i (base (params_for o).scale)
    unfolding vector_at sum_to
    vector_step i = omega arith

    pub triple_first : triple_at (params_for o) c 0 ≡ mask_at (params_for o) c + (1 + sum_to 5 (base (params_for o).scale))
    unfolding triple_at
    triple_first = omega arith

    pub triple_step : (t : ℕ) → triple_at (params_for o) c t ≡ triple_at (params_for o) c 0 + 3 * t
    unfolding triple_at
    triple_step t = omega arith

    pub high-group : o.shape.kind ≡ 0 → group_at (params_for o) c ≡ mask_at (params_for o) c + (1 + sum_to 5 (base (params_for o).scale) + 24)
    unfolding group_at triple_at
    high-group e = rw (eq-eqb o.shape.kind 0 e) (omega arith)

    pub mask_step : mask_at (params_for o) (c + 1) ≡ mask_at (params_for o) c + stride (params_for o)
    mask_step = omega arith

  pub mask-none : 0 ≡ mask_at (params_for o) 0
  mask-none = omega arith

  pub sum_step : (i : ℕ) → sum_to i (base (params_for o).scale) + base (params_for o).scale i ≡ sum_to (i + 1) (base (params_for o).scale)
  unfolding sum_to
  sum_step i = rw add-one

  pub bound-group : (g : ℕ) → o.shape.kind ≢ 0 → group_at (params_for o) g ≡ mask_at (params_for o) o.shape.n
  unfolding group_at
  bound-group g e = rw (ne_eqb o.shape.kind 0 e)

  pub high-stride : o.shape.kind ≡ 0 → 1 + sum_to 5 (base (params_for o).scale) + 24 + (group_k (params_for o) + 3) ≡ stride (params_for o)
  unfolding stride
  high-stride e = rw (eq-eqb o.shape.kind 0 e) (omega arith)

  pub bound-stride : o.shape.kind ≢ 0 → 1 + sum_to 5 (base (params_for o).scale) + 24 ≡ stride (params_for o)
  unfolding stride
  bound-stride e = rw (ne_eqb o.shape.kind 0 e) (omega arith)

  pub high_end : o.shape.kind ≡ 0 → mask_at (params_for o) o.shape.n ≡ shared_for o
  high_end e = sym (shared-high (params_for o) e)

  pub bound-end : o.shape.kind ≢ 0 → mask_at (params_for o) o.shape.n + (group_k (params_for o) + 3) ≡ shared_for o
  bound-end e = rw (ne_eqb o.shape.kind 0 e) (sym (shared-bound (params_for o) e))

  pub high-groups : (g : ℕ) → o.shape.kind ≡ 0 → g < o.shape.n → g < groups (params_for o)
  high-groups g e h = rw (eq-eqb o.shape.kind 0 e) h

  pub bound-groups : o.shape.kind ≢ 0 → 0 < groups (params_for o)
  bound-groups e = rw (ne_eqb o.shape.kind 0 e) (omega arith)

  -- ---- what each step deals

  pub mask-draws : (c k : ℕ) → c < o.shape.n → k ≡ mask_at (params_for o) c → Draws o k
  mask-draws c k h e = draws-at k _ _ ((places (params_for o)).of_mask c h) refl e

  pub group-draws : (g k : ℕ) → g < groups (params_for o) → k ≡ group_at (params_for o) g → Draws o k
  group-draws g k h e = draws-at k _ _ ((places (params_for o)).of_group g h) refl e

  module _ (c t k : ℕ) (h : c < o.shape.n) (l : t < 8) (e : k ≡ triple_at (params_for o) c t) where
    pub left-draws : Draws o k
    left-draws = draws-at k _ _ ((places (params_for o)).of_left c t h l) refl e

    pub right-draws : Draws o (k + 1)
    right-draws = draws-at (k + 1) _ _ ((places (params_for o)).of_right c t h l) refl (omega arith)

    pub next-product : (next a b v : ℕ) → next ≡ cursor_for o (k + 2) → a ≡ drawn (params_for o) width o.draw k → b ≡ drawn (params_for o) width o.draw (k + 1)
        → v ≡ mul q a b → Next o (k + 2) next v
    unfolding bit
    next-product next a b v n f g u =
        let p = (places (params_for o)).of_product c t h l in
        rw (n, e) (record {
          inside = p.0;
          begins = rw p.1 (sym (add-zero _));
          is = u ∙ rw (f, g, e) (sym (value-holds (params_for o) width o.draw _ _ p));
        })

  vector_fits : (c i : ℕ) → c < o.shape.n → i < 5 → vector_at (params_for o) c i + base (params_for o).scale i ≤ shared_for o
  unfolding vector_at triple_at
  vector_fits c i h l = omega (arith, sum-within (base (params_for o).scale) 5 i l, ((places (params_for o)).of_left c 0 h (omega arith)).0)

  pub digit_vector : (c i k size d : ℕ) (r : Split) → c < o.shape.n → i < 5 → k ≡ vector_at (params_for o) c i → size ≡ base (params_for o).scale i
      → r ≡ split_of (params_for o).scale (drawn (params_for o) width o.draw (mask_at (params_for o) c)) → d ≡ get_or r.digits i 0 → Vector o k size d
  digit_vector c i k size d r h l e f g u =
      let fits : vector_at (params_for o) c i + base (params_for o).scale i ≤ shared_for o = vector_fits c i h l in
      rw (e, f, u, g) (record {
        inside = fits;
        draws = λ j b. ap is_drawn ((places (params_for o)).of_vector c i j h l b).1;
        is = λ j b. sym (value-holds (params_for o) width o.draw _ _ ((places (params_for o)).of_vector c i j h l b));
      })

  pub group_vector : (g k size rho d : ℕ) → g < groups (params_for o) → k ≡ group_at (params_for o) g → size ≡ group_k (params_for o) + 2
      → rho ≡ drawn (params_for o) width o.draw k → d ≡ rho / gap q (group_k (params_for o)) → Vector o (k + 1) size d
  group_vector g k size rho d h e u v f =
      let last = ((places (params_for o)).of_group_place g (group_k (params_for o) + 1) h (omega arith)).0 in
      rw (f, v, u, e) (record {
        inside = omega arith;
        draws = λ j b. ap is_drawn ((places (params_for o)).of_group_place g j h b).1;
        is = λ j b. sym (value-holds (params_for o) width o.draw _ _ ((places (params_for o)).of_group_place g j h b));
      })
