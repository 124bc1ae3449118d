-- Products of a public polynomial and a shared one: no call of a row is refused, and what the calls leave adds up to the product.
use Prim.Native.Nat.{ℕ, ◌+◌, ◌*◌, ◌≤◌, ◌<◌}
use mathlib.Core.Path.{◌≡◌, refl, ap, ◌∙◌}
use mathlib.Core.Bool.{true}
use mathlib.Core.List.{List}
use native.Mathlib.Omega.{arith}
use native.Mathlib.Decide.{dec_lt}
use lib.ListN.{length, get_or, get_or-eq_default}
use borrow.Author.Tests.{eq-eqb}
use Rattle.lists.specs.Answers.{ask}
use Rattle.lists.specs.Lists.{all_below}
use Rattle.lists.proofs.Lists.{get_d_list_to}
use Rattle.lists.proofs.Every.{below_at}
use Rattle.field.specs.Field.{q}
use Rattle.field.specs.Forms.{Adds}
use Rattle.field.proofs.Congruence.{≈_eq}
use Rattle.settings.specs.Sizes.{width_of}
use Rattle.book.specs.Books.{multipliers}
use Rattle.book.proofs.Books.{get_d_in_order}
use Rattle.ring.specs.Product.{coefficient, product}
use Rattle.ring.specs.Calls.{ring_no, ring_call}
use Rattle.ring.proofs.Laws.{coefficient-below, product-join}
use Rattle.runs.specs.Demands.{Numbers}
use Rattle.products.specs.Shared.{SharedPolynomial, row_of, row_call, results, Outputs}
use Rattle.products.specs.Theorems.{Multiplied}
use Rattle.products.proofs.Listed.{listed, in_order_lem}
use Rattle.products.proofs.Joined.{Joined, shared, phone_below, both_add}

product-below : (a b : List ℕ) → Numbers 256 (product a b)
unfolding product
product-below a b = listed 256 (coefficient a b) (λ i l. coefficient-below a b i)

not-refused : (public row out : List ℕ) → Numbers 256 public → Numbers 256 row → length out ≡ 256 → ring_no public row out ≡ 0
unfolding ring_no ask
not-refused public row out a b e =
    rw (eq-eqb (length public) 256 a.size_is, eq-eqb (length row) 256 b.size_is, eq-eqb (length out) 256 e, a.below, b.below) refl

call-out : (public row out : List ℕ) → ring_no public row out ≡ 0 → (ring_call public row out).out ≡ product public row
unfolding ring_call
call-out public row out e = rw (eq-eqb (ring_no public row out) 0 e) refl

-- ---- one side

module _ (width : ℕ) (numbers : List ℕ) where
  abbrev row : ℕ → List ℕ
  row c = row_of width numbers c

  abbrev entry : ℕ → ℕ → ℕ
  entry c i = get_or numbers (i * width + c) 0

  row_at : (c i : ℕ) → i < 256 → get_or (row c) i 0 ≡ entry c i
  unfolding row_of
  row_at c i h = get_d_list_to 256 (entry c) i 0 h

  module _ (small : all_below q numbers ≡ true) where
    row_below : (c : ℕ) → Numbers 256 (row c)
    unfolding row_of
    row_below c = listed 256 (entry c) (λ i l. below_at q numbers (i * width + c) (omega arith) small)

    module _ (public : List ℕ) (a : Numbers 256 public) (out : ℕ → List ℕ) (lent : Outputs width out) where
      row_done : (c : ℕ) → c < width → ring_no public (row c) (out c) ≡ 0
      row_done c l = not-refused public (row c) (out c) a (row_below c) (lent c l)

      abbrev left : ℕ → ℕ → ℕ
      left i c = get_or (row_call width public numbers out c).out i 0

      left_is : (i c : ℕ) → c < width → left i c ≡ get_or (product public (row c)) i 0
      left_is i c l = ap (λ (xs : List ℕ). get_or xs i 0) (call-out public (row c) (out c) (row_done c l))

      results_at : (i c : ℕ) → i < 256 → c < width
          → get_or (results width public numbers out) (i * width + c) 0 ≡ get_or (product public (row c)) i 0
      unfolding results
      results_at i c h l = get_d_in_order 256 width left i c h l ∙ left_is i c l

      results-below : 0 < width → Numbers (256 * width) (results width public numbers out)
      unfolding results
      results-below pos =
          in_order_lem 256 width left pos
          (λ i c h l. rw (left_is i c l) (below_at q (product public (row c)) i (omega arith) (product-below public (row c)).below))

-- ---- both sides

module _ (k : ℕ) (keys0 keys1 public secret server phone : List ℕ) (a : Numbers 256 public)
    (p : SharedPolynomial k keys0 keys1 secret server phone) where
  abbrev width : ℕ
  width = width_of k

  abbrev factors : List ℕ
  factors = multipliers keys0 keys1

  small₀ : all_below q server ≡ true
  small₀ = p.server_below.below

  small₁ : all_below q phone ≡ true
  small₁ = (phone_below p).below

  -- the rows add up at every place: behind their ends the default is 0
  rows_add : (c : ℕ) → c < width → (i : ℕ)
      → Adds q (get_or factors c 0) (get_or (row_of width server c) i 0) (get_or (row_of width phone c) i 0) (get_or secret i 0)
  rows_add c l i = go (dec_lt i 256)
    where
      behind : (xs : List ℕ) → Numbers 256 xs → 256 ≤ i → get_or xs i 0 ≡ 0
      behind xs b h = get_or-eq_default xs 0 (omega (arith, b.size_is))

      go : Dec (i < 256) → Adds q (get_or factors c 0) (get_or (row_of width server c) i 0) (get_or (row_of width phone c) i 0) (get_or secret i 0)
      go (yes h) = rw (row_at width server c i h, row_at width phone c i h) (both_add p i c h l)
      go (no h) =
          let past : 256 ≤ i = omega arith in
          rw (behind _ (row_below width server small₀ c) past, behind _ (row_below width phone small₁ c) past, behind secret p.secret_below past)
          (record { total = ≈_eq (omega arith) })

  module _ (out0 out1 : ℕ → List ℕ) (lent0 : Outputs width out0) (lent1 : Outputs width out1) where
    products_add : Joined 256 width factors (product public secret) (results width public server out0) (results width public phone out1)
    products_add i c h l =
        rw (results_at width server small₀ public a out0 lent0 i c h l, results_at width phone small₁ public a out1 lent1 i c h l)
        (product-join (get_or factors c 0) public (row_of width server c) (row_of width phone c) secret (rows_add c l) i)

    pub multiplied : Multiplied k keys0 keys1 public secret server phone out0 out1
    unfolding ring_call
    multiplied =
        record {
          server_done = row_done width server small₀ public a out0 lent0;
          phone_done = row_done width phone small₁ public a out1 lent1;
          joins = shared (product-below public secret)
              (results-below width server small₀ public a out0 lent0 (omega arith))
              (results-below width phone small₁ public a out1 lent1 (omega arith))
              products_add;
        }
