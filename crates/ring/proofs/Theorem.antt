-- The theorems about the product and its calls.
use mathlib.Core.Path.{◌≡◌, refl, ap, ◌∙◌}
use mathlib.Core.List.{List}
use Prim.Native.Nat.{ℕ, ◌<◌}
use native.Mathlib.Omega.{arith}
use native.Mathlib.Decide.{ℕ_discrete}
use lib.ListN.{get_or}
use borrow.Author.Tests.{ne_eqb}
use Rattle.lists.proofs.Every.{all-below, below_at}
use Rattle.field.specs.Field.{q}
use Rattle.ring.specs.Product.{product}
use Rattle.ring.specs.Ntt.{ntt, inverse_ntt, pointwise}
use Rattle.ring.specs.Calls.{called, ring_no, ring_call, transformed_call}
use Rattle.ring.specs.Theorems.{Polynomial, Products}
use Rattle.ring.proofs.Standard.{ntt-is, whole_loops}
use Rattle.ring.proofs.Evaluation.{entry_value}
use Rattle.ring.proofs.Laws.{ntt-size, ntt-below, product-same, product-join, inverse_size, inverse_below}
use Rattle.ring.proofs.Onto.{back, onto}
use Rattle.ring.proofs.Lazy.{everywhere}
use Rattle.ring.proofs.Ready.{row-size}

low : (w : List ℕ) → Polynomial w → (i : ℕ) → get_or w i 0 < q
low w p i = below_at q w i (omega arith) p.below

-- a polynomial's transform passes the questions that it passes
transform-passes : (w : List ℕ) → Polynomial w → Polynomial (ntt w)
transform-passes w p =
    record {
      size_is = ntt-size w p.size_is;
      below = all-below q (ntt w) (everywhere (ntt w) q (omega arith) (ntt-size w p.size_is) (ntt-below w p.size_is));
    }

inverse_passes : (t : List ℕ) → Polynomial (inverse_ntt t)
inverse_passes t =
    record {
      size_is = inverse_size t;
      below = all-below q (inverse_ntt t) (everywhere (inverse_ntt t) q (omega arith) (inverse_size t) (inverse_below t));
    }

same_questions : (public row out : List ℕ) → Polynomial public → ring_no (ntt public) row out ≡ ring_no public row out
unfolding ring_no
same_questions public row out p =
    let t = transform-passes public p in
    rw (t.size_is, t.below, p.size_is, p.below)

once : (public row out : List ℕ) → Polynomial public → transformed_call (ntt public) row out ≡ ring_call public row out
unfolding transformed_call ring_call
once public row out p =
    ap (λ n. called n (inverse_ntt (pointwise (ntt public) (ntt row))) out) (same_questions public row out p) ∙ go (ℕ_discrete (ring_no public row out) 0)
  where
    go : Dec (ring_no public row out ≡ 0) → called (ring_no public row out) (inverse_ntt (pointwise (ntt public) (ntt row))) out ≡ called (ring_no public row out) (product public row) out
    go (yes e) = ap (λ r. called (ring_no public row out) r out) (product-same public row p.size_is (row-size public row out e))
    go (no n) = rw (ne_eqb _ _ n) refl

pub products : Products
products =
    record {
      whole_loops = whole_loops;
      values = λ w p i l. rw (ntt-is w) (entry_value w i p.size_is l);
      same = λ a b p r. product-same a b p.size_is r.size_is;
      back = λ w p. back w p.size_is (λ i l. low w p i);
      onto = λ t p. (inverse_passes t, onto t p.size_is (λ i l. low t p i));
      once = once;
      join = product-join;
    }
