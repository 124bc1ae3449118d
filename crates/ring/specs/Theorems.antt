-- What is proved of the product, as types.
use Rattle.std.specs.Prelude.{ℕ, ◌*◌, ◌^◌, ◌<◌, ◌≡◌, true, List, length, get_or}
use Rattle.lists.specs.Lists.{all_below}
use Rattle.field.specs.Field.{q}
use Rattle.field.specs.Sums.{sum_to}
use Rattle.field.specs.Congruence.{◌⊩◌≈◌}
use Rattle.field.specs.Forms.{Adds}
use Rattle.ring.specs.Product.{size, product}
use Rattle.ring.specs.Factors.{root}
use Rattle.ring.specs.Ntt.{forward_end, ntt, inverse_end, inverse_ntt, pointwise}
use Rattle.ring.specs.Calls.{ring_call, transformed_call}

-- a polynomial with coefficients below q
pub record Polynomial (w : List ℕ) : Type 0 where
  pub size_is : length w ≡ size
  pub below : all_below q w ≡ true

pub record Products : Type 0 where
  -- no loop of Algorithms 41 and 42 is cut off: both go through all 255 blocks, the one to len = 0, the other to len = 256
  pub whole_loops : (w : List ℕ)
      → ((forward_end w).m ≡ 255) × ((forward_end w).len ≡ 0) × ((inverse_end w).m ≡ 1) × ((inverse_end w).len ≡ 256)
  -- entry i of the transform is the polynomial's value at root i
  pub values : (w : List ℕ) → Polynomial w → (i : ℕ) → i < size
      → q ⊩ get_or (ntt w) i 0 ≈ sum_to size (λ (j : ℕ). get_or w j 0 * root i ^ j)
  -- "The product by transform equals the schoolbook product on every input below q" (02)
  pub same : (a b : List ℕ) → Polynomial a → Polynomial b → inverse_ntt (pointwise (ntt a) (ntt b)) ≡ product a b
  -- every list of 256 numbers below q is the transform of one polynomial, its inverse: what `ring_product_transformed` is handed may be sampled
  -- in this form, as FIPS 204 does it
  pub back : (w : List ℕ) → Polynomial w → inverse_ntt (ntt w) ≡ w
  pub onto : (t : List ℕ) → Polynomial t → Polynomial (inverse_ntt t) × (ntt (inverse_ntt t) ≡ t)
  -- the public polynomial transformed once: the call on its transform is the call on itself, refusals and output included
  pub once : (public row out : List ℕ) → Polynomial public → transformed_call (ntt public) row out ≡ ring_call public row out
  -- "each side's result joins to the product of the joined numbers" (02): rows that add up to m times a row give products that add up to m times
  -- its product
  pub join : (m : ℕ) (a r₁ r₂ r : List ℕ) → ((i : ℕ) → Adds q m (get_or r₁ i 0) (get_or r₂ i 0) (get_or r i 0))
      → (k : ℕ) → Adds q m (get_or (product a r₁) k 0) (get_or (product a r₂) k 0) (get_or (product a r) k 0)
