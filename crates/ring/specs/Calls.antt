-- The calls: their questions, and what they leave in the lent output.
use Rattle.std.specs.Prelude.{ℕ, cond, ◌&&◌, List, eqb, length}
use Rattle.lists.specs.Answers.{ask}
use Rattle.lists.specs.Lists.{all_below}
use Rattle.field.specs.Field.{q}
use Rattle.ring.specs.Product.{size, product}
use Rattle.ring.specs.Ntt.{ntt, inverse_ntt, pointwise}

-- the number of the first no, or 0, and what the lent output holds at exit
pub record Call : Type 0 where
  pub refused : ℕ
  pub out : List ℕ

-- a refusal writes nothing; else the output is the result
abbrev pub called : ℕ → List ℕ → List ℕ → Call
called refusal result out = record { refused = refusal; out = cond (eqb refusal 0) result out }

-- "Lengths other than 256 are question 5, numbers not below q question 6" (02): of the output too, and of both factors
unfoldable pub ring_no : List ℕ → List ℕ → List ℕ → ℕ
ring_no public row out =
    ask (eqb (length public) size && eqb (length row) size && eqb (length out) size) 5
    (ask (all_below q public && all_below q row) 6
    0)

-- the product of a public polynomial and a row of a shared one: the schoolbook product
unfoldable pub ring_call : List ℕ → List ℕ → List ℕ → Call
ring_call public row out = called (ring_no public row out) (product public row) out

-- ---- The public polynomial transformed once for many rows

unfoldable pub transform_no : List ℕ → List ℕ → ℕ
transform_no public out =
    ask (eqb (length public) size && eqb (length out) size) 5
    (ask (all_below q public) 6
    0)

-- its transform
unfoldable pub transform_call : List ℕ → List ℕ → Call
transform_call public out = called (transform_no public out) (ntt public) out

-- the product of a row and the polynomial that was transformed, as FIPS 204 says it: NTT⁻¹(transformed ∘ NTT(row)); the questions are the same
unfoldable pub transformed_call : List ℕ → List ℕ → List ℕ → Call
transformed_call transformed row out =
    called (ring_no transformed row out) (inverse_ntt (pointwise transformed (ntt row))) out
