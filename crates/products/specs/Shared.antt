-- A shared polynomial, and the calls by which a side multiplies it by a public one.
use Rattle.std.specs.Prelude.{ℕ, ◌+◌, ◌*◌, ◌<◌, ◌≡◌, List, length, get_or}
use Rattle.lists.specs.Lists.{list_to}
use Rattle.field.specs.Field.{q, add}
use Rattle.settings.specs.Sizes.{width_of}
use Rattle.book.specs.Books.{multipliers, in_order}
use Rattle.runs.specs.Records.{missing_shares}
use Rattle.runs.specs.Demands.{Numbers}
use Rattle.ring.specs.Calls.{Call, ring_call}

-- a polynomial of 256 coefficients that neither side knows, k keys a side: the server's share and check shares of each coefficient, one
-- coefficient after another ("wherever they are stored they keep this order"), and the phone's, "what is missing to the secret and to key × secret"
pub record SharedPolynomial (k : ℕ) (keys0 keys1 secret server phone : List ℕ) : Type 0 where
  pub secret_below : Numbers 256 secret
  pub server_below : Numbers (256 * width_of k) server
  pub phone_is : phone ≡ missing_shares (width_of k) (multipliers keys0 keys1) secret server

-- ---- Products

-- row c of a side's numbers: of each coefficient its number c, 0 the share, then the part under each key
unfoldable pub row_of : ℕ → List ℕ → ℕ → List ℕ
row_of width numbers c = list_to 256 (λ (i : ℕ). get_or numbers (i * width + c) 0)

-- "The shared factor's check parts are multiplied likewise, one row of 256 numbers a call" (02): call c of a side, lent the output `out c`
abbrev pub row_call : ℕ → List ℕ → List ℕ → (ℕ → List ℕ) → ℕ → Call
row_call width public numbers out c = ring_call public (row_of width numbers c) (out c)

-- what the calls of a side's rows leave in the outputs, in the order of a side's numbers
unfoldable pub results : ℕ → List ℕ → List ℕ → (ℕ → List ℕ) → List ℕ
results width public numbers out = in_order 256 width (λ (i c : ℕ). get_or (row_call width public numbers out c).out i 0)

-- an output of 256 numbers for each row
abbrev pub Outputs : ℕ → (ℕ → List ℕ) → Type 0
Outputs width out = (c : ℕ) → c < width → length (out c) ≡ 256

-- ---- Sums and coefficients

-- two lists added number by number
unfoldable pub sum_of : List ℕ → List ℕ → List ℕ
sum_of xs ys = list_to (length xs) (λ (i : ℕ). add q (get_or xs i 0) (get_or ys i 0))

-- n coefficients of a polynomial, the i-th at `place i`; and a side's numbers for them, as its begin takes them
unfoldable pub coefficients : ℕ → (ℕ → ℕ) → List ℕ → List ℕ
coefficients n place polynomial = list_to n (λ (i : ℕ). get_or polynomial (place i) 0)

unfoldable pub inputs_at : ℕ → ℕ → (ℕ → ℕ) → List ℕ → List ℕ
inputs_at n width place numbers = in_order n width (λ (i c : ℕ). get_or numbers (place i * width + c) 0)
