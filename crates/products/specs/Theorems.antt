-- What is proved of shared polynomials, as types: products and sums of them are shared again, and a run may start from any of their
-- coefficients.
use Rattle.std.specs.Prelude.{ℕ, ◌<◌, ◌≡◌, true, List, map, pos}
use Rattle.settings.specs.Sets.{scale_of}
use Rattle.settings.specs.Sizes.{width_of}
use Rattle.settings.specs.declared.Settings.{Settings}
use Rattle.rounding.specs.Plain.{decompose}
use Rattle.book.specs.Books.{multipliers}
use Rattle.ring.specs.Product.{product}
use Rattle.runs.specs.Records.{answer_of, missing_shares, party_input, PartyState, JointState, ScheduledCall, joint_after}
use Rattle.runs.specs.Demands.{Fixed, Numbers, Secret, Shares, Possible, Start, carried_through, Ended}
use Rattle.products.specs.Shared.{SharedPolynomial, row_call, results, Outputs, sum_of, coefficients, inputs_at}

-- "each side's result joins to the product of the joined numbers, check parts included" (02): no call of a row is refused, and what the
-- calls leave at both sides is the product of the public polynomial and the secret one, shared under the same keys
pub record Multiplied (k : ℕ) (keys0 keys1 public secret server phone : List ℕ) (out0 out1 : ℕ → List ℕ) : Type 0 where
  pub server_done : (c : ℕ) → c < width_of k → (row_call (width_of k) public server out0 c).refused ≡ 0
  pub phone_done : (c : ℕ) → c < width_of k → (row_call (width_of k) public phone out1 c).refused ≡ 0
  pub joins : SharedPolynomial k keys0 keys1 (product public secret) (results (width_of k) public server out0) (results (width_of k) public phone out1)

abbrev pub ProductsJoin : ℕ → Type 0
ProductsJoin k =
    (keys0 keys1 public secret server phone : List ℕ)
    → Numbers 256 public
    → SharedPolynomial k keys0 keys1 secret server phone
    → (out0 out1 : ℕ → List ℕ)
    → Outputs (width_of k) out0
    → Outputs (width_of k) out1
    → Multiplied k keys0 keys1 public secret server phone out0 out1

-- what a side adds up number by number is the sum shared: so a row of a matrix times a vector of polynomials is
abbrev pub SumsJoin : ℕ → Type 0
SumsJoin k =
    (keys0 keys1 secret server phone secret' server' phone' : List ℕ)
    → SharedPolynomial k keys0 keys1 secret server phone
    → SharedPolynomial k keys0 keys1 secret' server' phone'
    → SharedPolynomial k keys0 keys1 (sum_of secret secret') (sum_of server server') (sum_of phone phone')

-- the coefficients at any N places make a secret of a run, and both sides' numbers for them the inputs that demand 2 speaks of
pub record Matching (k : ℕ) (s : Settings) (place : ℕ → ℕ) (keys0 keys1 secret server phone : List ℕ) : Type 0 where
  pub secret_is : Secret s (coefficients s.shape.n place secret)
  pub shares_are : Shares k s (inputs_at s.shape.n (width_of k) place server)
  pub missing_is : inputs_at s.shape.n (width_of k) place phone
      ≡ missing_shares (width_of k) (multipliers keys0 keys1) (coefficients s.shape.n place secret) (inputs_at s.shape.n (width_of k) place server)

abbrev pub InputsMatch : ℕ → Type 0
InputsMatch k =
    (s : Settings) (place : ℕ → ℕ)
    → ((i : ℕ) → i < s.shape.n → place i < 256)
    → (keys0 keys1 secret server phone : List ℕ)
    → SharedPolynomial k keys0 keys1 secret server phone
    → Matching k s place keys0 keys1 secret server phone

-- so every run that starts from them and is carried through in order ends at both sides with their answer
abbrev pub RunsOnCoefficients : ℕ → Type 0
RunsOnCoefficients k =
    (s : Settings) (serial : ℕ) (keys0 keys1 : List ℕ)
    → Fixed k s serial keys0 keys1
    → (place : ℕ → ℕ)
    → ((i : ℕ) → i < s.shape.n → place i < 256)
    → (secret server phone draw : List ℕ)
    → SharedPolynomial k keys0 keys1 secret server phone
    → Possible k s draw
    → (w : JointState)
    → Start k serial w
    → (calls : List ScheduledCall)
    → carried_through k s calls ≡ true
    → let own = party_input k s 0 keys0 keys1 draw (inputs_at s.shape.n (width_of k) place server) in
    let other = party_input k s 1 keys0 keys1 draw (inputs_at s.shape.n (width_of k) place phone) in
    let end = joint_after k s serial own other w calls in
    Ended s (coefficients s.shape.n place secret) end.observer × Ended s (coefficients s.shape.n place secret) end.peer

-- What the products are for: shares multiplied row by row go into `begin`, and a run of HIGH on any N coefficients of the product ends at both
-- sides with their high parts by FIPS 204
pub record HighParts (s : Settings) (ws : List ℕ) (server phone : PartyState) : Type 0 where
  pub at_server : Ended s ws server
  pub at_phone : Ended s ws phone
  pub by_fips : map pos (answer_of s ws) ≡ map (λ (w : ℕ). (decompose (scale_of s.shape.set) w).high) ws

abbrev pub HighOfProduct : ℕ → Type 0
HighOfProduct k =
    (s : Settings) (serial : ℕ) (keys0 keys1 : List ℕ)
    → Fixed k s serial keys0 keys1
    → s.shape.kind ≡ 0
    → (place : ℕ → ℕ)
    → ((i : ℕ) → i < s.shape.n → place i < 256)
    → (public secret server phone draw : List ℕ)
    → Numbers 256 public
    → SharedPolynomial k keys0 keys1 secret server phone
    → (out0 out1 : ℕ → List ℕ)
    → Outputs (width_of k) out0
    → Outputs (width_of k) out1
    → Possible k s draw
    → (w : JointState)
    → Start k serial w
    → (calls : List ScheduledCall)
    → carried_through k s calls ≡ true
    → let inputs0 = inputs_at s.shape.n (width_of k) place (results (width_of k) public server out0) in
    let inputs1 = inputs_at s.shape.n (width_of k) place (results (width_of k) public phone out1) in
    let end = joint_after k s serial (party_input k s 0 keys0 keys1 draw inputs0) (party_input k s 1 keys0 keys1 draw inputs1) w calls in
    HighParts s (coefficients s.shape.n place (product public secret)) end.observer end.peer
