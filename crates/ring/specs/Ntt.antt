-- "The transform is that of FIPS 204, with 1,753 as the root" (02): its Algorithms 41 and 42, line by line, on lists of 256 numbers.
use Rattle.std.specs.Prelude.{ℕ, zero, suc, ◌+◌, ◌*◌, ◌-◌, ◌/◌, Bool, cond, List, ltb, leb, get_or, set}
use Rattle.lists.specs.Lists.{list_to}
use Rattle.field.specs.Field.{q, add, sub, mul}
use Rattle.ring.specs.Factors.{factor}

-- ---- Loops

-- "while test do turn", cut off after n turns
unfoldable pub while : {A : Type 0} → ℕ → (A → Bool) → (A → A) → A → A
while zero test turn v = v
while (suc n) test turn v = cond (test v) (while n test turn (turn v)) v

-- more turns than any of the loops makes: none is cut off (`Products`, `whole_loops`)
abbrev pub enough : ℕ
enough = 1000

-- a number made of a factor z and the numbers x and y of a pair
abbrev pub Rule : Type 0
Rule = ℕ → ℕ → ℕ → ℕ

-- a pair by its two rules: the numbers at j and at j + len replaced
unfoldable pub pair : Rule → Rule → ℕ → ℕ → ℕ → List ℕ → List ℕ
pair low high len z j w =
    set (set w (j + len) (high z (get_or w j 0) (get_or w (j + len) 0))) j (low z (get_or w j 0) (get_or w (j + len) 0))

-- "for j from start to start + n − 1": n pairs
unfoldable pub block : Rule → Rule → ℕ → ℕ → ℕ → ℕ → List ℕ → List ℕ
block low high len z start zero w = w
block low high len z start (suc n) w = pair low high len z (start + n) (block low high len z start n w)

-- the variables of both algorithms
pub record Variables : Type 0 where
  pub m : ℕ
  pub len : ℕ
  pub start : ℕ
  pub numbers : List ℕ

-- ---- Algorithm 41, NTT

-- lines 12 to 14: t = z ŵ[j + len]; ŵ[j + len] becomes ŵ[j] − t, and ŵ[j] becomes ŵ[j] + t
unfoldable pub forward_low : Rule
forward_low z x y = add q x (mul q z y)

unfoldable pub forward_high : Rule
forward_high z x y = sub q x (mul q z y)

-- lines 9 to 16: m one up, z = zetas[m], the pairs of the block, start on
unfoldable pub forward_turn : Variables → Variables
forward_turn v =
    record {
      m = v.m + 1;
      len = v.len;
      start = v.start + 2 * v.len;
      numbers = block forward_low forward_high v.len (factor (v.m + 1)) v.start v.len v.numbers;
    }

-- lines 7 to 18: start = 0, the turns while start < 256, len halved
unfoldable pub forward_len : Variables → Variables
forward_len v =
    let u : Variables = while enough (λ (u : Variables). ltb u.start 256) forward_turn (record { m = v.m; len = v.len; start = 0; numbers = v.numbers }) in
    record { m = u.m; len = u.len / 2; start = u.start; numbers = u.numbers }

-- lines 4 to 19: from m = 0 and len = 128, while len ≥ 1
unfoldable pub forward_end : List ℕ → Variables
forward_end w = while enough (λ (v : Variables). leb 1 v.len) forward_len (record { m = 0; len = 128; start = 0; numbers = w })

-- line 20
unfoldable pub ntt : List ℕ → List ℕ
ntt w = (forward_end w).numbers

-- ---- Algorithm 42, NTT⁻¹

-- lines 12 to 15: w[j] becomes w[j] + w[j + len], and w[j + len] becomes z (w[j] − w[j + len])
unfoldable pub inverse_low : Rule
inverse_low z x y = add q x y

unfoldable pub inverse_high : Rule
inverse_high z x y = mul q z (sub q x y)

-- lines 9 to 17: m one down, z = −zetas[m], the pairs of the block, start on
unfoldable pub inverse_turn : Variables → Variables
inverse_turn v =
    record {
      m = v.m - 1;
      len = v.len;
      start = v.start + 2 * v.len;
      numbers = block inverse_low inverse_high v.len (q - factor (v.m - 1)) v.start v.len v.numbers;
    }

-- lines 7 to 19: start = 0, the turns while start < 256, len doubled
unfoldable pub inverse_len : Variables → Variables
inverse_len v =
    let u : Variables = while enough (λ (u : Variables). ltb u.start 256) inverse_turn (record { m = v.m; len = v.len; start = 0; numbers = v.numbers }) in
    record { m = u.m; len = 2 * u.len; start = u.start; numbers = u.numbers }

-- lines 4 to 20: from m = 256 and len = 1, while len < 256
unfoldable pub inverse_end : List ℕ → Variables
inverse_end w = while enough (λ (v : Variables). ltb v.len 256) inverse_len (record { m = 256; len = 1; start = 0; numbers = w })

-- lines 21 to 24: each number times 8,347,681, which is 256⁻¹ modulo q
unfoldable pub scaled : List ℕ → List ℕ
scaled w = list_to 256 (λ (i : ℕ). mul q 8347681 (get_or w i 0))

-- line 25
unfoldable pub inverse_ntt : List ℕ → List ℕ
inverse_ntt w = scaled (inverse_end w).numbers

-- ---- Algorithm 45, MultiplyNTT: number by number

unfoldable pub pointwise : List ℕ → List ℕ → List ℕ
pointwise u v = list_to 256 (λ (i : ℕ). mul q (get_or u i 0) (get_or v i 0))
