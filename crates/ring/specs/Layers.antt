-- The transform as the code works it out: layer by layer, sums not reduced. What the buyer reads is in Ntt.
use Rattle.std.specs.Prelude.{ℕ, zero, suc, ◌+◌, ◌*◌, ◌-◌, ◌%◌, ◌^◌, ◌<◌, ◌≡◌, List, length, get_or}
use Rattle.lists.specs.Lists.{list_to}
use Rattle.field.specs.Field.{q, mul}
use Rattle.ring.specs.Factors.{factor}
use Rattle.ring.specs.Ntt.{Rule, block, forward_low, forward_high, inverse_low, inverse_high}

-- n blocks of 2 half numbers, block b with the factor z b
unfoldable pub layer : Rule → Rule → ℕ → (ℕ → ℕ) → ℕ → List ℕ → List ℕ
layer low high half z zero w = w
layer low high half z (suc n) w = block low high half (z n) (n * (2 * half)) half (layer low high half z n w)

-- the factor of block b in a layer of so many blocks; the inverse goes through the list backwards
unfoldable pub forward_factor : ℕ → ℕ → ℕ
forward_factor blocks b = factor (blocks + b)

unfoldable pub inverse_factor : ℕ → ℕ → ℕ
inverse_factor blocks b = q - factor (blocks + (blocks - 1 - b))

-- ---- With every number reduced: layer k has 2^k blocks

unfoldable pub forward_layer : ℕ → List ℕ → List ℕ
forward_layer k w = layer forward_low forward_high (2 ^ (7 - k)) (forward_factor (2 ^ k)) (2 ^ k) w

unfoldable pub inverse_layer : ℕ → List ℕ → List ℕ
inverse_layer k w = layer inverse_low inverse_high (2 ^ (7 - k)) (inverse_factor (2 ^ k)) (2 ^ k) w

-- layers 0 .. n − 1, and layers n − 1 .. 0
unfoldable pub forward_to : ℕ → List ℕ → List ℕ
forward_to zero w = w
forward_to (suc n) w = forward_layer n (forward_to n w)

unfoldable pub inverse_from : ℕ → List ℕ → List ℕ
inverse_from zero w = w
inverse_from (suc n) w = inverse_from n (inverse_layer n w)

-- ---- With products reduced and sums not

-- x + z y and x − z y, raised by q: both grow by q at most
unfoldable pub lazy_low : Rule
lazy_low z x y = x + mul q z y

unfoldable pub lazy_high : Rule
lazy_high z x y = x + (q - mul q z y)

-- x + y, which doubles at most, and z (x − y), raised by a multiple of q above y
unfoldable pub lazy_inverse_low : Rule
lazy_inverse_low z x y = x + y

unfoldable pub lazy_inverse_high : ℕ → Rule
lazy_inverse_high above z x y = mul q z (x + (above - y))

unfoldable pub lazy_layer : ℕ → List ℕ → List ℕ
lazy_layer k w = layer lazy_low lazy_high (2 ^ (7 - k)) (forward_factor (2 ^ k)) (2 ^ k) w

-- the numbers before layer k of the inverse are below 2^(7 − k) q
unfoldable pub lazy_inverse_layer : ℕ → List ℕ → List ℕ
lazy_inverse_layer k w =
    layer lazy_inverse_low (lazy_inverse_high (2 ^ (7 - k) * q)) (2 ^ (7 - k)) (inverse_factor (2 ^ k)) (2 ^ k) w

unfoldable pub lazy_to : ℕ → List ℕ → List ℕ
lazy_to zero w = w
lazy_to (suc n) w = lazy_layer n (lazy_to n w)

unfoldable pub lazy_inverse_from : ℕ → List ℕ → List ℕ
lazy_inverse_from zero w = w
lazy_inverse_from (suc n) w = lazy_inverse_from n (lazy_inverse_layer n w)

-- each number modulo q
unfoldable pub reduced : List ℕ → List ℕ
reduced w = list_to 256 (λ (i : ℕ). get_or w i 0 % q)

-- every number is below m
abbrev pub Below : ℕ → List ℕ → Type 0
Below m w = (i : ℕ) → get_or w i 0 < m

-- 256 numbers below q, as the questions leave them
abbrev pub Row : List ℕ → Type 0
Row w = (length w ≡ 256) × Below q w

-- the numbers that the code adds up are below this, so that q more is a u32
abbrev pub limit : ℕ
limit = 4286586879
