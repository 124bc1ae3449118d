-- "products modulo q and modulo X²⁵⁶ + 1, where X is the polynomial's indeterminate" (02): the schoolbook product. A polynomial is the list of
-- its 256 coefficients, that of X^i at place i.
use Rattle.std.specs.Prelude.{ℕ, ◌+◌, ◌*◌, ◌-◌, List, get_or}
use Rattle.lists.specs.Lists.{list_to}
use Rattle.field.specs.Field.{q, sub}
use Rattle.field.specs.Sums.{sum_to}

-- "Lengths other than 256 are question 5" (02)
abbrev pub size : ℕ
size = 256

-- coefficient k of a · b: the terms a(i) b(k − i) for i = 0 .. k, less the terms a(i) b(256 + k − i) for i = k + 1 .. 255, since X^256 is −1
unfoldable pub coefficient : List ℕ → List ℕ → ℕ → ℕ
coefficient a b k =
    sub q
    (sum_to (k + 1) (λ (i : ℕ). get_or a i 0 * get_or b (k - i) 0))
    (sum_to (255 - k) (λ (j : ℕ). get_or a (k + 1 + j) 0 * get_or b (256 + k - (k + 1 + j)) 0))

unfoldable pub product : List ℕ → List ℕ → List ℕ
product a b = list_to size (coefficient a b)
