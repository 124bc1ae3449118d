-- Numbers and bytes at the edges of their forms.
use mathlib.Core.Path.{◌≡◌, refl}
use mathlib.Core.List.{[], ◌∷◌}
use Rattle.std.proofs.Common.{Some, None}
use Rattle.lists.specs.Lists.{every}
use Rattle.text.specs.Decimal.{digit_byte, value_from, number_in}
use Rattle.text.specs.Text.{decimal_in, decimal, hex_digit, hex_bytes}

-- `4294967295`, 2^32 − 1
pub largest : number_in (52 ∷ 50 ∷ 57 ∷ 52 ∷ 57 ∷ 54 ∷ 55 ∷ 50 ∷ 57 ∷ 53 ∷ []) ≡ Some 4294967295
unfolding number_in digit_byte value_from every
largest = refl

-- `4294967296`
pub too_large : number_in (52 ∷ 50 ∷ 57 ∷ 52 ∷ 57 ∷ 54 ∷ 55 ∷ 50 ∷ 57 ∷ 54 ∷ []) ≡ None
unfolding number_in digit_byte value_from every
too_large = refl

-- `0000000001`, and with one digit more
pub ten_digits : number_in (48 ∷ 48 ∷ 48 ∷ 48 ∷ 48 ∷ 48 ∷ 48 ∷ 48 ∷ 48 ∷ 49 ∷ []) ≡ Some 1
unfolding number_in digit_byte value_from every
ten_digits = refl

pub eleven_digits : number_in (48 ∷ 48 ∷ 48 ∷ 48 ∷ 48 ∷ 48 ∷ 48 ∷ 48 ∷ 48 ∷ 48 ∷ 49 ∷ []) ≡ None
unfolding number_in digit_byte value_from every
eleven_digits = refl

-- `0` and `10`
pub zero_text : decimal 0 ≡ 48 ∷ []
unfolding decimal_in decimal
zero_text = refl

pub ten_text : decimal 10 ≡ 49 ∷ 48 ∷ []
unfolding decimal_in decimal
ten_text = refl

-- `09ff`
pub hex_text : hex_bytes (9 ∷ 255 ∷ []) ≡ 48 ∷ 57 ∷ 102 ∷ 102 ∷ []
unfolding hex_bytes hex_digit
hex_text = refl
