-- How the numbers of an input, between blanks or line ends, are read byte by byte. An input may have `most` numbers, as many as the slice
-- that they are read into has places. A step gives nothing where it finds the input malformed.
use Rattle.std.specs.Prelude.{ℕ, ◌+◌, List, [], ◌∷◌, Bool, cond, ◌||◌, eqb, leb, ltb, length, set, Option, Some, None}
use Rattle.std.specs.Option.{option_map, option_and_then, option_map_or}
use Rattle.text.specs.Decimal.{digit_byte, no_digits, with_digit}
use Rattle.text.specs.declared.DigitsRead.{DigitsRead}
use Rattle.text.specs.declared.NumbersRead.{NumbersRead}

-- before the first byte
abbrev pub start_numbers : NumbersRead
start_numbers = record { digits = no_digits; count = 0 }

-- blank or line end
unfoldable pub blank_byte : ℕ → Bool
blank_byte b = eqb b 32 || eqb b 10

-- one digit more of the number being read
unfoldable pub with_number_digit : ℕ → NumbersRead → ℕ → Option NumbersRead
with_number_digit most s b =
    cond (leb most s.count) None
    (option_map (λ (d : DigitsRead). record { digits = d; count = s.count }) (with_digit s.digits b))

-- the number being read, if there is one, ends here
unfoldable pub numbers_ended : ℕ → NumbersRead → Option NumbersRead
numbers_ended most s =
    cond (eqb s.digits.count 0) (Some s)
    (cond (leb most s.count) None
    (Some (record { digits = no_digits; count = s.count + 1 })))

-- one byte more
unfoldable pub after_byte : ℕ → NumbersRead → ℕ → Option NumbersRead
after_byte most s b =
    cond (digit_byte b) (with_number_digit most s b)
    (cond (blank_byte b) (numbers_ended most s) None)

-- after some bytes
unfoldable pub after_bytes : ℕ → NumbersRead → List ℕ → Option NumbersRead
after_bytes most s [] = Some s
after_bytes most s (b ∷ bs) = option_and_then (λ (r : NumbersRead). after_bytes most r bs) (after_byte most s b)

-- the numbers with v at a place, if there is such a place
unfoldable pub stored : List ℕ → ℕ → ℕ → List ℕ
stored numbers at v = cond (ltb at (length numbers)) (set numbers at v) numbers

-- the number being read, if there is one, stands at its place
unfoldable pub kept : NumbersRead → List ℕ → List ℕ
kept s numbers = cond (ltb 0 s.digits.count) (stored numbers s.count s.digits.value) numbers

-- the numbers after some bytes, up to one that makes the input malformed
unfoldable pub kept_over : ℕ → NumbersRead → List ℕ → List ℕ → List ℕ
kept_over most s [] numbers = numbers
kept_over most s (b ∷ bs) numbers =
    option_map_or (λ (r : NumbersRead). kept_over most r bs (kept r numbers)) (after_byte most s b) numbers
