-- A number in a word: what it must be, and how it is read digit by digit.
use Rattle.std.specs.Prelude.{ℕ, ◌+◌, ◌*◌, ◌-◌, Bool, cond, ◌&&◌, List, [], ◌∷◌, eqb, leb, ltb, length, Option, Some, None}
use Rattle.std.specs.Option.{option_and_then}
use Rattle.lists.specs.Lists.{every}
use Rattle.text.specs.declared.DigitsRead.{DigitsRead}

-- "1 to 10 digits"
abbrev pub most_digits : ℕ
most_digits = 10

-- "at most 2^32 − 1": the first number that is too large
abbrev pub too_large : ℕ
too_large = 4294967296

-- `0` to `9`
unfoldable pub digit_byte : ℕ → Bool
digit_byte b = leb 48 b && leb b 57

-- the number whose digits are those of v and then these
unfoldable pub value_from : ℕ → List ℕ → ℕ
value_from v [] = v
value_from v (b ∷ bs) = value_from (v * 10 + (b - 48)) bs

abbrev pub value_of : List ℕ → ℕ
value_of w = value_from 0 w

-- "Numbers are unsigned decimals of 1 to 10 digits, at most 2^32 − 1"
unfoldable pub number_in : List ℕ → Option ℕ
number_in w =
    cond (eqb (length w) 0) None
    (cond (ltb most_digits (length w)) None
    (cond (every digit_byte w)
    (cond (leb too_large (value_of w)) None (Some (value_of w)))
    None))

-- before the first digit
abbrev pub no_digits : DigitsRead
no_digits = record { count = 0; value = 0 }

-- one digit more; nothing, where with this byte it is no number
unfoldable pub with_digit : DigitsRead → ℕ → Option DigitsRead
with_digit d b =
    cond (digit_byte b)
    (cond (leb most_digits d.count) None
    (cond (leb too_large (d.value * 10 + (b - 48))) None
    (Some (record { count = d.count + 1; value = d.value * 10 + (b - 48) }))))
    None

-- some digits more
unfoldable pub with_digits : DigitsRead → List ℕ → Option DigitsRead
with_digits d [] = Some d
with_digits d (b ∷ bs) = option_and_then (λ (e : DigitsRead). with_digits e bs) (with_digit d b)

-- the number, when its last byte has been read
unfoldable pub number_read : DigitsRead → Option ℕ
number_read d = cond (eqb d.count 0) None (Some d.value)
