-- The lines of the sample: what they ask for, and their answers.
use mathlib.Core.Path.{◌≡◌, refl}
use Rattle.std.proofs.Common.{Some, None}
use mathlib.Core.List.{[], ◌∷◌}
use lib.ListN.{replicate}
use Rattle.lists.specs.Lists.{every, list_from, to_first}
use Rattle.text.specs.Decimal.{digit_byte, value_from, number_in}
use Rattle.text.specs.Text.{decimal_in, decimal, numbers_text}
use Rattle.syntax.specs.Rows.{row}
use Rattle.syntax.specs.Line.{words, is_byte, kind_in, set_in, field_at, fields_from, values_of, requested, order_of, line_of}
use Rattle.syntax.specs.Answer.{refusal_text, answer_part, answer_text}

-- `H - 0 95233`
pub first_order : line_of (72 ∷ 32 ∷ 45 ∷ 32 ∷ 48 ∷ 32 ∷ 57 ∷ 53 ∷ 50 ∷ 51 ∷ 51 ∷ []) ≡ Some (record { kind = 0; set = 0; bound = 0; count = 1; numbers = 95233 ∷ replicate 7 0 })
unfolding to_first words digit_byte value_from number_in is_byte kind_in set_in field_at fields_from values_of requested order_of line_of every row list_from
first_order = refl

-- `B - 1 0 0`
pub second_order : line_of (66 ∷ 32 ∷ 45 ∷ 32 ∷ 49 ∷ 32 ∷ 48 ∷ 32 ∷ 48 ∷ []) ≡ Some (record { kind = 1; set = 0; bound = 1; count = 2; numbers = replicate 8 0 })
unfolding to_first words digit_byte value_from number_in is_byte kind_in set_in field_at fields_from values_of requested order_of line_of every row list_from
second_order = refl

-- `H 1 0`
pub third_order : line_of (72 ∷ 32 ∷ 49 ∷ 32 ∷ 48 ∷ []) ≡ Some (record { kind = 0; set = 1; bound = 0; count = 0; numbers = replicate 8 0 })
unfolding to_first words digit_byte value_from number_in is_byte kind_in set_in field_at fields_from values_of requested order_of line_of every row list_from
third_order = refl

-- a blank at the end: `H 1 0 `
pub blank-behind : line_of (72 ∷ 32 ∷ 49 ∷ 32 ∷ 48 ∷ 32 ∷ []) ≡ None
unfolding to_first words digit_byte value_from number_in is_byte kind_in set_in field_at fields_from values_of requested order_of line_of every row list_from
blank-behind = refl

-- `1 1`
pub first_answer : answer_text 1 0 (1 ∷ []) ≡ 49 ∷ 32 ∷ 49 ∷ 10 ∷ []
unfolding decimal_in decimal numbers_text refusal_text answer_part answer_text
first_answer = refl

-- `3 !2`
pub third_answer : answer_text 3 2 [] ≡ 51 ∷ 32 ∷ 33 ∷ 50 ∷ 10 ∷ []
unfolding decimal_in decimal numbers_text refusal_text answer_part answer_text
third_answer = refl

-- `4294967295 20`
pub longer_answer : answer_text 4294967295 0 (20 ∷ []) ≡ 52 ∷ 50 ∷ 57 ∷ 52 ∷ 57 ∷ 54 ∷ 55 ∷ 50 ∷ 57 ∷ 53 ∷ 32 ∷ 50 ∷ 48 ∷ 10 ∷ []
unfolding decimal_in decimal numbers_text refusal_text answer_part answer_text
longer_answer = refl

-- `18446744073709551615 !12`
pub last-answer : answer_text 18446744073709551615 12 []
    ≡ 49 ∷ 56 ∷ 52 ∷ 52 ∷ 54 ∷ 55 ∷ 52 ∷ 52 ∷ 48 ∷ 55 ∷ 51 ∷ 55 ∷ 48 ∷ 57 ∷ 53 ∷ 53 ∷ 49 ∷ 54 ∷ 49 ∷ 53 ∷ 32 ∷ 33 ∷ 49 ∷ 50 ∷ 10 ∷ []
unfolding decimal_in decimal numbers_text refusal_text answer_part answer_text
last-answer = refl
