-- Lines and their answers, computed.
use mathlib.Core.Path.{◌≡◌, refl}
use mathlib.Core.List.{[], ◌∷◌, ◌++◌}
use Rattle.lists.specs.Answers.{ask, bit}
use Rattle.lists.specs.Lists.{every, all_below, to_first}
use Rattle.text.specs.Decimal.{digit_byte, value_from, number_in}
use Rattle.text.specs.Text.{decimal_in, decimal}
use Rattle.syntax.specs.Line.{words, values_of}
use Rattle.rounding.specs.Plain.{high_of_shifted, low_part, inside, verdict}
use Rattle.rounding.specs.Calls.{parts_no, verdict_no, parts_call, verdict_call}
use Rattle.desk.specs.Desk.{parts_word, verdict_word, same_word, call_named, refusal_text, signed_text, high_low_text, decomposed_text, verdict_text, parts_result, verdict_result, call_result, words_result, line_result, desk_answer}

-- `parts 0 8285185` gives `0 -95232`
pub parts-sample : desk_answer (parts_word ++ 32 ∷ 48 ∷ 32 ∷ 56 ∷ 50 ∷ 56 ∷ 53 ∷ 49 ∷ 56 ∷ 53 ∷ []) ≡ 48 ∷ 32 ∷ 45 ∷ 57 ∷ 53 ∷ 50 ∷ 51 ∷ 50 ∷ 10 ∷ []
unfolding to_first words digit_byte value_from number_in every values_of same_word call_named ask parts_no high_of_shifted low_part parts_call signed_text high_low_text decomposed_text parts_result call_result words_result line_result desk_answer decimal_in decimal
parts-sample = refl

-- `verdict 1 2 1` gives `1`, and without its coefficient `!2`
pub verdict-sample : desk_answer (verdict_word ++ 32 ∷ 49 ∷ 32 ∷ 50 ∷ 32 ∷ 49 ∷ []) ≡ 49 ∷ 10 ∷ []
unfolding to_first words digit_byte value_from number_in values_of same_word call_named ask bit every all_below inside verdict verdict_no verdict_call verdict_text verdict_result call_result words_result line_result desk_answer decimal_in decimal
verdict-sample = refl

pub no_coefficient : desk_answer (verdict_word ++ 32 ∷ 49 ∷ 32 ∷ 50 ∷ []) ≡ 33 ∷ 50 ∷ 10 ∷ []
unfolding to_first words digit_byte value_from number_in values_of same_word call_named ask bit every all_below inside verdict verdict_no verdict_call refusal_text verdict_text verdict_result call_result words_result line_result desk_answer decimal_in decimal
no_coefficient = refl

-- a line of one blank: `!12`
pub blank-sample : desk_answer (32 ∷ []) ≡ 33 ∷ 49 ∷ 50 ∷ 10 ∷ []
unfolding to_first words number_in every values_of same_word call_named refusal_text call_result words_result line_result desk_answer decimal_in decimal
blank-sample = refl
