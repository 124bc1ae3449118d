-- "Lines on standard input, one call each, decimal words with one blank between, one output line for each": the output line for an
-- input line, the call that its first word names, made with the numbers behind it.
use Rattle.std.specs.Prelude.{ℕ, suc, ◌+◌, ◌*◌, Bool, cond, List, [], ◌∷◌, ◌++◌, map, eqb, ltb, ℤ, pos, negsuc, length, get_or, take, drop, replicate, Option, Some, None}
use Rattle.std.specs.Option.{option_map_or}
use Rattle.std.specs.Cmp.Lexicographic.{pointwise}
use Rattle.text.specs.Decimal.{number_in}
use Rattle.text.specs.Text.{decimal, numbers_text}
use Rattle.settings.specs.declared.Shape.{Shape}
use Rattle.settings.specs.Sizes.{key_count, width, draw_size}
use Rattle.rounding.specs.declared.HighLow.{HighLow}
use Rattle.settings.specs.Refusals.{Outcome, Gives, No}
use Rattle.rounding.specs.Calls.{parts_call, verdict_call}
use Rattle.stock.specs.Stock.{choose_no, chosen}
use Rattle.generator.specs.declared.Generator.{Generator}
use Rattle.generator.specs.Calls.{seed_call, Drew, draw_call}
use Rattle.syntax.specs.Line.{words, values_of}
use Rattle.desk.specs.declared.words.CallName.{CallName}
use Rattle.stream.specs.Theorems.{Handler, carries_nothing}

-- ---- Words

-- `parts`, `verdict`, `choose`, `draw`
abbrev pub parts_word : List ℕ
parts_word = 112 ∷ 97 ∷ 114 ∷ 116 ∷ 115 ∷ []

abbrev pub verdict_word : List ℕ
verdict_word = 118 ∷ 101 ∷ 114 ∷ 100 ∷ 105 ∷ 99 ∷ 116 ∷ []

abbrev pub choose_word : List ℕ
choose_word = 99 ∷ 104 ∷ 111 ∷ 111 ∷ 115 ∷ 101 ∷ []

abbrev pub draw_word : List ℕ
draw_word = 100 ∷ 114 ∷ 97 ∷ 119 ∷ []

-- are two words equal, byte for byte?
unfoldable pub same_word : List ℕ → List ℕ → Bool
same_word v w = pointwise eqb v w

-- the call that the first word of a line names, if it names one
unfoldable pub call_named : List ℕ → Option CallName
call_named w =
    cond (same_word w parts_word) (Some CallName.Parts)
    (cond (same_word w verdict_word) (Some CallName.BoundVerdict)
    (cond (same_word w choose_word) (Some CallName.Choose)
    (cond (same_word w draw_word) (Some CallName.Draw)
    None)))

-- "decimal words": the words behind it, each read as a number
abbrev pub fields_of : List (List ℕ) → List (Option ℕ)
fields_of ws = map number_in ws

-- ---- Results

-- `!` and the refusal
unfoldable pub refusal_text : ℕ → List ℕ
refusal_text refused = 33 ∷ decimal refused

-- "Malformed: `!12`"
abbrev pub malformed_text : List ℕ
malformed_text = refusal_text 12

-- a signed number: `-` in front of a negative one
unfoldable pub signed_text : ℤ → List ℕ
signed_text (pos n) = decimal n
signed_text (negsuc n) = 45 ∷ decimal (suc n)

-- both parts, as request Two gives them in one result: high, one blank, low
unfoldable pub high_low_text : HighLow → List ℕ
high_low_text parts = decimal parts.high ++ 32 ∷ signed_text parts.low

-- "print the value or `!` and the refusal": both parts, or a verdict
unfoldable pub decomposed_text : Outcome HighLow → List ℕ
decomposed_text (Gives parts) = high_low_text parts
decomposed_text (No refused) = refusal_text refused

unfoldable pub verdict_text : Outcome ℕ → List ℕ
verdict_text (Gives verdict) = decimal verdict
verdict_text (No refused) = refusal_text refused

-- the numbers of a part, one blank between
unfoldable pub part_text : List ℕ → List ℕ
part_text [] = []
part_text (n ∷ ns) = decimal n ++ numbers_text ns

-- "prints the chosen part's numbers, or `!` and the refusal"
unfoldable pub choose_text : Shape → List ℕ → List ℕ → ℕ → List ℕ
choose_text shape first second last =
    cond (eqb (choose_no key_count shape first second last) 0)
    (part_text (chosen key_count shape first second last))
    (refusal_text (choose_no key_count shape first second last))

-- the draw's numbers, one blank between, then a blank and the generator's state after it; or `!` and the refusal
unfoldable pub drawn_text : Drew → List ℕ
drawn_text drew = cond (eqb drew.refused 0) (part_text drew.out ++ 32 ∷ decimal drew.state) (refusal_text drew.refused)

-- the draw of the generator that a seed makes, in a slice of zeros of the draw's size; or `!` and the seed's refusal
unfoldable pub draw_text : Outcome Generator → Shape → List ℕ
draw_text (Gives generator) shape = drawn_text (draw_call key_count generator.state shape (replicate (draw_size shape) 0))
draw_text (No refused) shape = refusal_text refused

-- ---- Calls

-- "`parts SET W`"
unfoldable pub parts_result : List ℕ → List ℕ
parts_result ns = cond (eqb (length ns) 2) (decomposed_text (parts_call (get_or ns 0 0) (get_or ns 1 0))) malformed_text

-- "`verdict SET B W..`": no W at all is well formed
unfoldable pub verdict_result : List ℕ → List ℕ
verdict_result ns = cond (ltb (length ns) 2) malformed_text (verdict_text (verdict_call (get_or ns 0 0) (get_or ns 1 0) (drop 2 ns)))

-- "COUNT numbers belong to the first stock, the rest to the second"; there must be so many
unfoldable pub stocks_text : Shape → ℕ → ℕ → List ℕ → List ℕ
stocks_text shape last count stocks =
    cond (ltb (length stocks) count) malformed_text (choose_text shape (take count stocks) (drop count stocks) last)

-- "`choose SET KIND N LAST COUNT FIRST.. SECOND..`"
unfoldable pub choose_result : List ℕ → List ℕ
choose_result ns =
    cond (ltb (length ns) 5) malformed_text
    (stocks_text (record { set = get_or ns 0 0; kind = get_or ns 1 0; n = get_or ns 2 0 }) (get_or ns 3 0) (get_or ns 4 0) (drop 5 ns))

-- `draw SEED SET KIND N`: the seed's question comes first
unfoldable pub draw_result : List ℕ → List ℕ
draw_result ns =
    cond (eqb (length ns) 4)
    (draw_text (seed_call (get_or ns 0 0)) (record { set = get_or ns 1 0; kind = get_or ns 2 0; n = get_or ns 3 0 }))
    malformed_text

-- the call that is named, made with the numbers
unfoldable pub call_result : CallName → List ℕ → List ℕ
call_result CallName.Parts ns = parts_result ns
call_result CallName.BoundVerdict ns = verdict_result ns
call_result CallName.Choose ns = choose_result ns
call_result CallName.Draw ns = draw_result ns

-- ---- Lines

-- "Lines up to 2^20 bytes", without the line end
abbrev pub longest_line : ℕ
longest_line = 1048576

-- a line by its words: the name of a call, and numbers alone behind it
unfoldable pub words_result : List (List ℕ) → List ℕ
words_result [] = malformed_text
words_result (w ∷ ws) =
    option_map_or (λ (call : CallName). option_map_or (call_result call) (values_of (fields_of ws)) malformed_text) (call_named w) malformed_text

-- what stands before the line end
unfoldable pub line_result : List ℕ → List ℕ
line_result line = cond (ltb longest_line (length line)) malformed_text (words_result (words line))

-- the output line for an input line without its line end; byte 10 ends it
unfoldable pub desk_answer : List ℕ → List ℕ
desk_answer line = line_result line ++ 10 ∷ []

-- a line's number changes nothing, and nothing is carried to the next line
abbrev pub desk_handler : Handler (Unit {0})
desk_handler = carries_nothing (λ number line. desk_answer line)

-- the most numbers of a line: each has a digit at least, and a blank before it
abbrev pub most_numbers : ℕ
most_numbers = 524288

-- the most numbers of a draw: those of 1,320 shared numbers, and 144 drawn ones
abbrev pub most_draw : ℕ
most_draw = 1320 * width + 144

-- no result is longer than a draw with its state, ten digits and a blank for each number; behind it an answer has a line end
abbrev pub longest_result : ℕ
longest_result = 11 * (most_draw + 1)

abbrev pub longest_answer : ℕ
longest_answer = longest_result + 1
