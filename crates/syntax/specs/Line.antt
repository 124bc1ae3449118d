-- What an input line asks for: its words, and what each must be.
use Rattle.std.specs.Prelude.{ℕ, suc, ◌-◌, Bool, false, cond, List, [], ◌∷◌, eqb, ltb, length, get_or, drop, Option, Some, None}
use Rattle.std.specs.Option.{option_map, option_and_then}
use Rattle.lists.specs.Lists.{to_first}
use Rattle.syntax.specs.Rows.{row}
use Rattle.text.specs.Decimal.{number_in}
use Rattle.syntax.specs.declared.Request.{Request}

-- "one blank between": a line's words, split at each blank (byte 32). A blank at an end, or next to another, leaves an empty word
unfoldable pub words : List ℕ → List (List ℕ)
words [] = [] ∷ []
words (b ∷ bs) = cond (eqb b 32) ([] ∷ words bs) (to_first b (words bs))

-- is the word this one byte?
unfoldable pub is_byte : ℕ → List ℕ → Bool
is_byte b w = cond (eqb (length w) 1) (eqb (get_or w 0 0) b) false

-- "H or B": 0 for HIGH, 1 for BOUND
unfoldable pub kind_in : List ℕ → Option ℕ
kind_in w = cond (is_byte 72 w) (Some 0) (cond (is_byte 66 w) (Some 1) None)

-- "set or `-` (meaning 0)"
unfoldable pub set_in : List ℕ → Option ℕ
set_in w = cond (is_byte 45 w) (Some 0) (number_in w)

-- "H or B, set or `-` (meaning 0), B, then coefficients": the word at place i
unfoldable pub field_at : ℕ → List ℕ → Option ℕ
field_at i w = cond (eqb i 0) (kind_in w) (cond (eqb i 1) (set_in w) (number_in w))

-- the words from place i on
unfoldable pub fields_from : ℕ → List (List ℕ) → List (Option ℕ)
fields_from i [] = []
fields_from i (w ∷ ws) = field_at i w ∷ fields_from (suc i) ws

-- the numbers of words that all have their form
unfoldable pub values_of : List (Option ℕ) → Option (List ℕ)
values_of [] = Some []
values_of (f ∷ fs) = option_and_then (λ (v : ℕ). option_map (λ (vs : List ℕ). v ∷ vs) (values_of fs)) f

-- n words with these values: kind, set, B, and the coefficients, of which the first 8 are kept
unfoldable pub requested : ℕ → List ℕ → Request
requested n vs =
    record { kind = get_or vs 0 0; set = get_or vs 1 0; bound = get_or vs 2 0; count = n - 3; numbers = row 8 (drop 3 vs) }

-- three words at least, and all of their form
unfoldable pub order_of : List (List ℕ) → Option Request
order_of ws = cond (ltb (length ws) 3) None (option_map (requested (length ws)) (values_of (fields_from 0 ws)))

-- "any other form, or a line above 1,024 bytes without its line end .., is malformed"
unfoldable pub line_of : List ℕ → Option Request
line_of line = cond (ltb 1024 (length line)) None (order_of (words line))
