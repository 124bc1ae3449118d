-- "Support engineers use a printed list" (02): the page of a set, and what is printed for a word that names none.
use Rattle.std.specs.Prelude.{ℕ, suc, cond, List, [], ◌∷◌, ◌++◌, ltb}
use Rattle.std.specs.Option.{option_map_or}
use Rattle.text.specs.Decimal.{number_in}
use Rattle.text.specs.Text.{decimal}
use Rattle.settings.specs.Sets.{scale_of, top_digits}

-- two lines at the head: `set` and its number, then `d t(d)`; byte 10 ends each line
unfoldable pub head_text : ℕ → List ℕ
head_text set = 115 ∷ 101 ∷ 116 ∷ 32 ∷ (decimal set ++ (10 ∷ 100 ∷ 32 ∷ 116 ∷ 40 ∷ 100 ∷ 41 ∷ 10 ∷ []))

-- a line of the list: d, one blank, t(d)
unfoldable pub entry_line : ℕ → ℕ → List ℕ
entry_line d t = decimal d ++ (32 ∷ (decimal t ++ (10 ∷ [])))

-- the lines of entries d, d + 1 ..
unfoldable pub entry_lines : ℕ → List ℕ → List ℕ
entry_lines d [] = []
entry_lines d (t ∷ ts) = entry_line d t ++ entry_lines (suc d) ts

-- the page: the head, and a line for each d from 0 to 2s + 1
unfoldable pub page_text : ℕ → List ℕ
page_text set = head_text set ++ entry_lines 0 (top_digits (scale_of set).parts)

-- `!` and the refusal
unfoldable pub refusal_line : ℕ → List ℕ
refusal_line refused = 33 ∷ (decimal refused ++ (10 ∷ []))

-- for a word: the page of the set that it names; a number that is no set is refused with 1, another word is malformed, `!12`
unfoldable pub page_for : List ℕ → List ℕ
page_for word =
    option_map_or (λ (set : ℕ). cond (ltb set 2) (page_text set) (refusal_line 1)) (number_in word) (refusal_line 12)

-- no page is longer
abbrev pub page_length : ℕ
page_length = 1024
