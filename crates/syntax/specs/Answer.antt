-- The text of an output line.
use Rattle.std.specs.Prelude.{ℕ, cond, List, [], ◌∷◌, ◌++◌, eqb}
use Rattle.text.specs.Text.{decimal, numbers_text}

-- a blank, `!` and the refusal
unfoldable pub refusal_text : ℕ → List ℕ
refusal_text r = 32 ∷ 33 ∷ decimal r

-- "high parts or verdict, or `!` and the refusal"; refusal 0 is none
unfoldable pub answer_part : ℕ → List ℕ → List ℕ
answer_part refused ns = cond (eqb refused 0) (numbers_text ns) (refusal_text refused)

-- "Each output line: line number, then high parts or verdict, or `!` and the refusal, one blank between numbers"; byte 10 ends it
unfoldable pub answer_text : ℕ → ℕ → List ℕ → List ℕ
answer_text number refused ns = decimal number ++ answer_part refused ns ++ 10 ∷ []
