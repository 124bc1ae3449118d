-- What is done with a line, and what stands at the end of the output.
use Rattle.std.specs.Prelude.{ℕ, cond, List, [], ◌∷◌, ◌++◌, eqb}
use Rattle.text.specs.Text.{decimal}
use Rattle.stream.specs.Theorems.{Handler, Outcome}
use Rattle.lines.specs.Plain.{line_answer, line_state}

-- one byte more than a line may have, so that one that is too long is seen to be
abbrev pub kept_length : ℕ
kept_length = 1025

-- a line is answered, and the generator's state goes from line to line
abbrev pub line_handler : Handler ℕ
line_handler = record { answer = line_answer; carry = line_state }

-- "then a last line with the generator's state in decimal"; none for state 0, which no seed leads to: the line program
unfoldable pub state_line : ℕ → List ℕ
state_line state = cond (eqb state 0) [] (decimal state ++ 10 ∷ [])

-- the answers, and the last line
abbrev pub closed : Outcome ℕ → List ℕ
closed o = o.written ++ state_line o.carried
