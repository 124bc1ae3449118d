-- A whole input: its lines, what a line program writes for them, and what it carries from each to the next.
use Rattle.std.specs.Prelude.{ℕ, suc, cond, List, [], ◌∷◌, ◌++◌, eqb}
use Rattle.lists.specs.Lists.{to_first}

-- "its line end (byte 10, which the last line may lack)": the lines of an input, without their line ends
unfoldable pub lines_of : List ℕ → List (List ℕ)
lines_of [] = []
lines_of (b ∷ bs) = cond (eqb b 10) ([] ∷ lines_of bs) (to_first b (lines_of bs))

-- what is written for each line, given its number and its bytes; `number` is that of the first
unfoldable pub answers_from : (ℕ → List ℕ → List ℕ) → ℕ → List (List ℕ) → List ℕ
answers_from answer number [] = []
answers_from answer number (l ∷ ls) = answer number l ++ answers_from answer (suc number) ls

-- what is written for a whole input
unfoldable pub output_of : (ℕ → List ℕ → List ℕ) → List ℕ → List ℕ
output_of answer input = answers_from answer 1 (lines_of input)

-- what is carried from each line to the next, as the last one leaves it; `number` is that of the first
unfoldable pub carried_from : {C : Type 0} → (ℕ → List ℕ → C → C) → ℕ → List (List ℕ) → C → C
carried_from carry number [] c = c
carried_from carry number (l ∷ ls) c = carried_from carry (suc number) ls (carry number l c)

-- as a whole input leaves it
unfoldable pub carried_over : {C : Type 0} → (ℕ → List ℕ → C → C) → List ℕ → C → C
carried_over carry input c = carried_from carry 1 (lines_of input) c
