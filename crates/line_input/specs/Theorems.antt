-- What is written for an input: an output line for each line of it, in order, and the state that it leaves, whatever parts it is read in.
use Rattle.std.specs.Prelude.{ℕ, suc, ◌+◌, ◌<◌, ◌^◌, ◌≡◌, List, [], ◌∷◌, ◌++◌, length}
use Rattle.text.specs.Text.{decimal}
use Rattle.stream.specs.Input.{lines_of, output_of, carried_over}
use Rattle.stream.specs.Theorems.{concatenated, outcome_for}
use Rattle.generator.specs.Step.{stepped}
use Rattle.lines.specs.Plain.{line_answer, line_draws, line_state}
use Rattle.line_input.specs.Answers.{kept_length, line_handler, state_line, closed}

-- all that is written for an input in parts, with a generator in a state
abbrev pub written_for : ℕ → List ℕ → List (List ℕ) → List ℕ
written_for state kept parts = closed (outcome_for line_handler state kept parts)

-- the state that an input leaves the generator in
abbrev pub state_over : List ℕ → ℕ → ℕ
state_over input state = carried_over line_state input state

-- WritesTheOutput for the answers to lines, over a slice of the length that is used
abbrev pub AnswersEachLine : Type 0
AnswersEachLine =
    (state : ℕ) (kept : List ℕ)
    → length kept ≡ kept_length
    → (parts : List (List ℕ))
    → length (lines_of (concatenated parts)) < 18446744073709551616
    → written_for state kept parts ≡ output_of line_answer (concatenated parts) ++ state_line (state_over (concatenated parts) state)

-- how many numbers lines draw; `number` is that of the first
unfoldable pub draws_from : ℕ → List (List ℕ) → ℕ
draws_from number [] = 0
draws_from number (l ∷ ls) = line_draws number l + draws_from (suc number) ls

-- the generator has advanced by the draws of the lines that ran, and by nothing else
abbrev pub AdvancesByDraws : Type 0
AdvancesByDraws = (input : List ℕ) (state : ℕ) → state_over input state ≡ stepped (draws_from 1 (lines_of input)) state

-- without a generator there is no last line
abbrev pub NoLastLine : Type 0
NoLastLine = (input : List ℕ) → state_line (state_over input 0) ≡ []

-- with one, made from a seed, there is always one
abbrev pub HasLastLine : Type 0
HasLastLine = (input : List ℕ) (seed : ℕ) → 0 < seed → seed < 2 ^ 32 → state_line (state_over input seed) ≡ decimal (state_over input seed) ++ 10 ∷ []
