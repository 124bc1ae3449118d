-- What the program writes for an input: what the line program would, and then the generator's state, whatever parts it is read in.
use Rattle.std.specs.Prelude.{ℕ, ◌<◌, ◌≡◌, List, [], ◌∷◌, ◌++◌, length}
use Rattle.text.specs.Text.{decimal}
use Rattle.stream.specs.Input.{lines_of, output_of}
use Rattle.stream.specs.Theorems.{concatenated}
use Rattle.lines.specs.Plain.{line_answer}
use Rattle.line_input.specs.Answers.{kept_length}
use Rattle.line_input.specs.Theorems.{written_for, state_over}

-- "one generator from seed 1"
abbrev pub load_seed : ℕ
load_seed = 1

-- "writes what 01's program would, then a last line with the generator's state in decimal"
abbrev pub WritesAnswersAndState : Type 0
WritesAnswersAndState =
    (kept : List ℕ)
    → length kept ≡ kept_length
    → (parts : List (List ℕ))
    → length (lines_of (concatenated parts)) < 18446744073709551616
    → let input = concatenated parts in
    written_for load_seed kept parts ≡ output_of line_answer input ++ (decimal (state_over input load_seed) ++ 10 ∷ [])
