-- What the program writes for an input: an output line for each line of it, in order, whatever parts it is read in.
use Rattle.std.specs.Prelude.{ℕ, ◌<◌, ◌≡◌, List, length}
use Rattle.stream.specs.Input.{lines_of, output_of}
use Rattle.stream.specs.Theorems.{concatenated}
use Rattle.lines.specs.Plain.{line_answer}
use Rattle.line_input.specs.Answers.{kept_length}
use Rattle.line_input.specs.Theorems.{written_for}

-- "an all-zero draw": the state that no seed leads to
abbrev pub no_generator : ℕ
no_generator = 0

abbrev pub WritesAnswers : Type 0
WritesAnswers =
    (kept : List ℕ)
    → length kept ≡ kept_length
    → (parts : List (List ℕ))
    → length (lines_of (concatenated parts)) < 18446744073709551616
    → written_for no_generator kept parts ≡ output_of line_answer (concatenated parts)
