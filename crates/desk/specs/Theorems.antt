-- What the program writes for an input: an output line for each line of it, in order, whatever parts it is read in.
use Rattle.std.specs.Prelude.{ℕ, ◌<◌, ◌≡◌, List, length}
use Rattle.stream.specs.Input.{lines_of, output_of}
use Rattle.stream.specs.Theorems.{concatenated, outcome_for}
use Rattle.desk.specs.Desk.{desk_handler}

-- one byte more than a line may have, so that one that is too long is seen to be
abbrev pub kept_length : ℕ
kept_length = 1048577

-- WritesTheOutput for the program's own answers, over a slice of the length that it uses
abbrev pub DeskAnswersEachLine : Type 0
DeskAnswersEachLine =
    (kept : List ℕ)
    → length kept ≡ kept_length
    → (parts : List (List ℕ))
    → length (lines_of (concatenated parts)) < 18446744073709551616
    → (outcome_for desk_handler tt kept parts).written ≡ output_of desk_handler.answer (concatenated parts)
