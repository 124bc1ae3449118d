-- The run of a line: what its deal, its begins and its answer are handed.
use Rattle.std.specs.Prelude.{ℕ, ◌+◌, ◌*◌, ◌/◌, ◌≤◌, ◌≡◌, cond, Result, Ok, Err, List, ◌++◌, eqb, length, get_or, take, replicate}
use Rattle.lists.specs.Lists.{list_to}
use Rattle.field.specs.Field.{q}
use Rattle.settings.specs.declared.Refusal.{Refusal}
use Rattle.settings.specs.Refusals.{Outcome, Gives, No, number_of}
use Rattle.settings.specs.Sizes.{key_count, width, work_length}
use Rattle.generator.specs.Step.{outputs}
use Rattle.state.specs.declared.Side.{Side}
use Rattle.state.specs.State.{answer_call}
use Rattle.syntax.specs.declared.Request.{Request}
use Rattle.execution.specs.declared.RunTerms.{RunTerms}
use Rattle.execution.specs.Held.{run_bytes, book_length}
use Rattle.lines.specs.declared.LineAnswer.{LineAnswer}
use Rattle.lines.specs.Plain.{settings_of, secret_of, drawn_for}

-- "keys 1, serial = line number"
abbrev pub ones : List ℕ
ones = replicate key_count 1

abbrev pub terms_for : ℕ → Request → RunTerms
terms_for serial request = record { settings = settings_of request; serial = serial; keys0 = ones; keys1 = ones }

-- the server's inputs: keys are 1 and the phone's numbers 0, so each coefficient in every column
unfoldable pub in_columns : List ℕ → List ℕ
in_columns xs = list_to (length xs * width) (λ (x : ℕ). get_or xs (x / width) 0)

-- how many numbers a side's inputs are, and all numbers of the run
abbrev pub inputs_for : Request → ℕ
inputs_for request = request.count * width

abbrev pub count_for : Request → ℕ
count_for request = 2 * inputs_for request + drawn_for request

-- the numbers of the run: the server's inputs; "the phone's input numbers are 0"; the draw of a generator in a state. The line program's
-- "all-zero draw" is that of state 0, which no seed leads to (`outputs_zero`)
abbrev pub numbers_for : ℕ → Request → List ℕ
numbers_for state request = in_columns (secret_of request) ++ (replicate (inputs_for request) 0 ++ outputs q state (drawn_for request))

-- what a side's answer says: its numbers, or the refusal
unfoldable pub answered_by : Side → Outcome (List ℕ)
answered_by s =
    let a = answer_call s (replicate 8 0) in
    cond (eqb a.result.refused 0) (Gives (take a.result.length a.out)) (No a.result.refused)

-- the same as the code holds it, with zeros behind the numbers
abbrev pub numbers_in : Result LineAnswer Refusal → Outcome (List ℕ)
numbers_in (Ok a) = Gives (take a.length a.numbers)
numbers_in (Err refusal) = No (number_of refusal)

-- ---- What is lent to a line

-- the numbers of a run, at most
abbrev pub most_numbers : ℕ
most_numbers = 2 * 8 * width + 1320 * width + 144

-- books, working slices and messages with room for any run, whatever they hold
pub record RoomForRun (book0 book1 work0 work1 messages : List ℕ) : Type 0 where
  pub server_book : book_length ≤ length book0
  pub phone_book : book_length ≤ length book1
  pub server_work : length work0 ≡ work_length key_count
  pub phone_work : length work1 ≡ work_length key_count
  pub bytes : run_bytes ≤ length messages

-- and zeros for the numbers; a line leaves all so for the next
pub record LentToLine (numbers book0 book1 work0 work1 messages : List ℕ) : Type 0 where
  pub zeros : numbers ≡ replicate most_numbers 0
  pub room : RoomForRun book0 book1 work0 work1 messages
