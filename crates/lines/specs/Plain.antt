-- What a line gives: its refusal, or the answer by the plain meaning; and the state that it leaves a generator in.
use Rattle.std.specs.Prelude.{ℕ, cond, List, [], eqb, leb, ltb, take}
use Rattle.std.specs.Option.{option_map_or}
use Rattle.lists.specs.Answers.{ask}
use Rattle.lists.specs.Lists.{all_below}
use Rattle.field.specs.Field.{q}
use Rattle.settings.specs.Questions.{ask_settings}
use Rattle.settings.specs.Refusals.{Outcome, Gives, No}
use Rattle.settings.specs.declared.Settings.{Settings}
use Rattle.settings.specs.Settings.{settings_with, params_in}
use Rattle.settings.specs.Sizes.{width, draw_length}
use Rattle.generator.specs.Step.{stepped}
use Rattle.runs.specs.Records.{answer_of}
use Rattle.syntax.specs.declared.Request.{Request}
use Rattle.text.specs.Decimal.{too_large}
use Rattle.syntax.specs.Line.{line_of}
use Rattle.syntax.specs.Answer.{answer_text}

-- the settings of a line
abbrev pub settings_of : Request → Settings
settings_of request = settings_with request.set request.kind request.count request.bound

-- its coefficients
abbrev pub secret_of : Request → List ℕ
secret_of request = take request.count request.numbers

-- The first no of the deal, then of the server's begin, then of the phone's, or 0 (`asked_in_order` proves it). The deal asks 1 and 2;
-- keys, lengths and the all-zero draw pass 4 to 6. The server's begin asks 3, then 6 of the coefficients, then 7, where a fresh side
-- has serial 0. The phone's begin refuses nothing more.
unfoldable pub request_no : ℕ → Request → ℕ
request_no serial request =
    ask_settings 0 (settings_of request)
    (ask (all_below q (secret_of request)) 6
    (ask (ltb 0 serial) 7
    0))

-- the high parts, or the verdict; or a refusal
unfoldable pub result_for : ℕ → Request → Outcome (List ℕ)
result_for serial request =
    let refusal = request_no serial request in
    cond (eqb refusal 0)
    (Gives (answer_of (settings_of request) (secret_of request)))
    (No refusal)

-- "malformed: `!12`, no run"; "serial = line number", and serials end at 2^32 − 1, so that no line beyond has a run
unfoldable pub line_result : ℕ → List ℕ → Outcome (List ℕ)
line_result number line = cond (leb too_large number) (No 12) (option_map_or (result_for number) (line_of line) (No 12))

-- "Each output line: line number, then high parts or verdict, or `!` and the refusal"
abbrev pub result_answer : ℕ → Outcome (List ℕ) → List ℕ
result_answer number (Gives numbers) = answer_text number 0 numbers
result_answer number (No refusal) = answer_text number refusal []

unfoldable pub line_answer : ℕ → List ℕ → List ℕ
line_answer number line = result_answer number (line_result number line)

-- ---- The generator

-- how many numbers the draw of a request's run has
abbrev pub drawn_for : Request → ℕ
drawn_for request = draw_length (params_in (settings_of request)) width

-- "A refused line leaves the generator as it was": how many numbers a request draws
unfoldable pub request_draws : ℕ → Request → ℕ
request_draws serial request = cond (eqb (request_no serial request) 0) (drawn_for request) 0

-- how many a line draws: none where it asks for no run
unfoldable pub line_draws : ℕ → List ℕ → ℕ
line_draws number line = cond (leb too_large number) 0 (option_map_or (request_draws number) (line_of line) 0)

-- "one generator": the state that a line leaves it in
unfoldable pub line_state : ℕ → List ℕ → ℕ → ℕ
line_state number line state = stepped (line_draws number line) state
