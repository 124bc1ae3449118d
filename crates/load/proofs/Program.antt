-- The program answers each line of its input, and then writes the generator's state.
use mathlib.Core.Path.{ap, ◌∙◌}
use mathlib.Core.List.{List, ◌++◌}
use Prim.Native.Nat.{ℕ}
use native.Mathlib.Omega.{arith}
use Rattle.stream.specs.Input.{output_of}
use Rattle.stream.specs.Theorems.{concatenated}
use Rattle.lines.specs.Plain.{line_answer}
use Rattle.line_input.proofs.Program.{answers_each_line, has_last_line}
use Rattle.load.specs.Theorems.{load_seed, WritesAnswersAndState}

pub writes_answers_and_state : WritesAnswersAndState
writes_answers_and_state kept l parts few =
    let input = concatenated parts in
    answers_each_line load_seed kept l parts few ∙ ap (λ (line : List ℕ). output_of line_answer input ++ line) (has_last_line input load_seed (omega arith) (omega arith))
