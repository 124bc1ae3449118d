-- The program answers each line of its input, and writes nothing more.
use mathlib.Core.Path.{ap, ◌∙◌}
use mathlib.Core.List.{List, ◌++◌, append-nil}
use Prim.Native.Nat.{ℕ}
use Rattle.stream.specs.Input.{output_of}
use Rattle.stream.specs.Theorems.{concatenated}
use Rattle.lines.specs.Plain.{line_answer}
use Rattle.line_input.proofs.Program.{answers_each_line, no_last_line}
use Rattle.line_program.specs.Theorems.{no_generator, WritesAnswers}

pub writes_answers : WritesAnswers
writes_answers kept l parts few =
    let output = output_of line_answer (concatenated parts) in
    answers_each_line no_generator kept l parts few ∙ ap (λ (line : List ℕ). output ++ line) (no_last_line (concatenated parts)) ∙ append-nil output
