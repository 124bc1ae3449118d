-- The bytes that are kept of a line tell what is done with it.
use Rattle.std.specs.Prelude.{ℕ}
use Rattle.stream.specs.Theorems.{LooksAt}
use Rattle.lines.proofs.Cut.{cut_line, cut_state}
use Rattle.line_input.specs.Answers.{kept_length, line_handler}

pub looks_at_kept : LooksAt ℕ kept_length line_handler
looks_at_kept = record { answer_cut = cut_line; carry_cut = cut_state }
