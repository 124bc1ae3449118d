-- The bytes that are kept of a line tell what is done with it.
use Prim.Native.Nat.{ℕ, ◌<◌}
use mathlib.Core.Path.{◌≡◌, refl, ap}
use mathlib.Core.List.{List}
use native.Mathlib.Omega.{arith}
use native.Mathlib.Decide.{dec_lt}
use borrow.Author.Tests.{lt-ltb}
use lib.ListN.{length, take, length-take}
use lib.Seq.{take_all}
use Rattle.stream.specs.Theorems.{LooksAt}
use Rattle.desk.specs.Desk.{longest_line, line_result, desk_answer, desk_handler}
use Rattle.desk.specs.Theorems.{kept_length}

-- one byte above the most shows that a line is too long
cut_line : (line : List ℕ) → line_result (take kept_length line) ≡ line_result line
unfolding line_result
cut_line line = go (dec_lt longest_line (length line))
  where
    go : Dec (longest_line < length line) → line_result (take kept_length line) ≡ line_result line
    go (yes h) = rw (lt-ltb longest_line (length (take kept_length line)) (omega (arith, length-take kept_length line)), lt-ltb longest_line (length line) h) refl
    go (no h) = ap line_result (take_all kept_length line (omega arith))

pub looks_at_kept : LooksAt (Unit {0}) kept_length desk_handler
unfolding desk_answer
looks_at_kept = record { answer_cut = λ number line. rw (cut_line line) refl; carry_cut = λ number line c. refl }
