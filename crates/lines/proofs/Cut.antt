-- A line that is cut: one byte above the most shows that it is too long.
use Prim.Native.Nat.{ℕ, ◌<◌}
use mathlib.Core.Path.{◌≡◌, refl, ap}
use mathlib.Core.List.{List}
use native.Mathlib.Omega.{arith}
use native.Mathlib.Decide.{dec_lt}
use borrow.Author.Tests.{lt-ltb}
use lib.ListN.{length, take, length-take}
use lib.Seq.{take_all}
use Rattle.syntax.specs.Line.{line_of}
use Rattle.lines.specs.Plain.{line_result, line_answer, line_draws, line_state}

cut_order : (line : List ℕ) → line_of (take 1025 line) ≡ line_of line
unfolding line_of
cut_order line = go (dec_lt 1024 (length line))
  where
    go : Dec (1024 < length line) → line_of (take 1025 line) ≡ line_of line
    go (yes h) = rw (lt-ltb 1024 (length (take 1025 line)) (omega (arith, length-take 1025 line)), lt-ltb 1024 (length line) h) refl
    go (no h) = ap line_of (take_all 1025 line (omega arith))

pub cut_line : (k : ℕ) (line : List ℕ) → line_answer k (take 1025 line) ≡ line_answer k line
unfolding line_answer line_result
cut_line k line = rw (cut_order line) refl

pub cut_state : (k : ℕ) (line : List ℕ) (state : ℕ) → line_state k (take 1025 line) state ≡ line_state k line state
unfolding line_state line_draws
cut_state k line state = rw (cut_order line) refl
