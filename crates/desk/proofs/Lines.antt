-- A whole line: too long, without numbers, with a word that is none, or called.
use Prim.Native.Nat.{ℕ, suc, ◌+◌, ◌-◌, ◌≤◌, ◌<◌}
use mathlib.Core.Path.{◌≡◌, refl}
use Rattle.std.proofs.Common.{Option, Some, None}
use Rattle.std.specs.Option.{option_map_or}
use mathlib.Core.List.{List, [], ◌∷◌}
use native.Mathlib.Numerals.{add-one}
use native.Mathlib.Omega.{arith}
use borrow.Author.Tests.{lt-ltb, le-ltb, le-leb}
use lib.ListN.{length, take, drop, length-drop}
use lib.Seq.{take_all}
use Rattle.lists.specs.Lists.{length_before}
use Rattle.syntax.specs.Line.{words, values_of}
use Rattle.syntax.proofs.Words.{rest, rest_end, words_first}
use Rattle.desk.specs.declared.words.CallName.{CallName}
use Rattle.desk.specs.Numbers.{ReadsNumbers}
use Rattle.desk.specs.Desk.{call_named, malformed_text, parts_result, verdict_result, choose_result, draw_result, call_result, longest_line, words_result, line_result}

pub line_long : (line : List ℕ) → longest_line < length line → malformed_text ≡ line_result line
unfolding line_result
line_long line h = rw (lt-ltb longest_line (length line) h) refl

-- no call does without numbers
no_numbers : (call : Option CallName) → malformed_text ≡ option_map_or (λ (name : CallName). call_result name []) call malformed_text
unfolding call_result parts_result verdict_result choose_result draw_result
no_numbers (Some CallName.Parts) = refl
no_numbers (Some CallName.BoundVerdict) = refl
no_numbers (Some CallName.Choose) = refl
no_numbers (Some CallName.Draw) = refl
no_numbers None = refl

module _ (line : List ℕ) (n : ℕ) (s : length line ≤ longest_line) (e : n ≡ length_before 32 line) where
  short : line_result line ≡ words_result (take n line ∷ rest line (suc n))
  unfolding line_result
  short = rw (le-ltb longest_line (length line) s, e, ← words_first line) refl

  pub line_one : n ≡ length line → malformed_text ≡ line_result line
  unfolding words_result values_of
  line_one h = rw (short, rest_end line (suc n) (omega arith)) (no_numbers (call_named (take n line)))

  pub line_unknown : None ≡ call_named (take n line) → malformed_text ≡ line_result line
  unfolding words_result
  line_unknown c = rw (short, ← c) refl

  module _ (h : n < length line) (call : CallName) (c : Some call ≡ call_named (take n line)) where
    abbrev behind : List ℕ
    behind = take (length line - (n + 1)) (drop (n + 1) line)

    two : line_result line ≡ words_result (take n line ∷ words behind)
    unfolding rest
    two =
        let all : behind ≡ drop (n + 1) line = take_all (length line - (n + 1)) (drop (n + 1) line) (omega (arith, length-drop (n + 1) line)) in
        rw (short, all, add-one n, le-leb (suc n) (length line) (omega arith)) refl

    pub line_bad : (numbers : List ℕ) → ReadsNumbers (words behind) None numbers → malformed_text ≡ line_result line
    unfolding words_result
    line_bad numbers k = rw (two, ← c, ← k.values) refl

    pub line_called : (count : ℕ) (numbers : List ℕ) → ReadsNumbers (words behind) (Some count) numbers → call_result call (take count numbers) ≡ line_result line
    unfolding words_result
    line_called count numbers k = rw (two, ← c, ← k.values) refl
