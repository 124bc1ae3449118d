-- The parts of an input do not matter: whatever parts it comes in, what is written is the output for the whole, and what is carried from
-- line to line is what its lines leave.
use Rattle.std.specs.Prelude.{ℕ, zero, suc, ◌<◌, ◌≡◌, cond, List, [], ◌∷◌, ◌++◌, eqb, length, take, drop}
use Rattle.stream.specs.declared.Stream.{Stream}
use Rattle.stream.specs.Input.{lines_of, output_of, carried_over}
use Rattle.stream.specs.Stream.{at_start, at_line, held_of, next_line, kept_after, is_left}

-- what a program does with a line, given its number and its bytes: what it writes, and what becomes of that which it carries
pub record Handler (C : Type 0) : Type 0 where
  pub answer : ℕ → List ℕ → List ℕ
  pub carry : ℕ → List ℕ → C → C

-- a program that carries nothing
abbrev pub carries_nothing : (ℕ → List ℕ → List ℕ) → Handler (Unit {0})
carries_nothing answer = record { answer = answer; carry = λ _ _ c. c }

-- where a program stands: the input, the slice that holds a line's bytes, all that has been written, and what is carried
pub record State (C : Type 0) : Type 0 where
  pub stream : Stream
  pub kept : List ℕ
  pub written : List ℕ
  pub carried : C

-- one call of next_line; a line that has ended is answered
unfoldable pub after_call : {C : Type 0} → Handler C → State C → List ℕ → State C
after_call h a bytes =
    let s = (next_line a.stream a.kept bytes).stream in
    let kept = kept_after a.stream a.kept bytes in
    record {
      stream = s;
      kept = kept;
      written = a.written ++ cond s.ended (h.answer s.number (held_of s kept)) [];
      carried = cond s.ended (h.carry s.number (held_of s kept) a.carried) a.carried;
    }

-- calls until a part is used up: a call uses one byte at least, so as many calls as bytes are enough
unfoldable pub after_calls : {C : Type 0} → Handler C → ℕ → State C → List ℕ → State C
after_calls h zero a bytes = a
after_calls h (suc calls) a bytes =
    cond (eqb (length bytes) 0) a
    (after_calls h calls (after_call h a bytes) (drop (next_line a.stream a.kept bytes).used bytes))

-- one part after another
unfoldable pub after_parts : {C : Type 0} → Handler C → State C → List (List ℕ) → State C
after_parts h a [] = a
after_parts h a (p ∷ ps) = after_parts h (after_calls h (length p) a p) ps

-- all that is written for an input, and what is carried at its end
pub record Outcome (C : Type 0) : Type 0 where
  pub written : List ℕ
  pub carried : C

-- the last line, if it lacks its line end
unfoldable pub after_end : {C : Type 0} → Handler C → State C → Outcome C
after_end h a =
    let left = is_left a.stream in
    let number = (at_line a.stream).number in
    let line = held_of a.stream a.kept in
    record { written = a.written ++ cond left (h.answer number line) []; carried = cond left (h.carry number line a.carried) a.carried }

-- the outcome for an input in parts
unfoldable pub outcome_for : {C : Type 0} → Handler C → C → List ℕ → List (List ℕ) → Outcome C
outcome_for h c kept parts = after_end h (after_parts h (record { stream = at_start; kept = kept; written = []; carried = c }) parts)

-- the parts joined
unfoldable pub concatenated : List (List ℕ) → List ℕ
concatenated [] = []
concatenated (p ∷ ps) = p ++ concatenated ps

-- what a program does with a line depends on no more than its first `room` bytes
pub record LooksAt (C : Type 0) (room : ℕ) (h : Handler C) : Type 0 where
  pub answer_cut : (number : ℕ) (line : List ℕ) → h.answer number (take room line) ≡ h.answer number line
  pub carry_cut : (number : ℕ) (line : List ℕ) (c : C) → h.carry number (take room line) c ≡ h.carry number line c

-- WritesTheOutput. A program that looks at no more than the first `length kept` bytes of a line answers each line, in order, and carries
-- what it carries from each to the next
abbrev pub WritesTheOutput : Type 1
WritesTheOutput =
    (C : Type 0) (h : Handler C) (c : C) (kept : List ℕ)
    → 0 < length kept
    → LooksAt C (length kept) h
    → (parts : List (List ℕ))
    → length (lines_of (concatenated parts)) < 18446744073709551616
    → outcome_for h c kept parts ≡ record { written = output_of h.answer (concatenated parts); carried = carried_over h.carry (concatenated parts) c }
