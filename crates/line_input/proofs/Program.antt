-- The laws of whole inputs: every line is answered, and the generator's state is that which its draws leave.
use Prim.Native.Nat.{ℕ, suc, ◌<◌}
use mathlib.Core.Path.{◌≡◌, refl, sym, ap, ◌∙◌}
use mathlib.Core.List.{List, [], ◌∷◌}
use native.Mathlib.Omega.{arith}
use lib.ListN.{length}
use borrow.Author.Tests.{ne_eqb}
use Rattle.generator.specs.Step.{stepped}
use Rattle.generator.proofs.Steps.{stepped-none, stepped_add, stepped_zero, never_zero}
use Rattle.stream.specs.Input.{lines_of, carried_from, carried_over}
use Rattle.stream.specs.Theorems.{LooksAt}
use Rattle.stream.proofs.Parts.{writes_the_output}
use Rattle.lines.specs.Plain.{line_draws, line_state}
use Rattle.line_input.specs.Answers.{kept_length, line_handler, state_line, closed}
use Rattle.line_input.specs.Kept.{looks_at_kept}
use Rattle.line_input.specs.Theorems.{AnswersEachLine, AdvancesByDraws, NoLastLine, HasLastLine, state_over, draws_from}

-- a line is answered by its first 1,025 bytes
looks_at : (kept : List ℕ) → length kept ≡ kept_length → LooksAt ℕ (length kept) line_handler
looks_at kept l = rw l looks_at_kept

pub answers_each_line : AnswersEachLine
answers_each_line state kept l parts few = ap closed (writes_the_output ℕ line_handler state kept (omega arith) (looks_at kept l) parts few)

-- ---- The state

state-after : (number : ℕ) (ls : List (List ℕ)) (state : ℕ) → carried_from line_state number ls state ≡ stepped (draws_from number ls) state
unfolding carried_from draws_from line_state
state-after number [] state = sym (stepped-none state)
state-after number (l ∷ ls) state =
    state-after (suc number) ls (stepped (line_draws number l) state) ∙ sym (stepped_add (line_draws number l) (draws_from (suc number) ls) state)

pub advances_by_draws : AdvancesByDraws
unfolding carried_over
advances_by_draws input state = state-after 1 (lines_of input) state

pub no_last_line : NoLastLine
unfolding state_line
no_last_line input = rw (advances_by_draws input 0 ∙ stepped_zero (draws_from 1 (lines_of input))) refl

pub has_last_line : HasLastLine
unfolding state_line
has_last_line input seed some fits =
    let above : 0 < state_over input seed = rw (advances_by_draws input seed) (never_zero seed (draws_from 1 (lines_of input)) fits some) in
    rw (ne_eqb (state_over input seed) 0 (λ e. absurd (omega (arith, above, e)))) refl
