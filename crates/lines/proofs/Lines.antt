-- A whole line: beyond the last serial, malformed, refused or run; what it gives, and the generator's state.
use Prim.Native.Nat.{ℕ, ◌≤◌, ◌<◌}
use mathlib.Core.Path.{◌≡◌, refl, sym, ◌∙◌}
use mathlib.Core.Logic.{◌≢◌}
use mathlib.Core.List.{List}
use borrow.Author.Tests.{le-leb, lt-leb, ne_eqb}
use Rattle.std.specs.Prelude.{Some, None}
use Rattle.settings.specs.Refusals.{Outcome, No}
use Rattle.text.specs.Decimal.{too_large}
use Rattle.syntax.specs.declared.Request.{Request}
use Rattle.syntax.specs.Line.{line_of}
use Rattle.generator.specs.Step.{stepped}
use Rattle.generator.proofs.Steps.{stepped-none}
use Rattle.lines.specs.Plain.{request_no, result_for, line_result, drawn_for, request_draws, line_draws, line_state}

pub record LineGives (number : ℕ) (line : List ℕ) (state : ℕ) (r : Outcome (List ℕ)) (after : ℕ) : Type 0 where
  pub result_value : r ≡ line_result number line
  pub state_value : after ≡ line_state number line state

module _ (number : ℕ) (line : List ℕ) (state : ℕ) where
  pub beyond : too_large ≤ number → LineGives number line state (No 12) state
  unfolding line_result line_state line_draws
  beyond h = record { result_value = rw (le-leb too_large number h); state_value = rw (le-leb too_large number h) (sym (stepped-none state)) }

  pub malformed : number < too_large → None ≡ line_of line → LineGives number line state (No 12) state
  unfolding line_result line_state line_draws
  malformed h e =
      record { result_value = rw (lt-leb too_large number h, ← e); state_value = rw (lt-leb too_large number h, ← e) (sym (stepped-none state)) }

  module _ (o : Request) (h : number < too_large) (e : Some o ≡ line_of line) where
    result-run : line_result number line ≡ result_for number o
    unfolding line_result
    result-run = rw (lt-leb too_large number h, ← e) refl

    draws-run : line_draws number line ≡ request_draws number o
    unfolding line_draws
    draws-run = rw (lt-leb too_large number h, ← e) refl

    pub refuses : (n : ℕ) → n ≢ 0 → n ≡ request_no number o → LineGives number line state (No n) state
    unfolding line_state result_for request_draws
    refuses n some is =
        let none = ne_eqb n 0 some in
        record { result_value = rw result-run (rw (← is, none)); state_value = rw draws-run (rw (← is, none) (sym (stepped-none state))) }

    pub run : request_no number o ≡ 0 → (r : Outcome (List ℕ)) → r ≡ result_for number o → (after : ℕ) → after ≡ stepped (drawn_for o) state → LineGives number line state r after
    unfolding line_state request_draws
    run n r f after k = record { result_value = f ∙ sym result-run; state_value = rw draws-run (rw n k) }
