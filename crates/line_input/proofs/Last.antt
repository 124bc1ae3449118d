-- The last line: the generator's state.
use Prim.Native.Nat.{ℕ, ◌≤◌, ◌<◌}
use mathlib.Core.Path.{◌≡◌}
use mathlib.Core.Logic.{◌≢◌}
use mathlib.Core.List.{[], ◌∷◌, ◌++◌}
use native.Mathlib.Omega.{arith}
use borrow.Author.Tests.{ne_eqb}
use lib.ListN.{length, length-append}
use Rattle.text.specs.Decimal.{too_large}
use Rattle.text.specs.declared.TextBuffer.{TextBuffer}
use Rattle.text.specs.Text.{Puts, decimal}
use Rattle.text.proofs.Decimals.{length_decimal_32}
use Rattle.text.proofs.Puts.{puts_none, puts_then}
use Rattle.line_input.specs.Answers.{state_line}

-- without a generator nothing is put
pub no_state : (t : TextBuffer) (state : ℕ) → state ≡ 0 → Puts t t (state_line state) × (length (state_line state) ≤ 11)
unfolding state_line
no_state t state e = rw e (puts_none t, omega arith)

state-is : (state : ℕ) → state ≢ 0 → state_line state ≡ decimal state ++ 10 ∷ []
unfolding state_line
state-is state h = rw (ne_eqb state 0 h)

pub some-state : {t digits end : TextBuffer} (state : ℕ) → state ≢ 0 → state < too_large → Puts t digits (decimal state) → Puts digits end (10 ∷ [])
    → Puts t end (state_line state) × (length (state_line state) ≤ 11)
some-state state h l e f =
    rw (state-is state h)
    (puts_then (decimal state) (10 ∷ []) e f, omega (arith, length-append (decimal state) (10 ∷ []), length_decimal_32 state l))
