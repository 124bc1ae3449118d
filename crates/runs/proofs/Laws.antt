-- What needs no run: lengths of messages, and that a message of the round before is told by length or header.
use Prim.Native.Nat.{ℕ, suc, ◌+◌}
use mathlib.Core.Path.{◌≡◌, refl, sym, ap, ◌∙◌}
use mathlib.Core.List.{List}
use mathlib.Core.Bool.{Bool, true, false, ◌&&◌}
use native.Mathlib.Omega.{arith}
use native.Mathlib.Nat.{mul_comm}
use lib.ListN.{length}
use lib.Dec.{eqb}
use borrow.Author.Tests.{ne_eqb, eqb-true}
use Rattle.lists.proofs.Lists.{length-list_from, ahead_fixed}
use Rattle.settings.specs.Sizes.{bytes_for, openings, message_bits, field_count, message_length}
use Rattle.settings.specs.Settings.{params_in, Params}
use Rattle.settings.specs.declared.Settings.{Settings}
use Rattle.message.specs.Bits.{packed}
use Rattle.message.specs.Message.{message_of, header_in, header_number, header_with}
use Rattle.opening.specs.Opening.{message}
use Rattle.state.specs.declared.Side.{Side}

-- a message is as long as its round asks
pub message-sized : (k : ℕ) (s : Side) (work : List ℕ) → length (message k s work) ≡ message_length k (params_in s.settings) s.round
unfolding message message_of packed message_length
message-sized k s work =
    length-list_from 0 _ _ ∙ ap (λ f. bytes_for (message_bits f)) (ahead_fixed (1 + k) (openings (params_in s.settings) s.round) _
    (λ j. ap suc (length-list_from 0 k _) ∙ add_one k) ∙ mul_comm (openings (params_in s.settings) s.round) (1 + k))
  where
    add_one : (k : ℕ) → suc k ≡ 1 + k
    add_one k = omega arith

-- equal lengths are equal counts of fields
pub same-fields : (a b : ℕ) → bytes_for (message_bits a) ≡ bytes_for (message_bits b) → a ≡ b
same-fields a b e = omega (arith, e)

pub same_count : (k : ℕ) (p : Params) (a b : ℕ) → message_length k p a ≡ message_length k p b → field_count k p a ≡ field_count k p b
unfolding message_length
same_count k p a b e = same-fields (field_count k p a) (field_count k p b) e

pub next-header : (sender : ℕ) (s : Settings) (round serial : ℕ)
    → header_number (header_with sender s round serial) ≡ header_number (header_with sender s (suc round) serial) → ⊥
unfolding header_number
next-header sender s round serial e = omega (arith, e)

-- a message of the round before is told by length or header
pub of_another_round : (k sender : ℕ) (s : Settings) (serial : ℕ) (msg : List ℕ) (round : ℕ)
    → length msg ≡ message_length k (params_in s) round
    → header_in (field_count k (params_in s) round) msg ≡ header_number (header_with sender s round serial)
    → (eqb (length msg) (message_length k (params_in s) (suc round))
    && eqb (header_in (field_count k (params_in s) (suc round)) msg) (header_number (header_with sender s (suc round) serial))) ≡ false
of_another_round k sender s serial msg round l h = by (eqb (length msg) (message_length k (params_in s) (suc round))) refl
  where
    by : (d : Bool) → eqb (length msg) (message_length k (params_in s) (suc round)) ≡ d
        → (eqb (length msg) (message_length k (params_in s) (suc round)) && eqb (header_in (field_count k (params_in s) (suc round)) msg) (header_number (header_with sender s (suc round) serial))) ≡ false
    by false e = rw e
    by true e =
        rw (e, ← same_count k (params_in s) round (suc round) (sym l ∙ eqb-true _ _ e), h)
        (ne_eqb _ _ (next-header sender s round serial))
