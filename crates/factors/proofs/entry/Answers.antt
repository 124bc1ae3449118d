-- The factor at i is the power of i reversed.
use Rattle.std.proofs.Common.{ℕ, ◌≡◌, ◌%◌, ◌^◌, arith, ap, ◌∙◌}
use Rattle.std.specs.Int.{reverse_bits_onto}
use Rattle.field.specs.Field.{q}
use Rattle.ring.specs.Factors.{reversed, factor}
use Rattle.factors.proofs.entry.Goals as goal

same : (i : ℕ) → reverse_bits_onto 8 i 0 ≡ reversed 8 i
unfolding reverse_bits_onto reversed
same i = omega arith

pub returns : goal.returns
unfolding factor
returns c = c.power.ensures ∙ ap (λ (n : ℕ). 1753 ^ n % q) (c.reverse_bits.ensures ∙ same c.args.i)
