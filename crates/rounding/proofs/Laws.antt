-- The laws of the plain arithmetic, all together.
use Rattle.rounding.specs.Theorems.{PlainLaws}
use Rattle.rounding.proofs.Decompose.{high_is, join_is}
use Rattle.rounding.proofs.Radix.{digits-join, digit_below, carry-next, zero_is, top-is}
use Rattle.rounding.proofs.ZeroCheck.{check-is}
use Rattle.rounding.proofs.HighResult.{result-is, high_below}
use Rattle.rounding.proofs.BoundResult.{compare-is, inside_is}

pub rounding_laws : PlainLaws
rounding_laws =
    record {
      high = high_is;
      join = join_is;
      high_below = high_below;
      digits = digits-join;
      digit_below = digit_below;
      carry = carry-next;
      zero = zero_is;
      top = top-is;
      result = result-is;
      check = check-is;
      compare = compare-is;
      bound = inside_is;
    }
