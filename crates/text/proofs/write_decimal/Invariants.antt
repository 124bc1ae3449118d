-- `text::write_decimal`: the digits from place k on are written, and this is what is left of the number.
use Prim.Native.Nat.{◌-◌, ◌≤◌}
use mathlib.Core.Path.{◌≡◌}
use mathlib.Core.List.{◌++◌}
use lib.ListN.{length, drop}
use Rattle.text.specs.Text.{decimal_in, decimal}
use Rattle.text.proofs.write_decimal.Given as goal

abbrev pub invariant-loop-k : goal.invariant-loop-k
invariant-loop-k l = (1 ≤ l.k) × (length l.digits ≡ 20) × (decimal_in (l.k - 1) l.rest ++ drop l.k l.digits ≡ decimal l.number)
