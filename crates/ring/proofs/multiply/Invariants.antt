-- `ring::multiply` meets its contract. Assumes nothing.
use Rattle.std.proofs.Common.{◌≡◌, ℕ, List, get_or}
use Rattle.field.specs.Field.{q, mul}
use Rattle.lists.specs.Lists.{fill}
use Rattle.ring.proofs.Loops.{each}
use Rattle.ring.proofs.multiply.Given as goal

abbrev pub times : List ℕ → ℕ → ℕ → ℕ
times u i y = mul q (get_or u i 0) y

abbrev pub invariant-loop-i : goal.invariant-loop-i
invariant-loop-i l = l.v ≡ fill l.initial.v 0 l.i (each (times l.u) l.initial.v)
