-- `ring::scale` meets its contract. Assumes nothing.
use Rattle.std.proofs.Common.{◌≡◌, ℕ}
use Rattle.field.specs.Field.{q, mul}
use Rattle.lists.specs.Lists.{fill}
use Rattle.ring.proofs.Loops.{each}
use Rattle.ring.proofs.scale.Given as goal

abbrev pub times : ℕ → ℕ → ℕ
times i y = mul q 8347681 y

abbrev pub invariant-loop-x : goal.invariant-loop-x
invariant-loop-x l = l.w ≡ fill l.initial.w 0 l.x-index (each times l.initial.w)
