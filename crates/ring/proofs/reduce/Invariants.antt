-- `ring::reduce` meets its contract. Assumes nothing.
use Rattle.std.proofs.Common.{◌≡◌, ℕ, ◌%◌}
use Rattle.field.specs.Field.{q}
use Rattle.lists.specs.Lists.{fill}
use Rattle.ring.proofs.Loops.{each}
use Rattle.ring.proofs.reduce.Given as goal

abbrev pub rest : ℕ → ℕ → ℕ
rest i y = y % q

abbrev pub invariant-loop-x : goal.invariant-loop-x
invariant-loop-x l = l.w ≡ fill l.initial.w 0 l.x-index (each rest l.initial.w)
