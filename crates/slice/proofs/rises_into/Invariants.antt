-- `slice::rises_into` meets its contract.
use mathlib.Core.Path.{◌≡◌}
use Prim.Native.Nat.{ℕ, ◌-◌, ◌+◌}
use lib.ListN.{get_or}
use Rattle.lists.specs.Lists.{fill}
use Rattle.field.specs.Field.{q}
use Rattle.slice.proofs.rises_into.Given as goal

abbrev pub invariant-loop-d : goal.invariant-loop-d
invariant-loop-d l = l.rises ≡ fill l.initial.rises 0 l.d (λ (k : ℕ). get_or l.list (k + 1) 0 + q - get_or l.list k 0)
