-- `steps::insides_value` meets its contract.
use Rattle.steps.specs.Steps.{insides}
use Rattle.field.specs.Forms.{value}
use Rattle.field.specs.Field.{q}
use Rattle.slice.specs.Layout.{registers}
use Rattle.steps.specs.Context.{public_by, ContextOf}
use Prim.Native.Nat.{ℕ}
use mathlib.Core.Path.{◌≡◌}
use Rattle.steps.proofs.insides_value.Given as goal

abbrev pub invariant-loop-j : goal.invariant-loop-j
invariant-loop-j l = (masked : ℕ → ℕ) → ContextOf l.known.settings l.known.round masked l.known → l.total ≡ value q l.weight
    (registers l.column) (insides (public_by l.known.settings masked) l.j)
