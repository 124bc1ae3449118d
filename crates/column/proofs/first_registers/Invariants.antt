-- `column::first_registers` meets its contract. Assumes nothing.
use Rattle.column.specs.Held.{RegistersHeld}
use Rattle.steps.specs.Context.{public_by, ContextOf}
use mathlib.Core.List.{List}
use Prim.Native.Nat.{ℕ}
use mathlib.Core.Path.{◌≡◌}
use lib.ListN.{length}
use Rattle.column.proofs.first_registers.Given as goal

abbrev pub invariant-loop-g : goal.invariant-loop-g
invariant-loop-g l = (masked opened : ℕ → ℕ) (κs : List ℕ) → length κs ≡ l.columns → ContextOf l.known.settings
    l.known.round masked l.known → RegistersHeld (public_by l.known.settings masked) 1 opened κs l.work l.g l.next
