-- `steps::context_of` meets its contract.
use Prim.Native.Nat.{ℕ, ◌<◌}
use mathlib.Core.Path.{◌≡◌}
use mathlib.Core.List.{[]}
use lib.ListN.{length, get_or}
use Rattle.settings.specs.Sets.{scale_of}
use Rattle.rounding.specs.Digits.{split_of}
use Rattle.steps.specs.Context.{number_at}
use Rattle.steps.proofs.context_of.Given as goal

abbrev pub invariant-loop-x : goal.invariant-loop-x
invariant-loop-x l =
    (l.known.settings ≡ l.settings) × (l.known.round ≡ l.round) × (length l.known.splits ≡ 16)
    × ((y : ℕ) → y < l.x → get_or l.known.splits y (record { number = 0; digits = [] }) ≡ split_of (scale_of l.settings.shape.set) (number_at l.settings (λ (j : ℕ). get_or l.masked j 0) y))
