-- `ring::inverse_layers` meets its contract. Assumes nothing.
use Rattle.std.proofs.Common.{◌≡◌, ℕ, ◌<◌, ◌-◌, ◌*◌, ◌^◌, get_or}
use Rattle.field.specs.Field.{q}
use Rattle.ring.specs.Layers.{lazy_inverse_from}
use Rattle.ring.proofs.inverse_layers.Given as goal

abbrev pub invariant-loop-n : goal.invariant-loop-n
invariant-loop-n l = (lazy_inverse_from l.n l.w ≡ lazy_inverse_from 8 l.initial.w) × ((i : ℕ) → get_or l.w i 0 < 2 ^ (8 - l.n) * q)
