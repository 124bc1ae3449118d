-- `message::write_number`: the bytes from place k on are written, and this is what is left of the number.
use Prim.Native.Nat.{ℕ, ◌-◌, ◌+◌, ◌*◌, ◌/◌, ◌^◌}
use mathlib.Core.Path.{◌≡◌}
use Rattle.lists.specs.Lists.{fill}
use Rattle.message.specs.Fields.{byte_of}
use Rattle.message.proofs.write_number.Given as goal

abbrev pub invariant-loop-k : goal.invariant-loop-k
invariant-loop-k l =
    (l.rest ≡ l.x / 2 ^ (8 * (l.count - l.k))) × (l.out ≡ fill l.initial.out l.k (l.count - l.k) (λ (j : ℕ). byte_of l.count l.x (l.k + j)))
