-- The generator's step, and its outputs.
use Rattle.std.specs.Prelude.{ℕ, zero, suc, ◌*◌, ◌/◌, ◌%◌, ◌^◌, List}
use Rattle.std.specs.Int.Bits.{bit_xor}
use Rattle.lists.specs.Lists.{list_to}

-- "exclusive-or with itself shifted left", by k places, "kept to 32 bits"
unfoldable pub mixed_left : ℕ → ℕ → ℕ
mixed_left k x = bit_xor x (x * 2 ^ k % 2 ^ 32)

-- the same with a shift right
unfoldable pub mixed_right : ℕ → ℕ → ℕ
mixed_right k x = bit_xor x (x / 2 ^ k)

-- "exclusive-or with itself shifted left 13, then right 17, then left 5, kept to 32 bits"
unfoldable pub step : ℕ → ℕ
step x = mixed_left 5 (mixed_right 17 (mixed_left 13 x))

-- "The generator .. advances while giving a number": the state after so many steps
unfoldable pub stepped : ℕ → ℕ → ℕ
stepped zero state = state
stepped (suc n) state = step (stepped n state)

-- the next n outputs, each taken modulo m; an output is the state that its step leaves ("From seed 1 the first output is 270,369")
-- "It is for tests and its draws are biased": 2^32 is no multiple of q
unfoldable pub outputs : ℕ → ℕ → ℕ → List ℕ
outputs m state n = list_to n (λ (i : ℕ). stepped (suc i) state % m)
