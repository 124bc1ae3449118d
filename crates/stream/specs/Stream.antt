-- How the code goes through an input that comes in parts.
use Rattle.std.specs.Prelude.{ℕ, ◌+◌, min, Bool, true, false, cond, List, ◌++◌, ltb, length, take}
use Rattle.lists.specs.Lists.{in_front, length_before}
use Rattle.stream.specs.declared.Stream.{Stream}
use Rattle.stream.specs.declared.Step.{Step}

-- before the first byte
abbrev pub at_start : Stream
at_start = record { number = 1; held = 0; ended = false }

-- the next line's number; the count stops at the largest number of 64 bits
abbrev pub number_after : ℕ → ℕ
number_after n = min (n + 1) 18446744073709551615

-- the line to be read: the next one, if the last has ended
unfoldable pub at_line : Stream → Stream
at_line s = cond s.ended (record { number = number_after s.number; held = 0; ended = false }) s

-- the bytes of the line that is being read
abbrev pub held_of : Stream → List ℕ → List ℕ
held_of s kept = take s.held kept

-- the first `held` of the bytes that are kept, and then these, as far as there is room
abbrev pub with_bytes : List ℕ → ℕ → List ℕ → List ℕ
with_bytes kept held bytes = take (length kept) (take held kept ++ bytes)

-- the bytes of the line with those that come before the first line end
abbrev pub held_after : Stream → List ℕ → List ℕ → List ℕ
held_after s kept bytes = with_bytes kept (at_line s).held (take (length_before 10 bytes) bytes)

-- the slice that holds them
abbrev pub kept_after : Stream → List ℕ → List ℕ → List ℕ
kept_after s kept bytes = in_front (held_after s kept bytes) kept

-- one call: the bytes up to the first line end, and it too
unfoldable pub next_line : Stream → List ℕ → List ℕ → Step
next_line s kept bytes =
    let n = length_before 10 bytes in
    let held = length (held_after s kept bytes) in
    let number = (at_line s).number in
    cond (ltb n (length bytes))
    (record { used = n + 1; stream = record { number = number; held = held; ended = true } })
    (record { used = n; stream = record { number = number; held = held; ended = false } })

-- at the end of the input: what is held is a line, unless it has ended or is nothing
unfoldable pub is_left : Stream → Bool
is_left s = cond s.ended false (ltb 0 s.held)
