-- The numbers of an input, read byte by byte: what one byte more, and the end, say of what is read over all bytes.
use Prim.Native.Nat.{ℕ, ◌+◌, ◌≤◌, ◌<◌}
use mathlib.Core.Path.{◌≡◌}
use mathlib.Core.List.{List}
use Rattle.std.proofs.Common.{Option, Some, None}
use native.Mathlib.Numerals.{add-one}
use lib.ListN.{length, get_or, drop, drop_of_length-le}
use lib.Seq.{drop-cons}
use Rattle.text.specs.declared.NumbersRead.{NumbersRead}
use Rattle.text.specs.Numbers.{after_byte, after_bytes, kept, kept_over}

-- the loop over the bytes: `t` and `u` are what it gives in the end
module _ (most : ℕ) (s : NumbersRead) (bytes : List ℕ) (i : ℕ) where
  pub bytes-more : (r : NumbersRead) (t : Option NumbersRead) → i < length bytes → after_bytes most s (drop i bytes) ≡ t
      → Some r ≡ after_byte most s (get_or bytes i 0) → after_bytes most r (drop (i + 1) bytes) ≡ t
  unfolding after_bytes
  bytes-more r t h e p = rw add-one (rw (drop-cons bytes i 0 h, ← p) at e)

  pub bytes_stop : (t : Option NumbersRead) → i < length bytes → after_bytes most s (drop i bytes) ≡ t → None ≡ after_byte most s (get_or bytes i 0) → None ≡ t
  unfolding after_bytes
  bytes_stop t h e p = rw (drop-cons bytes i 0 h, ← p) at e

  pub bytes-done : (t : Option NumbersRead) → length bytes ≤ i → after_bytes most s (drop i bytes) ≡ t → Some s ≡ t
  unfolding after_bytes
  bytes-done t h e = rw (drop_of_length-le bytes h) at e

  pub kept_more : (r : NumbersRead) (ns ms u : List ℕ) → i < length bytes → kept_over most s (drop i bytes) ns ≡ u
      → Some r ≡ after_byte most s (get_or bytes i 0) → ms ≡ kept r ns → kept_over most r (drop (i + 1) bytes) ms ≡ u
  unfolding kept_over
  kept_more r ns ms u h e p m = rw (m, add-one) (rw (drop-cons bytes i 0 h, ← p) at e)

  pub kept_stop : (ns u : List ℕ) → i < length bytes → kept_over most s (drop i bytes) ns ≡ u → None ≡ after_byte most s (get_or bytes i 0) → ns ≡ u
  unfolding kept_over
  kept_stop ns u h e p = rw (drop-cons bytes i 0 h, ← p) at e

  pub kept-done : (ns u : List ℕ) → length bytes ≤ i → kept_over most s (drop i bytes) ns ≡ u → ns ≡ u
  unfolding kept_over
  kept-done ns u h e = rw (drop_of_length-le bytes h) at e
