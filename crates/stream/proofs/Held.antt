-- The bytes that are held of a line: as many as have room.
use Prim.Native.Nat.{ℕ, ◌+◌, ◌-◌, ◌≤◌, ◌<◌, min}
use mathlib.Core.Path.{◌≡◌, refl, sym, ap, ◌∙◌}
use mathlib.Core.Bool.{true, false}
use mathlib.Core.List.{List, ◌++◌}
use native.Mathlib.Omega.{arith}
use borrow.Author.Tests.{lt-ltb, le-ltb}
use lib.ListN.{length, take, length-take}
use lib.Seq.{paste, take-append-add, length_paste_head}
use Rattle.lists.proofs.Lists.{take_min}
use Rattle.stream.specs.declared.Stream.{Stream}
use Rattle.stream.specs.declared.Step.{Step}
use Rattle.lists.specs.Lists.{in_front, length_before}
use Rattle.stream.specs.Stream.{at_line, with_bytes, kept_after, next_line}

module _ (kept bytes : List ℕ) (held from n : ℕ) (front : from ≡ min held (length kept)) (room : n ≡ min (length kept - from) (length bytes)) where
  held_is : with_bytes kept held bytes ≡ take from kept ++ take n bytes
  held_is =
      let f : length (take from kept) ≡ from = length-take from kept ∙ omega arith in
      let l : length kept ≡ length (take from kept) + (length kept - from) = omega arith in
      ap (λ (xs : List ℕ). take (length kept) (xs ++ bytes)) (sym (take_min held from kept front))
      ∙ ap (λ (k : ℕ). take k (take from kept ++ bytes)) l
      ∙ take-append-add (take from kept) bytes (length kept - from)
      ∙ ap (λ (ys : List ℕ). take from kept ++ ys) (sym (take_min (length kept - from) n bytes room))

  pub count_held : from + n ≡ length (with_bytes kept held bytes)
  count_held = rw held_is (sym (length_paste_head kept from bytes n (omega arith) (omega arith)))

  pub kept_held : (k : List ℕ) → k ≡ paste kept from bytes n → k ≡ in_front (with_bytes kept held bytes) kept
  kept_held k e = rw (held_is, length_paste_head kept from bytes n (omega arith) (omega arith)) e

-- ---- a call, from its parts

module _ (s line : Stream) (kept bytes : List ℕ) (n held : ℕ) (e : line ≡ at_line s) (f : n ≡ length_before 10 bytes) (g : held ≡ length (with_bytes kept line.held (take n bytes))) where
  pub line_ended : n < length bytes
      → ◌≡◌ {A = Step} (record { used = n + 1; stream = record { number = line.number; held = held; ended = true } }) (next_line s kept bytes)
  unfolding next_line
  line_ended h = rw (← e, ← f, ← g, lt-ltb n (length bytes) h) refl

  pub line_open : length bytes ≤ n
      → ◌≡◌ {A = Step} (record { used = n; stream = record { number = line.number; held = held; ended = false } }) (next_line s kept bytes)
  unfolding next_line
  line_open h = rw (← e, ← f, ← g, le-ltb n (length bytes) h) refl

  pub line_kept : (k : List ℕ) → k ≡ in_front (with_bytes kept line.held (take n bytes)) kept → k ≡ kept_after s kept bytes
  line_kept k h = rw (← e, ← f) h
