-- Where an input stands: the line to be read, and whether a last line is left.
use Prim.Native.Nat.{ℕ}
use mathlib.Core.Path.{◌≡◌, refl, sym, ◌∙◌}
use mathlib.Core.Bool.{Bool, true, false, true≢false}
use lib.Dec.{ltb}
use Rattle.stream.specs.declared.Stream.{Stream}
use Rattle.stream.specs.Stream.{number_after, at_line, is_left}

pub next_line : (s : Stream) (n : ℕ) → s.ended ≡ true → n ≡ number_after s.number → at_line s ≡ record { number = n; held = 0; ended = false }
unfolding at_line
next_line s n e f = rw (e, f) refl

pub same_line : (s : Stream) → s.ended ≡ false → at_line s ≡ s
unfolding at_line
same_line s e = rw e refl

pub left-none : (s : Stream) → s.ended ≡ true → is_left s ≡ false
unfolding is_left
left-none s e = rw e refl

pub left_is : (s : Stream) (t : Bool) → s.ended ≡ false → ltb 0 s.held ≡ t → is_left s ≡ t
unfolding is_left
left_is s t e h = rw (e, h) refl

-- a line that is left is the one that is being read
pub left_line : (s : Stream) → is_left s ≡ true → at_line s ≡ s
left_line s h = go s.ended refl
  where
    go : (t : Bool) → s.ended ≡ t → at_line s ≡ s
    go true e = absurd (true≢false (sym h ∙ left-none s e))
    go false e = same_line s e
