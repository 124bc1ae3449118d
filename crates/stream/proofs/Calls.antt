-- The calls of a part: any number that is enough, and one call and then the others.
use Prim.Native.Nat.{ℕ, zero, suc, ◌≤◌, ◌<◌}
use mathlib.Core.Path.{◌≡◌, refl, sym, ◌∙◌}
use mathlib.Core.List.{List, [], ◌∷◌, ◌++◌}
use native.Mathlib.Omega.{arith}
use native.Mathlib.Decide.{dec_lt}
use borrow.Author.Tests.{lt-ltb, le-ltb, ne_eqb}
use lib.ListN.{length, take, drop, length-take, length-drop}
use Rattle.lists.specs.Lists.{length_before}
use Rattle.lists.proofs.Bytes.{length_before_most}
use Rattle.stream.specs.Stream.{held_after, held_of, at_line, next_line}
use Rattle.stream.specs.declared.Stream.{Stream}
use Rattle.stream.specs.Theorems.{Handler, State, after_call, after_calls}

module _ (s : Stream) (kept bytes : List ℕ) where
  -- a call uses one byte at least, and no more than there are
  pub some_used : 0 < length bytes → 0 < (next_line s kept bytes).used
  unfolding next_line
  some_used h = go (dec_lt (length_before 10 bytes) (length bytes))
    where
      go : Dec (length_before 10 bytes < length bytes) → 0 < (next_line s kept bytes).used
      go (yes l) = rw (lt-ltb (length_before 10 bytes) (length bytes) l) (omega arith)
      go (no l) = rw (le-ltb (length_before 10 bytes) (length bytes) (omega arith)) (omega arith)

  pub used_fits : (next_line s kept bytes).used ≤ length bytes
  unfolding next_line
  used_fits = go (dec_lt (length_before 10 bytes) (length bytes))
    where
      go : Dec (length_before 10 bytes < length bytes) → (next_line s kept bytes).used ≤ length bytes
      go (yes l) = rw (lt-ltb (length_before 10 bytes) (length bytes) l) (omega arith)
      go (no l) = rw (le-ltb (length_before 10 bytes) (length bytes) (omega arith)) (length_before_most 10 bytes)

  -- no more bytes are held than have room
  pub held_fits : (next_line s kept bytes).stream.held ≤ length kept
  unfolding next_line
  held_fits = go (dec_lt (length_before 10 bytes) (length bytes)) (omega (arith, length-take (length kept) (held_of (at_line s) kept ++ take (length_before 10 bytes) bytes)))
    where
      go : Dec (length_before 10 bytes < length bytes) → length (held_after s kept bytes) ≤ length kept → (next_line s kept bytes).stream.held ≤ length kept
      go (yes l) h = rw (lt-ltb (length_before 10 bytes) (length bytes) l) h
      go (no l) h = rw (le-ltb (length_before 10 bytes) (length bytes) (omega arith)) h

module _ {C : Type 0} (handler : Handler C) where
  pub no_calls : (fuel : ℕ) (a : State C) → after_calls handler fuel a [] ≡ a
  unfolding after_calls
  no_calls zero a = refl
  no_calls (suc fuel) a = refl

  -- the first call
  calls_first : (fuel : ℕ) (a : State C) (bytes : List ℕ) → 0 < length bytes
      → after_calls handler (suc fuel) a bytes ≡ after_calls handler fuel (after_call handler a bytes) (drop (next_line a.stream a.kept bytes).used bytes)
  unfolding after_calls
  calls_first fuel a bytes h = rw (ne_eqb (length bytes) 0 (λ e. omega arith)) refl

  -- so many calls and so many others do the same where both are enough
  abbrev Same : ℕ → ℕ → Type 0
  Same f g = (a : State C) (bytes : List ℕ) → length bytes ≤ f → length bytes ≤ g → after_calls handler f a bytes ≡ after_calls handler g a bytes

  same_more : (f g : ℕ) → Same f g → Same (suc f) (suc g)
  same_more f g more a [] l m = no_calls (suc f) a ∙ sym (no_calls (suc g) a)
  same_more f g more a (b ∷ bytes) l m =
      let u : 0 < (next_line a.stream a.kept (b ∷ bytes)).used = some_used a.stream a.kept (b ∷ bytes) (omega arith) in
      let d = length-drop (next_line a.stream a.kept (b ∷ bytes)).used (b ∷ bytes) in
      calls_first f a (b ∷ bytes) (omega arith)
      ∙ more (after_call handler a (b ∷ bytes)) (drop (next_line a.stream a.kept (b ∷ bytes)).used (b ∷ bytes)) (omega arith) (omega arith)
      ∙ sym (calls_first g a (b ∷ bytes) (omega arith))

  none-same : (f g : ℕ) (a : State C) (bytes : List ℕ) → length bytes ≡ 0 → after_calls handler f a bytes ≡ after_calls handler g a bytes
  none-same f g a [] e = no_calls f a ∙ sym (no_calls g a)
  none-same f g a (b ∷ bytes) e = absurd (omega arith)

  enough : (f g : ℕ) → Same f g
  enough zero g a bytes l m = none-same zero g a bytes (omega arith)
  enough (suc f) zero a bytes l m = none-same (suc f) zero a bytes (omega arith)
  enough (suc f) (suc g) a bytes l m = same_more f g (enough f g) a bytes l m

  -- all calls of a part are the first, and then all of what it left
  pub calls-more : (a : State C) (bytes : List ℕ) → 0 < length bytes
      → let left = drop (next_line a.stream a.kept bytes).used bytes in
      after_calls handler (length left) (after_call handler a bytes) left ≡ after_calls handler (length bytes) a bytes
  calls-more a [] h = absurd (omega arith)
  calls-more a (b ∷ bytes) h =
      let u : 0 < (next_line a.stream a.kept (b ∷ bytes)).used = some_used a.stream a.kept (b ∷ bytes) h in
      let d = length-drop (next_line a.stream a.kept (b ∷ bytes)).used (b ∷ bytes) in
      enough _ (length bytes) (after_call handler a (b ∷ bytes)) (drop (next_line a.stream a.kept (b ∷ bytes)).used (b ∷ bytes)) (omega arith) (omega arith)
      ∙ sym (calls_first (length bytes) a (b ∷ bytes) h)
