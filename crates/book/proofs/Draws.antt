-- The draw's cursor: where the numbers of a place begin, and how far the draw goes.
use mathlib.Core.Path.{◌≡◌}
use mathlib.Core.List.{List, [], ◌∷◌}
use Prim.Native.Nat.{ℕ, zero, suc, ◌+◌, ◌≤◌, ◌<◌}
use native.Mathlib.Nat.{mul-le-mul_right}
use native.Mathlib.Omega.{arith}
use lib.ListN.{length, get_or, take}
use lib.Seq.{take-length}
use Rattle.lists.specs.Answers.{bit}
use Rattle.settings.specs.Settings.{Params}
use Rattle.settings.specs.Sizes.{shared, draw_length}
use Rattle.book.specs.Book.{Entry, plan, entry_of, is_drawn, drawn_in, draw_at}
use Rattle.book.specs.Book.Entry.{mask}
use Rattle.book.specs.Theorems.{Cursor}
use Rattle.book.proofs.Places.{plan_length}
use Rattle.book.proofs.Sizes.{drawn_is}

drawn_in-more : (es : List Entry) (k : ℕ) → k < length es → drawn_in (take (suc k) es) ≡ drawn_in (take k es) + bit (is_drawn (get_or es k (mask 0)))
unfolding drawn_in
drawn_in-more [] k h = absurd (omega arith)
drawn_in-more (e ∷ es) zero h = omega arith
drawn_in-more (e ∷ es) (suc k) h = omega (arith, drawn_in-more es k (omega arith))

drawn_in-take : (es : List Entry) (k : ℕ) → drawn_in (take k es) ≤ drawn_in es
unfolding drawn_in
drawn_in-take es zero = omega arith
drawn_in-take [] (suc k) = omega arith
drawn_in-take (e ∷ es) (suc k) = omega (arith, drawn_in-take es k)

module _ (p : Params) (width : ℕ) where
  pub draw_at-none : draw_at p width 0 ≡ 0
  unfolding draw_at drawn_in
  draw_at-none = omega arith

  pub draw_at-more : (k : ℕ) → k < shared p → draw_at p width (suc k) ≡ draw_at p width k + bit (is_drawn (entry_of p k)) + width
  unfolding draw_at
  draw_at-more k h = omega (arith, drawn_in-more (plan p) k (rw (plan_length p) h))

  -- the numbers of a place lie within the draw
  pub draw_at-inside : (k : ℕ) → k < shared p → draw_at p width k + bit (is_drawn (entry_of p k)) + width ≤ draw_length p width
  unfolding draw_at draw_length
  draw_at-inside k h = omega (arith, drawn_is p, drawn_in-more (plan p) k (rw (plan_length p) h), drawn_in-take (plan p) (suc k), mul-le-mul_right width h)

  pub draw_at-end : draw_at p width (shared p) ≡ draw_length p width
  unfolding draw_at draw_length
  draw_at-end = rw (← plan_length p, take-length (plan p), ← drawn_is p)

  pub cursor : Cursor p width
  cursor = record { none = draw_at-none; more = draw_at-more; inside = draw_at-inside; end = draw_at-end }
