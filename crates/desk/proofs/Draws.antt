-- How many numbers a draw has at most.
use Prim.Native.Nat.{◌+◌, ◌*◌, ◌≤◌}
use mathlib.Core.Path.{◌≡◌, refl}
use mathlib.Core.Bool.{Bool, true, false, cond}
use native.Mathlib.Omega.{arith}
use lib.Dec.{eqb}
use Rattle.settings.specs.declared.Shape.{Shape}
use Rattle.settings.specs.Settings.{params_of}
use Rattle.settings.specs.Questions.{shape_ok}
use Rattle.settings.specs.Sizes.{width, shared, draw_length, draw_size}
use Rattle.settings.proofs.Sizes.{shared-most}
use Rattle.settings.proofs.Ready.{ok_ready}
use Rattle.desk.specs.Desk.{most_draw}

-- a book fits a column, and 18 numbers are drawn for each of eight coefficients at most
pub draw-most : (a : Shape) → draw_size a ≤ most_draw
unfolding draw_size draw_length
draw-most a = go (shape_ok a) refl
  where
    by : (t : Bool) → shared (params_of a) ≤ 1320 → a.n ≤ 8 → shared (params_of a) * width + (17 * a.n + cond t a.n 1) ≤ most_draw
    by true s n = omega arith
    by false s n = omega arith

    go : (t : Bool) → shape_ok a ≡ t → cond t (draw_length (params_of a) width) 0 ≤ most_draw
    go true e = let ready = ok_ready a e in by (eqb a.kind 0) (shared-most a ready.sets ready.most) ready.most
    go false e = omega arith
