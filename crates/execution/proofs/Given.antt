-- Books in place of a draw: the test, the two books, the run; and a draw of the asked length is never taken for books.
use Prim.Native.Nat.{ℕ, ◌+◌, ◌*◌, ◌-◌, ◌≤◌, min}
use mathlib.Core.Path.{◌≡◌, refl, sym, ap, ◌∙◌}
use mathlib.Core.Logic.{◌≢◌}
use mathlib.Core.Bool.{Bool, true, false, cond, ◌&&◌}
use mathlib.Core.List.{List}
use native.Mathlib.Nat.{mul-le-mul}
use native.Mathlib.Omega.{arith}
use lib.Dec.{eqb}
use lib.ListN.{length, take, drop, length-drop}
use lib.Seq.{take_all, drop-drop}
use borrow.Author.Tests.{eq-eqb, ne_eqb, eqb-true}
use borrow.Rule.Slice.PartMut.{mid_of}
use Rattle.lists.proofs.Questions.{both_yes, no_left}
use Rattle.settings.specs.declared.Shape.{Shape}
use Rattle.settings.specs.Settings.{Params, params_of}
use Rattle.settings.specs.Questions.{ask_shape, shape_ok}
use Rattle.settings.specs.Sizes.{width, stride, shared, groups, draw_length, book_size, draw_size, input_size}
use Rattle.settings.proofs.Ready.{shape_ok_lem, ok_ready}
use Rattle.execution.specs.declared.RunTerms.{RunTerms}
use Rattle.execution.specs.declared.Execution.{Execution}
use Rattle.execution.specs.Execution.{Refused, draw_in, books_given, server_given, phone_given, dealt_run, given_run, executed}
use Rattle.execution.specs.declared.WorkSpace.{WorkSpace}
use Rattle.std.specs.Prelude.{Option, Result, Ok, Err}
use Rattle.std.specs.Result.{is_err}
use Rattle.settings.specs.declared.Refusal.{Refusal}
use Rattle.settings.specs.Refusals.{refused}
use Rattle.settings.proofs.Refused.{number_nonzero}
use Rattle.execution.specs.Held.{run_bytes, before_begin, Plays, EndsAs}
use Rattle.execution.specs.Theorems.{DrawIsDealt}
use Rattle.execution.proofs.Whole.{draw-drop, run_ends}

-- ---- The test

pub refused_some : {A : Type 0} (r : Result A Refusal) → is_err r ≡ true → refused r ≢ 0
refused_some (Ok x) e = cc
refused_some (Err n) e = number_nonzero n

pub refused_none : {A : Type 0} (r : Result A Refusal) → is_err r ≡ false → refused r ≡ 0
refused_none (Ok x) e = refl
refused_none (Err n) e = cc

module _ (a : Shape) (numbers : List ℕ) where
  -- no books for a shape that is refused
  pub none-given : (r : ℕ) → r ≡ ask_shape a 0 → r ≢ 0 → false ≡ books_given a numbers
  unfolding books_given
  none-given r e h = no_left (shape_ok a) _ (sym (shape_ok_lem a) ∙ ne_eqb (ask_shape a 0) 0 (λ z. h (e ∙ z)))

  pub lengths_tell : (r left size : ℕ) → r ≡ ask_shape a 0 → r ≡ 0 → left ≡ length (draw_in a numbers) → size ≡ book_size a
      → eqb left (2 * size) ≡ books_given a numbers
  unfolding books_given
  lengths_tell r left size e z f g =
      let yes : shape_ok a ≡ true = sym (shape_ok_lem a) ∙ eq-eqb (ask_shape a 0) 0 (sym e ∙ z) in
      rw (f, g, yes)

  pub as_many : books_given a numbers ≡ true → length (draw_in a numbers) ≡ 2 * book_size a
  unfolding books_given
  as_many e = eqb-true _ _ (both_yes (shape_ok a) (eqb (length (draw_in a numbers)) (2 * book_size a)) e).1

-- ---- The two books, where the numbers behind the inputs begin at `from`

module _ (a : Shape) (numbers : List ℕ) (phone from : ℕ) (e : phone ≡ min (input_size a) (length numbers))
    (f : from ≡ phone + min (input_size a) (length numbers - phone)) where
  pub left_long : length numbers - from ≡ length (draw_in a numbers)
  left_long = sym (length-drop from numbers) ∙ ap length (draw-drop a numbers phone from e f)

  -- two books are all that is left
  pub both_fill : length (draw_in a numbers) ≡ 2 * book_size a → from ≤ length numbers → from + 2 * book_size a ≡ length numbers
  both_fill h l = omega (arith, h, l, left_long)

  module _ (second : ℕ) (g : second ≡ from + book_size a) where
    pub server_half : mid_of from (second - from) numbers ≡ take (book_size a) (draw_in a numbers)
    server_half =
        let size : second - from ≡ book_size a = omega (arith, g) in
        rw (size, draw-drop a numbers phone from e f)

    pub phone_half : mid_of second (length numbers - second) numbers ≡ drop (book_size a) (draw_in a numbers)
    phone_half =
        take_all (length numbers - second) (drop second numbers) (omega (arith, length-drop second numbers))
        ∙ ap (λ (n : ℕ). drop n numbers) g
        ∙ sym (drop-drop (book_size a) from numbers)
        ∙ ap (drop (book_size a)) (draw-drop a numbers phone from e f)

-- ---- The run

pub given-run : (t : RunTerms) (numbers : List ℕ) (w : WorkSpace) (refused : Option Refused) (x : Execution) (u : WorkSpace)
    → run_bytes ≤ length w.messages → Plays t numbers (server_given t numbers).book (phone_given t numbers).book before_begin w refused x u
    → EndsAs (given_run t numbers w.server w.phone) refused x w.messages u.messages
given-run t numbers w refused x u room p =
    run_ends t numbers _ _ w refused x u (server_given t numbers) (phone_given t numbers) room p refl refl refl refl refl refl

module _ (t : RunTerms) (numbers work0 work1 : List ℕ) where
  pub runs-given : books_given t.settings.shape numbers ≡ true → executed t numbers work0 work1 ≡ given_run t numbers work0 work1
  unfolding executed
  runs-given e = rw e

  pub runs-dealt : books_given t.settings.shape numbers ≡ false → executed t numbers work0 work1 ≡ dealt_run t numbers work0 work1
  unfolding executed
  runs-dealt e = rw e

-- ---- A draw has fewer numbers than two books

shared-least : (p : Params) → p.n * 25 ≤ shared p
unfolding shared stride
shared-least p =
    let least : 25 ≤ stride p = omega arith in
    let some : p.n ≤ p.n = omega arith in
    omega (arith, mul-le-mul some least)

groups-most : (p : Params) → 1 ≤ p.n → groups p ≤ p.n
groups-most p h = by (eqb p.kind 0)
  where
    by : (b : Bool) → cond b p.n 1 ≤ p.n
    by true = omega arith
    by false = omega arith

draw_shorter : (p : Params) → 1 ≤ p.n → draw_length p width ≢ 2 * (shared p * width)
unfolding draw_length
draw_shorter p h e = absurd (omega (arith, e, shared-least p, groups-most p h))

not-books : (a : Shape) (numbers : List ℕ) → length (draw_in a numbers) ≡ draw_size a → books_given a numbers ≡ false
unfolding books_given draw_size book_size
not-books a numbers e = by (shape_ok a) refl e
  where
    by : (b : Bool) → shape_ok a ≡ b → length (draw_in a numbers) ≡ cond b (draw_length (params_of a) width) 0
        → (b && eqb (length (draw_in a numbers)) (2 * cond b (shared (params_of a) * width) 0)) ≡ false
    by true y f = ne_eqb _ _ (λ z. draw_shorter (params_of a) (ok_ready a y).some (sym f ∙ z))
    by false y f = refl

pub draw_is_dealt : DrawIsDealt
draw_is_dealt t numbers work0 work1 e = runs-dealt t numbers work0 work1 (not-books t.settings.shape numbers e)
