-- The outputs of a draw stand in the order of the book.
use mathlib.Core.Path.{◌≡◌}
use mathlib.Core.Bool.{true}
use Prim.Native.Nat.{ℕ, suc, ◌+◌, ◌%◌, ◌<◌}
use native.Mathlib.Omega.{arith}
use Rattle.lists.specs.Answers.{bit}
use Rattle.field.specs.Field.{q}
use Rattle.settings.specs.Settings.{Params}
use Rattle.settings.specs.Sizes.{shared, draw_length}
use Rattle.book.specs.Book.{entry_of, is_drawn, draw_at, drawn, phone_number}
use Rattle.book.proofs.Draws.{draw_at-inside}
use Rattle.generator.specs.Step.{stepped, outputs}
use Rattle.generator.specs.Theorems.{Order}
use Rattle.generator.proofs.Steps.{outputs_at}

module _ (p : Params) (width state : ℕ) where
  pub drawn_is : (e : ℕ) → e < shared p → is_drawn (entry_of p e) ≡ true
      → drawn p width (outputs q state (draw_length p width)) e ≡ stepped (suc (draw_at p width e)) state % q
  unfolding drawn bit
  drawn_is e h d = outputs_at q state (draw_length p width) (draw_at p width e) (omega (arith, rw d at (draw_at-inside p width e h)))

  pub phone_is : (e c : ℕ) → e < shared p → c < width
      → phone_number p width (outputs q state (draw_length p width)) e c ≡ stepped (suc (draw_at p width e + bit (is_drawn (entry_of p e)) + c)) state % q
  unfolding phone_number
  phone_is e c h l = outputs_at q state (draw_length p width) (draw_at p width e + bit (is_drawn (entry_of p e)) + c) (omega (arith, draw_at-inside p width e h))

  pub order : Order p width state
  order = record { drawn_is = drawn_is; phone_is = phone_is }
