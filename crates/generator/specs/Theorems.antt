-- What is proved of the generator, as types.
use Rattle.std.specs.Prelude.{ℕ, suc, ◌+◌, ◌%◌, ◌^◌, ◌<◌, ◌≡◌, true, length, get_or, replicate}
use Rattle.lists.specs.Answers.{bit}
use Rattle.lists.specs.Lists.{all_below}
use Rattle.field.specs.Field.{q}
use Rattle.settings.specs.Settings.{Params}
use Rattle.settings.specs.Sizes.{shared, draw_length}
use Rattle.book.specs.Book.{entry_of, is_drawn, draw_at, drawn, phone_number}
use Rattle.generator.specs.Step.{step, stepped, outputs}

-- "in the order of the book, each number followed by the phone's nine numbers for it. A derived c draws only the phone's nine, and a
-- vector's entries do likewise" (02 as amended), `width` for nine: place e has its numbers from output `draw_at` on, first its drawn number if
-- it has one
module _ (p : Params) (width state : ℕ) where
  pub record Order : Type 0 where
    pub drawn_is : (e : ℕ) → e < shared p → is_drawn (entry_of p e) ≡ true
        → drawn p width (outputs q state (draw_length p width)) e ≡ stepped (suc (draw_at p width e)) state % q
    pub phone_is : (e c : ℕ) → e < shared p → c < width
        → phone_number p width (outputs q state (draw_length p width)) e c
        ≡ stepped (suc (draw_at p width e + bit (is_drawn (entry_of p e)) + c)) state % q

pub record Laws : Type 0 where
  -- "From seed 1 the first output is 270,369"
  pub first_output : step 1 ≡ 270369
  -- the state keeps to 32 bits, and a non-zero seed never leads to 0
  pub inside : (seed n : ℕ) → seed < 2 ^ 32 → stepped n seed < 2 ^ 32
  pub never_zero : (seed n : ℕ) → seed < 2 ^ 32 → 0 < seed → 0 < stepped n seed
  -- steps add up: where one draw ends the next begins
  pub stepped_add : (m n state : ℕ) → stepped (m + n) state ≡ stepped n (stepped m state)
  -- a draw has its numbers, each below q
  pub outputs_length : (m state n : ℕ) → length (outputs m state n) ≡ n
  pub outputs_at : (m state n i : ℕ) → i < n → get_or (outputs m state n) i 0 ≡ stepped (suc i) state % m
  pub outputs_below : (state n : ℕ) → all_below q (outputs q state n) ≡ true
  -- which output each number of a draw is, for every scale, kind, count and number of keys
  pub order : (p : Params) (width state : ℕ) → Order p width state
  -- state 0, which no seed gives, is the all-zero draw
  pub stepped_zero : (n : ℕ) → stepped n 0 ≡ 0
  pub outputs_zero : (n : ℕ) → outputs q 0 n ≡ replicate n 0
