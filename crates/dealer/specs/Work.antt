-- What the dealer's working functions are told and find: the numbers of the places of a book, column by column.
use Rattle.std.specs.Prelude.{◌≡◌, true, false, List, ℕ, ◌+◌, ◌*◌, ◌/◌, ◌%◌, ◌≤◌, ◌<◌, eqb, length}
use Rattle.lists.specs.Answers.{bit}
use Rattle.lists.specs.Lists.{fill, all_below}
use Rattle.field.specs.Field.{q}
use Rattle.settings.specs.declared.Shape.{Shape}
use Rattle.settings.specs.Settings.{Params, params_of}
use Rattle.settings.specs.Questions.{ShapeReady}
use Rattle.settings.specs.Sizes.{width, shared, draw_length}
use Rattle.book.specs.Book.{Entry, entry_of, is_drawn, draw_at, book_value, phone_number}
use Rattle.book.specs.Books.{server_number}

-- the book with the numbers of `count` places from place e on, x ↦ f x being the numbers of the whole book
unfoldable pub dealt_into : List ℕ → (ℕ → ℕ) → ℕ → ℕ → List ℕ
dealt_into book f e count = fill book (width * e) (width * count) (λ (x : ℕ). f (width * e + x))

-- what the questions have told of the draw and both lent books
pub record Lent (shape : Shape) (draw server phone : List ℕ) : Type 0 where
  pub ready : ShapeReady shape
  pub draw_size : length draw ≡ draw_length (params_of shape) width
  pub server_size : length server ≡ shared (params_of shape) * width
  pub phone_size : length phone ≡ shared (params_of shape) * width
  pub below : all_below q draw ≡ true

-- what a deal is told: the settings, what each column's numbers add up to, as a factor, and the draw
pub record DealContext : Type 0 where
  pub shape : Shape
  pub factors : List ℕ
  pub draw : List ℕ

module _ (context : DealContext) where
  abbrev pub params_for : Params
  params_for = params_of context.shape

  abbrev pub shared_for : ℕ
  shared_for = shared params_for

  abbrev pub entry_for : ℕ → Entry
  entry_for e = entry_of params_for e

  abbrev pub cursor_for : ℕ → ℕ
  cursor_for e = draw_at params_for width e

  abbrev pub value_for : ℕ → ℕ
  value_for e = book_value params_for width context.draw e

  -- number x of a side's book
  unfoldable pub server_for : ℕ → ℕ
  server_for x = server_number params_for width context.factors context.draw (x / width) (x % width)

  unfoldable pub phone_for : ℕ → ℕ
  phone_for x = phone_number params_for width context.draw (x / width) (x % width)

  -- place e is next: its own numbers begin at `at`, and its joined value is v
  pub record Next (e at v : ℕ) : Type 0 where
    pub inside : e < shared_for
    pub begins : at ≡ cursor_for e + bit (is_drawn (entry_for e))
    pub is : v ≡ value_for e

  -- a drawn number stands at place e
  pub record Draws (e : ℕ) : Type 0 where
    pub inside : e < shared_for
    pub draws : is_drawn (entry_for e) ≡ true

  -- the vector of the number d stands at the places from e on
  pub record Vector (e size d : ℕ) : Type 0 where
    pub inside : e + size ≤ shared_for
    pub draws : (x : ℕ) → x < size → is_drawn (entry_for (e + x)) ≡ false
    pub is : (x : ℕ) → x < size → bit (eqb x d) ≡ value_for (e + x)
