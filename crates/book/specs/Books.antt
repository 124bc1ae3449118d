-- Both sides' books, from a draw.
use Rattle.std.specs.Prelude.{ℕ, ◌*◌, ◌/◌, ◌%◌, List, ◌∷◌, ◌++◌, get_or}
use Rattle.lists.specs.Lists.{list_to}
use Rattle.field.specs.Field.{sub}
use Rattle.settings.specs.Settings.{Params}
use Rattle.settings.specs.Sizes.{shared}
use Rattle.book.specs.Book.{phone_number, book_value}

-- "the share, four parts under key group 0, four under group 1" (02), a part being a share of key × number: what each column of a shared
-- number adds up to, as a factor
abbrev pub multipliers : List ℕ → List ℕ → List ℕ
multipliers keys0 keys1 = 1 ∷ keys0 ++ keys1

-- a side's numbers, "wherever they are stored they keep this order": place by place, column by column
abbrev pub in_order : ℕ → ℕ → (ℕ → ℕ → ℕ) → List ℕ
in_order count width f = list_to (count * width) (λ (x : ℕ). f (x / width) (x % width))

unfoldable pub phone_book : Params → ℕ → List ℕ → List ℕ
phone_book p width draw = in_order (shared p) width (phone_number p width draw)

-- "the server's are the difference": in column c of place e
unfoldable pub server_number : Params → ℕ → List ℕ → List ℕ → ℕ → ℕ → ℕ
server_number p width factors draw e c = sub p.scale.modulus (get_or factors c 0 * book_value p width draw e) (phone_number p width draw e c)

unfoldable pub server_book : Params → ℕ → List ℕ → List ℕ → List ℕ
server_book p width factors draw = in_order (shared p) width (server_number p width factors draw)
