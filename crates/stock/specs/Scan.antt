-- What a scan of books finds.
use Rattle.std.specs.Prelude.{cond, List, [], ◌∷◌, ℕ, leb, Option, Some, None}
use Rattle.stock.specs.Stock.{serial_of}

-- of what was found and one book more: that one where it is above the last and less than what was found
abbrev pub better : ℕ → Option (List ℕ) → List ℕ → Option (List ℕ)
better last None book = cond (leb (serial_of book) last) None (Some book)
better last (Some least) book = cond (leb (serial_of book) last) (Some least) (cond (leb (serial_of least) (serial_of book)) (Some least) (Some book))

-- of what was found and more books, one after the other
unfoldable pub scanned : ℕ → List (List ℕ) → Option (List ℕ) → Option (List ℕ)
scanned last [] found = found
scanned last (book ∷ books) found = scanned last books (better last found book)
