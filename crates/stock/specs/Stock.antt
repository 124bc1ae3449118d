-- Choose, over two stocks.
use Rattle.std.specs.Prelude.{ℕ, ◌+◌, ◌*◌, ◌/◌, ◌%◌, Bool, false, cond, not, ◌&&◌, ◌||◌, List, [], ◌∷◌, ◌++◌, eqb, leb, ltb, length, get_or, take, drop}
use Rattle.lists.specs.Answers.{ask}
use Rattle.lists.specs.Lists.{every, list_to}
use Rattle.settings.specs.declared.Shape.{Shape}
use Rattle.settings.specs.Settings.{params_of}
use Rattle.settings.specs.Sizes.{width_of, shared}
use Rattle.settings.specs.Questions.{ask_shape}

-- "A stock is books one after another, each its serial and then its numbers", k keys a side
abbrev pub stocked_size : ℕ → Shape → ℕ
stocked_size k a = 1 + shared (params_of a) * width_of k

abbrev pub books_of : ℕ → List ℕ → List (List ℕ)
books_of size stock = list_to (length stock / size) (λ (b : ℕ). take size (drop (b * size) stock))

abbrev pub serial_of : List ℕ → ℕ
serial_of book = get_or book 0 0

abbrev pub is_above : ℕ → List ℕ → Bool
is_above last book = ltb last (serial_of book)

-- "equal serials, first stock, then earlier place": the books in the order in which equal serials are taken
abbrev pub in_tie_order : List (List ℕ) → List (List ℕ) → List (List ℕ)
in_tie_order first second = first ++ second

abbrev pub both_stocks : ℕ → List ℕ → List ℕ → List (List ℕ)
both_stocks size first second = in_tie_order (books_of size first) (books_of size second)

-- "least serial above the last": the book is above the last, and no less than it is any other book above the last
abbrev pub is_least : ℕ → List (List ℕ) → List ℕ → Bool
is_least last books book =
    is_above last book && every (λ (other : List ℕ). not (is_above last other) || leb (serial_of book) (serial_of other)) books

-- the first book to which f says yes, or the empty part
unfoldable pub first_of : (List ℕ → Bool) → List (List ℕ) → List ℕ
first_of f [] = []
first_of f (book ∷ books) = cond (f book) book (first_of f books)

-- does f say yes to a book?
unfoldable pub some_of : (List ℕ → Bool) → List (List ℕ) → Bool
some_of f [] = false
some_of f (book ∷ books) = f book || some_of f books

unfoldable pub best_of : ℕ → ℕ → List ℕ → List ℕ → List ℕ
best_of last size first second = first_of (is_least last (both_stocks size first second)) (both_stocks size first second)

-- questions 1, 2 and 5 ("a stock is whole books, perhaps none"), and then the rest
unfoldable pub ask_stocks : ℕ → Shape → List ℕ → List ℕ → ℕ → ℕ
ask_stocks k a first second rest =
    let size = stocked_size k a in
    ask_shape a
    (ask (eqb (length first % size) 0 && eqb (length second % size) 0) 5
    rest)

-- "Choose: 1, 2, 5, 14"; "14. Has either stock a serial above the last?"
unfoldable pub choose_no : ℕ → Shape → List ℕ → List ℕ → ℕ → ℕ
choose_no k a first second last =
    ask_stocks k a first second
    (ask (some_of (is_above last) (both_stocks (stocked_size k a) first second)) 14
    0)

-- "The part starts at the book's serial"; "under any no the part is empty"
unfoldable pub chosen : ℕ → Shape → List ℕ → List ℕ → ℕ → List ℕ
chosen k a first second last =
    cond (eqb (choose_no k a first second last) 0)
    (best_of last (stocked_size k a) first second)
    []
