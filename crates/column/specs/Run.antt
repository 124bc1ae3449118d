-- The plain run: the steps at weight 1, on one column that holds the plain values.
use Rattle.std.specs.Prelude.{ℕ, zero, suc, List, [], ◌∷◌, get_or}
use Rattle.lists.specs.Lists.{list_to}
use Rattle.settings.specs.Settings.{Terms}
use Rattle.settings.specs.Sizes.{openings, shared}
use Rattle.book.specs.Book.{book_value}
use Rattle.slice.specs.Layout.{column, masked_in, begun_work}
use Rattle.steps.specs.Steps.{public_of}
use Rattle.steps.specs.Work.{opening_on, taken_work}

-- width: of the draw that the book's values are taken from
module _ (T : Terms) (width : ℕ) (draw secret : List ℕ) where
  -- the book's values, in book order
  unfoldable pub plain_book : List ℕ
  plain_book = list_to (shared T.params) (book_value T.params width draw)

  -- the plain column at the start
  unfoldable pub plain_start : List ℕ
  plain_start = begun_work T.params 1 secret plain_book

  -- the opened numbers of a round, from the plain column before it
  unfoldable pub opened_from : ℕ → List ℕ → List ℕ
  opened_from round work =
      list_to (openings T.params round) (opening_on (public_of T (masked_in work)) round 1 (column work 0))

  -- the plain column after a number of rounds
  unfoldable pub plain_after : ℕ → List ℕ
  plain_after zero = plain_start
  plain_after (suc rounds) =
      let work = plain_after rounds in
      let numbers = opened_from (suc rounds) work in
      taken_work T (suc rounds) (λ (o : ℕ). get_or numbers o 0) (1 ∷ []) work

  -- the opened numbers of the round that follows a number of rounds
  unfoldable pub plain_opened : ℕ → List ℕ
  plain_opened rounds = opened_from (suc rounds) (plain_after rounds)
