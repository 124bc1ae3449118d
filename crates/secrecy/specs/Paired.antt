-- The pairing of draws (DrawsPair), as a definition: each mask moves by the change of the opened number that it hides.
use Rattle.std.specs.Prelude.{ℕ, ◌+◌, ◌*◌, ◌/◌, ◌%◌, cond, List, [], ◌∷◌, ◌++◌, eqb, get_or}
use Rattle.lists.specs.Lists.{list_to, join_to}
use Rattle.field.specs.Field.{add, sub}
use Rattle.book.specs.Book.{Entry, is_drawn, entry_of, drawn, phone_number, book_value}
use Rattle.settings.specs.Sizes.{shared}
use Rattle.settings.specs.Settings.{Params, Terms}
use Rattle.book.specs.Book.Entry.{mask, place, left, right, product, group_mask, group_place}
use Rattle.column.specs.Run.{plain_opened}

-- a draw, from the drawn numbers and the phone's numbers by their places
unfoldable pub draw_from : Params → ℕ → (ℕ → ℕ) → (ℕ → ℕ → ℕ) → List ℕ
draw_from p width own phone =
    join_to (shared p) (λ (e : ℕ).
    cond (is_drawn (entry_of p e)) (own e ∷ []) []
    ++ list_to width (phone e))

-- opening o of the round that follows `rounds`, in the plain run of a secret
abbrev pub opened_of : Terms → ℕ → List ℕ → List ℕ → ℕ → ℕ → ℕ
opened_of T width draw secret rounds o = get_or (plain_opened T width draw secret rounds) o 0

-- the opening that part 0 (a) or 1 (b) of triple t of coefficient j hides; triple t is used in the round after 1 + t / 2
abbrev pub triple_opening : ℕ → ℕ → ℕ → ℕ
triple_opening j t part = 4 * j + 2 * (t % 2) + part

module _ (T : Terms) (width : ℕ) (secret secret' : List ℕ) where
  abbrev params : Params
  params = T.params

  abbrev modulus : ℕ
  modulus = T.params.scale.modulus

  -- r of coefficient j moves by the change of the coefficient, which is that of round 1's opening
  abbrev pub moved_mask : List ℕ → ℕ → Entry → ℕ
  moved_mask draw e (mask j) =
      add modulus (drawn params width draw e) (sub modulus (get_or secret' j 0) (get_or secret j 0))
  moved_mask draw e (place j i x) = 0
  moved_mask draw e (left j t) = drawn params width draw e
  moved_mask draw e (right j t) = drawn params width draw e
  moved_mask draw e (product j t) = 0
  moved_mask draw e (group_mask g) = drawn params width draw e
  moved_mask draw e (group_place g x) = 0

  -- the draw with the masks r moved, all else as it was
  unfoldable pub masks_moved : List ℕ → List ℕ
  masks_moved draw =
      draw_from params width (λ (e : ℕ). moved_mask draw e (entry_of params e)) (phone_number params width draw)

  -- the change of an opened number, where only the masks r have moved
  abbrev pub change : List ℕ → List ℕ → ℕ → ℕ → ℕ
  change draw half rounds o = sub modulus (opened_of T width half secret' rounds o) (opened_of T width draw secret rounds o)

  -- a and b move by the change of u − a and v − b; ρ by the change of ρ + g × n, the other way
  abbrev pub moved_drawn : List ℕ → List ℕ → ℕ → Entry → ℕ
  moved_drawn draw half e (mask j) = drawn params width half e
  moved_drawn draw half e (place j i x) = 0
  moved_drawn draw half e (left j t) =
      add modulus (drawn params width draw e) (change draw half (1 + t / 2) (triple_opening j t 0))
  moved_drawn draw half e (right j t) =
      add modulus (drawn params width draw e) (change draw half (1 + t / 2) (triple_opening j t 1))
  moved_drawn draw half e (product j t) = 0
  moved_drawn draw half e (group_mask g) = sub modulus (drawn params width draw e) (change draw half 5 g)
  moved_drawn draw half e (group_place g x) = 0

  -- the draw with all drawn numbers moved, the phone's numbers as they were: the pairing for the phone's record
  unfoldable pub drawn_moved : List ℕ → List ℕ
  drawn_moved draw =
      let half = masks_moved draw in
      draw_from params width (λ (e : ℕ). moved_drawn draw half e (entry_of params e)) (phone_number params width draw)

  -- for the server's record the phone's numbers move by factor × the change of the value, so that the server's stay
  unfoldable pub phone_moved : List ℕ → List ℕ → List ℕ
  phone_moved factors draw =
      let all = drawn_moved draw in
      draw_from params width (drawn params width all) (λ (e c : ℕ).
      add modulus (phone_number params width draw e c)
      (get_or factors c 0 * sub modulus (book_value params width all e) (book_value params width draw e)))

  -- the pairing, for the record of side `number`
  unfoldable pub paired : ℕ → List ℕ → List ℕ → List ℕ
  paired number factors draw = cond (eqb number 0) (phone_moved factors draw) (drawn_moved draw)
