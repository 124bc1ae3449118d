-- The deal: its questions, and both lent books at exit.
use Rattle.std.specs.Prelude.{ℕ, ◌*◌, ◌≡◌, true, cond, ◌&&◌, List, eqb, length}
use Rattle.lists.specs.Answers.{ask}
use Rattle.lists.specs.Lists.{all_below}
use Rattle.field.specs.Field.{q}
use Rattle.settings.specs.declared.Shape.{Shape}
use Rattle.settings.specs.Settings.{params_of}
use Rattle.settings.specs.Questions.{keys_ok, ask_shape, ShapeReady}
use Rattle.settings.specs.Sizes.{width_of, shared, draw_length}
use Rattle.book.specs.Books.{multipliers, phone_book, server_book}

-- "Deal: 1, 2, 4, 5, 6", k keys a side; the two lent books are written, not read
unfoldable pub deal_no : ℕ → Shape → List ℕ → List ℕ → List ℕ → List ℕ → List ℕ → ℕ
deal_no k a keys0 keys1 draw server phone =
    let p = params_of a in
    let w = width_of k in
    ask_shape a
    (ask (keys_ok keys0 && keys_ok keys1) 4
    (ask
    (eqb (length draw) (draw_length p w)
    && eqb (length server) (shared p * w)
    && eqb (length phone) (shared p * w))
    5
    (ask (all_below q draw) 6
    0)))

-- the first no, and the two lent books at exit
pub record Dealt : Type 0 where
  pub refused : ℕ
  pub server : List ℕ
  pub phone : List ℕ

unfoldable pub deal_call : ℕ → Shape → List ℕ → List ℕ → List ℕ → List ℕ → List ℕ → Dealt
deal_call k a keys0 keys1 draw server phone =
    let refusal = deal_no k a keys0 keys1 draw server phone in
    let p = params_of a in
    cond (eqb refusal 0)
    (record { refused = 0; server = server_book p (width_of k) (multipliers keys0 keys1) draw; phone = phone_book p (width_of k) draw })
    (record { refused = refusal; server = server; phone = phone })

-- what is known where no question of a deal is answered no
pub record Passed (k : ℕ) (a : Shape) (keys0 keys1 draw server phone : List ℕ) : Type 0 where
  pub ready : ShapeReady a
  pub keys0_ok : keys_ok keys0 ≡ true
  pub keys1_ok : keys_ok keys1 ≡ true
  pub draw_size : length draw ≡ draw_length (params_of a) (width_of k)
  pub server_size : length server ≡ shared (params_of a) * width_of k
  pub phone_size : length phone ≡ shared (params_of a) * width_of k
  pub below : all_below q draw ≡ true
