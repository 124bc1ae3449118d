-- A draw put together from drawn numbers and the phone's numbers, and what is read from it again.
use mathlib.Core.Path.{◌≡◌, refl, sym, ◌∙◌}
use mathlib.Core.List.{List, [], ◌∷◌, ◌++◌}
use mathlib.Core.Bool.{Bool, true, false, cond, true≢false}
use Prim.Native.Nat.{ℕ, zero, suc, ◌+◌, ◌≤◌, ◌<◌}
use native.Mathlib.Nat.{zero-add, add-zero, add_assoc}
use native.Mathlib.Omega.{arith}
use lib.Dec.{ltb}
use borrow.Author.Tests.{lt-ltb}
use lib.ListN.{length, get_or}
use Rattle.lists.specs.Answers.{bit}
use Rattle.lists.specs.Lists.{list_to, join_from, every, all_below}
use Rattle.lists.proofs.Lists.{length-list_from, get_d_list_to, ahead, ahead_more, join-at, join_is}
use Rattle.lists.proofs.Every.{every-list_to, every-join}
use Rattle.settings.specs.Sizes.{shared, draw_length}
use Rattle.settings.specs.Settings.{Params}
use Rattle.book.specs.Book.{is_drawn, entry_of, draw_at, drawn, phone_number}
use Rattle.book.proofs.Draws.{draw_at-none, draw_at-more, draw_at-end}
use Rattle.secrecy.specs.Paired.{draw_from}

-- ---- the piece of one shared number: its drawn number, if it has one, and the phone's

abbrev piece : ℕ → Bool → ℕ → (ℕ → ℕ) → List ℕ
piece width b own phone = cond b (own ∷ []) [] ++ list_to width phone

module _ (width : ℕ) where
  length_piece : (b : Bool) (own : ℕ) (phone : ℕ → ℕ) → length (piece width b own phone) ≡ bit b + width
  unfolding bit
  length_piece true own phone = omega (arith, length-list_from 0 width phone)
  length_piece false own phone = omega (arith, length-list_from 0 width phone)

  phone_piece : (b : Bool) (own : ℕ) (phone : ℕ → ℕ) (c : ℕ) → c < width → get_or (piece width b own phone) (bit b + c) 0 ≡ phone c
  unfolding bit
  phone_piece true own phone c h =
      let s : 1 + c ≡ suc c = omega arith in
      rw s (get_d_list_to width phone c 0 h)
  phone_piece false own phone c h = rw zero-add (get_d_list_to width phone c 0 h)

  -- a list that holds these numbers holds the piece
  piece_is : (b : Bool) (own : ℕ) (phone : ℕ → ℕ) (l : List ℕ) (at : ℕ) → (b ≡ true → own ≡ get_or l at 0)
      → ((c : ℕ) → c < width → phone c ≡ get_or l (at + bit b + c) 0)
      → (x : ℕ) → x < length (piece width b own phone) → get_or l (at + x) 0 ≡ get_or (piece width b own phone) x 0
  unfolding bit
  piece_is true own phone l at h k zero b = rw add-zero (sym (h refl))
  piece_is true own phone l at h k (suc x) b =
      let e : at + suc x ≡ at + 1 + x = omega arith in
      let f : x < width = omega (arith, length-list_from 0 width phone) in
      rw e (sym (k x f) ∙ sym (get_d_list_to width phone x 0 f))
  piece_is false own phone l at h k x b =
      let e : at + x ≡ at + 0 + x = omega arith in
      let f : x < width = omega (arith, length-list_from 0 width phone) in
      rw e (sym (k x f) ∙ sym (get_d_list_to width phone x 0 f))

  below_piece : (m : ℕ) (b : Bool) (own : ℕ) (phone : ℕ → ℕ) → own < m → ((c : ℕ) → phone c < m)
      → every (λ (x : ℕ). ltb x m) (piece width b own phone) ≡ true
  unfolding every
  below_piece m true own phone h k =
      rw (lt-ltb own m h) (every-list_to (λ (x : ℕ). ltb x m) width phone (λ c l. lt-ltb (phone c) m (k c)))
  below_piece m false own phone h k = every-list_to (λ (x : ℕ). ltb x m) width phone (λ c l. lt-ltb (phone c) m (k c))

-- ---- the draw

module _ (p : Params) (width : ℕ) (own : ℕ → ℕ) (phone : ℕ → ℕ → ℕ) where
  abbrev pieces : ℕ → List ℕ
  pieces k = piece width (is_drawn (entry_of p k)) (own k) (phone k)

  -- the piece of place k begins where the dealer's cursor stands
  ahead_pieces : (k : ℕ) → k ≤ shared p → ahead 0 k pieces ≡ draw_at p width k
  unfolding join_from
  ahead_pieces zero h = sym (draw_at-none p width)
  ahead_pieces (suc k) h =
      let z : 0 + k ≡ k = zero-add k in
      let e : ahead 0 (suc k) pieces ≡ ahead 0 k pieces + length (pieces k) = rw z at (ahead_more 0 k pieces) in
      omega (arith, e, ahead_pieces k (omega arith), length_piece width (is_drawn (entry_of p k)) (own k) (phone k), draw_at-more p width k (omega arith))

  pub length-draw_from : length (draw_from p width own phone) ≡ draw_length p width
  unfolding draw_from
  length-draw_from = ahead_pieces (shared p) (omega arith) ∙ draw_at-end p width

  get_d_draw_from : (k x : ℕ) → k < shared p → x < length (pieces k)
      → get_or (draw_from p width own phone) (draw_at p width k + x) 0 ≡ get_or (pieces k) x 0
  unfolding draw_from
  get_d_draw_from k x h b = rw (← ahead_pieces k (omega arith)) (join-at (shared p) pieces 0 k x h b)

  pub drawn-draw_from : (k : ℕ) → k < shared p → is_drawn (entry_of p k) ≡ true
      → drawn p width (draw_from p width own phone) k ≡ own k
  unfolding drawn
  drawn-draw_from k h e =
      (rw add-zero at (get_d_draw_from k 0 h (rw e (omega arith)))) ∙ head (is_drawn (entry_of p k)) e
    where
      head : (b : Bool) → b ≡ true → get_or (piece width b (own k) (phone k)) 0 0 ≡ own k
      head true e = refl
      head false e = absurd (true≢false (sym e))

  pub phone-draw_from : (k c : ℕ) → k < shared p → c < width
      → phone_number p width (draw_from p width own phone) k c ≡ phone k c
  unfolding phone_number
  phone-draw_from k c h l =
      let b = is_drawn (entry_of p k) in
      rw (add_assoc (draw_at p width k) (bit b) c)
      (get_d_draw_from k (bit b + c) h (omega (arith, length_piece width b (own k) (phone k))) ∙ phone_piece width b (own k) (phone k) c l)

  pub below-draw_from : (m : ℕ) → ((k : ℕ) → own k < m) → ((k c : ℕ) → phone k c < m) → all_below m (draw_from p width own phone) ≡ true
  unfolding draw_from all_below
  below-draw_from m h k =
      every-join (λ (x : ℕ). ltb x m) 0 (shared p) pieces (λ x l.
      rw zero-add (below_piece width m (is_drawn (entry_of p x)) (own x) (phone x) (h x) (k x)))

  -- a draw whose parts are these is made of them
  pub draw_from-is : (draw : List ℕ) → length draw ≡ draw_length p width
      → ((k : ℕ) → k < shared p → is_drawn (entry_of p k) ≡ true → own k ≡ drawn p width draw k)
      → ((k c : ℕ) → k < shared p → c < width → phone k c ≡ phone_number p width draw k c)
      → draw_from p width own phone ≡ draw
  unfolding draw_from drawn phone_number
  draw_from-is draw e h f =
      join_is 0 (shared p) pieces 0 draw (e ∙ sym length-draw_from)
      (λ k x b l. let z : 0 + k ≡ k = zero-add k in
      rw (z, ahead_pieces k (omega arith))
      (piece_is width (is_drawn (entry_of p k)) (own k) (phone k) draw (draw_at p width k) (h k b)
      (λ c m. f k c b m) x (rw z at l)))
