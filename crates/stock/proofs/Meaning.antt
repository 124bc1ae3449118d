-- What choose gives back: the first book whose serial is the least above the last.
use mathlib.Core.Path.{◌≡◌, ap, ◌∙◌}
use mathlib.Core.Bool.{Bool, true}
use mathlib.Core.List.{List, []}
use Prim.Native.Nat.{ℕ, ◌*◌, ◌/◌, ◌<◌}
use native.Mathlib.Omega.{arith}
use lib.Dec.{eqb}
use borrow.Author.Tests.{eq-eqb, eqb-true, ne_eqb}
use lib.ListN.{length, get_or, take, drop, length-drop}
use lib.Seq.{length-take-le}
use Rattle.lists.specs.Lists.{every}
use Rattle.lists.proofs.Every.{every-at, every_append, every-list_to}
use Rattle.lists.proofs.Questions.{passed}
use Rattle.settings.specs.declared.Shape.{Shape}
use Rattle.settings.proofs.Ready.{shape_rest}
use Rattle.stock.specs.Stock.{stocked_size, books_of, both_stocks, is_above, some_of, best_of, ask_stocks, choose_no, chosen}
use Rattle.stock.specs.Theorems.{Choice}
use Rattle.stock.proofs.Scans.{book-room}
use Rattle.stock.proofs.Choice.{best_first, best_some}

-- a book has its size
abbrev is_sized : ℕ → List ℕ → Bool
is_sized size book = eqb (length book) size

books_sized : (size : ℕ) (s : List ℕ) → every (is_sized size) (books_of size s) ≡ true
books_sized size s =
    every-list_to (is_sized size) (length s / size) (λ (b : ℕ). take size (drop (b * size) s))
    (λ b h. eq-eqb _ _ (length-take-le size (drop (b * size) s) (omega (arith, length-drop (b * size) s, book-room b size (length s) h))))

both_length : (size : ℕ) (s t : List ℕ) (m : ℕ) → m < length (both_stocks size s t) → length (get_or (both_stocks size s t) m []) ≡ size
both_length size s t m h =
    eqb-true _ _ (every-at (is_sized size) (both_stocks size s t) m [] (every_append (is_sized size) (books_of size s) (books_of size t) (books_sized size s) (books_sized size t)) h)

module _ (k : ℕ) (a : Shape) (first second : List ℕ) (last : ℕ) where
  -- a choice that is not refused has a serial above the last
  some-above : choose_no k a first second last ≡ 0 → some_of (is_above last) (both_stocks (stocked_size k a) first second) ≡ true
  unfolding choose_no ask_stocks
  some-above e =
      let q5 = passed _ 4 _ (shape_rest a _ e) in
      (passed _ 13 _ q5.1).0

  pub choice : Choice k a first second last
  unfolding chosen best_of
  choice =
      record {
        refused = λ h. rw (ne_eqb (choose_no k a first second last) 0 h);
        chose = λ e.
            let zs = both_stocks (stocked_size k a) first second in
            let b = best_some last zs (some-above e) in
            let is : chosen k a first second last ≡ get_or zs b.0 [] = rw e (best_first last zs b.0 b.1) in
            record {
              b = b.0;
              inside = b.1.inside;
              is = is;
              above = b.1.above;
              least = b.1.least;
              earliest = b.1.first;
              size = ap length is ∙ both_length (stocked_size k a) first second b.0 b.1.inside;
            };
      }
