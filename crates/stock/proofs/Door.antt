-- Questions 1, 2 and 5 and then the rest: what a refusal and a yes to all three say of the calls.
use mathlib.Core.Path.{◌≡◌, refl, sym, ◌∙◌}
use mathlib.Core.Bool.{Bool, true, false, ◌&&◌, true≢false}
use mathlib.Core.List.{List, []}
use Prim.Native.Nat.{ℕ, ◌%◌, ◌≤◌, ◌<◌}
use lib.Dec.{eqb}
use lib.ListN.{length}
use borrow.Author.Tests.{ne_eqb}
use Rattle.lists.specs.Answers.{ask}
use Rattle.lists.proofs.Questions.{passed}
use Rattle.settings.specs.Questions.{ask_shape}
use Rattle.settings.proofs.Ready.{shape-ready, shape_rest, shape-pass, shape_refuse}
use Rattle.settings.specs.declared.Shape.{Shape}
use Rattle.std.specs.Prelude.{Option, Some, None, Result, Ok, Err}
use Rattle.std.specs.Result.{is_err}
use Rattle.settings.specs.Refusals.{number_of, refused}
use Rattle.settings.specs.declared.Refusal.{Refusal}
use Rattle.settings.proofs.Refused.{number_nonzero}
use Rattle.stock.specs.Stock.{stocked_size, books_of, is_above, both_stocks, some_of, best_of, ask_stocks, choose_no, chosen}
use Rattle.stock.specs.Scan.{scanned}
use Rattle.stock.proofs.Scans.{scan_both}
use Rattle.stock.proofs.Choice.{found_none, found_some}

module _ (k : ℕ) (a : Shape) (first second : List ℕ) where
  -- question 5
  abbrev whole_stocks : Bool
  whole_stocks = eqb (length first % stocked_size k a) 0 && eqb (length second % stocked_size k a) 0

  -- the rest is asked just if these are answered yes
  stocks_go : ask_stocks k a first second 0 ≡ 0 → (rest : ℕ) → ask_stocks k a first second rest ≡ rest
  unfolding ask_stocks ask
  stocks_go e rest =
      let five = (passed whole_stocks 4 0 (shape_rest a _ e)).0 in
      rw five (shape-pass a rest (rw five at e))

  stocks_refuse : (code : ℕ) → code ≡ ask_stocks k a first second 0 → ¬ (code ≡ 0) → (rest : ℕ) → ask_stocks k a first second rest ≡ code
  unfolding ask_stocks ask
  stocks_refuse code e h rest = by whole_stocks refl
    where
      by : (b : Bool) → whole_stocks ≡ b → ask_shape a (ask whole_stocks 5 rest) ≡ code
      by true f = rw f (shape_refuse a rest (λ z. h (e ∙ rw f z)) ∙ sym (e ∙ rw f))
      by false f = rw f (sym (e ∙ rw f))

  -- a refusal stays one through the rest
  pub stocks_refused : (e : Refusal) (rest : ℕ) → number_of e ≡ ask_stocks k a first second 0 → number_of e ≡ ask_stocks k a first second rest
  stocks_refused e rest h = sym (stocks_refuse (number_of e) h (number_nonzero e) rest)

  -- set and count are as asked
  pub stocks_ok : 0 ≡ ask_stocks k a first second 0 → (a.set < 2) × (a.n ≤ 8)
  unfolding ask_stocks
  stocks_ok e =
      let ready = shape-ready a _ (sym e) in
      (ready.sets, ready.most)

  -- where the questions are passed, choose_no tells whether a serial is above the last
  pub none_above : (last : ℕ) → 0 ≡ ask_stocks k a first second 0 → false ≡ some_of (is_above last) (both_stocks (stocked_size k a) first second) → 14 ≡ choose_no k a first second last
  unfolding choose_no ask
  none_above last passes e = sym (stocks_go (sym passes) _ ∙ rw (← e))

  pub one_above : (last : ℕ) → 0 ≡ ask_stocks k a first second 0 → true ≡ some_of (is_above last) (both_stocks (stocked_size k a) first second) → 0 ≡ choose_no k a first second last
  unfolding choose_no ask
  one_above last passes e = sym (stocks_go (sym passes) _ ∙ rw (← e))

  -- what the answer to the questions says
  pub part_refused : (last : ℕ) (r : Result (Unit {0}) Refusal) → is_err r ≡ true → refused r ≡ ask_stocks k a first second 0 → [] ≡ chosen k a first second last
  unfolding chosen choose_no
  part_refused last (Ok x) e h = absurd (true≢false (sym e))
  part_refused last (Err n) e h =
      rw (← stocks_refused n (ask (some_of (is_above last) (both_stocks (stocked_size k a) first second)) 14 0) h, ne_eqb (number_of n) 0 (number_nonzero n))

  pub part_passes : (r : Result (Unit {0}) Refusal) → is_err r ≡ false → refused r ≡ ask_stocks k a first second 0 → 0 ≡ ask_stocks k a first second 0
  part_passes (Ok x) e h = h
  part_passes (Err n) e h = absurd (true≢false e)

  module _ (last size : ℕ) (before : Option (List ℕ)) (passes : 0 ≡ ask_stocks k a first second 0) (size_is : size ≡ stocked_size k a)
      (first_is : before ≡ scanned last (books_of size first) None) where
    both_is : (found : Option (List ℕ)) → found ≡ scanned last (books_of size second) before → found ≡ scanned last (both_stocks (stocked_size k a) first second) None
    both_is found e = e ∙ rw (← size_is, first_is) (scan_both last (books_of size first) (books_of size second) None)

    -- neither scan has found a book
    pub found_no : None ≡ scanned last (books_of size second) before → [] ≡ chosen k a first second last
    unfolding chosen choose_no ask
    found_no e = let no : 14 ≡ choose_no k a first second last = sym (stocks_go (sym passes) _ ∙ rw (found_none last _ (both_is None e))) in rw (← no)

    -- a book is found
    pub found_book : (book : List ℕ) → Some book ≡ scanned last (books_of size second) before → book ≡ chosen k a first second last
    unfolding chosen choose_no best_of ask
    found_book book e =
        let f = found_some last _ book (both_is (Some book) e) in
        let yes : 0 ≡ choose_no k a first second last = sym (stocks_go (sym passes) _ ∙ rw f.0) in
        rw (← yes) f.1
