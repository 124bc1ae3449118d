-- What is proved of books and draws, as types: for every scale, kind, count and number of keys.
use Rattle.std.specs.Prelude.{ℕ, suc, ◌+◌, ◌*◌, ◌/◌, ◌%◌, ◌<◌, ◌≤◌, ◌≡◌, true, List, eqb, length, get_or}
use Rattle.lists.specs.Answers.{bit}
use Rattle.lists.specs.Lists.{all_below}
use Rattle.field.specs.Forms.{Adds}
use Rattle.settings.specs.Sets.{base}
use Rattle.settings.specs.Settings.{Params}
use Rattle.settings.specs.Sizes.{shared, groups, drawn_numbers, draw_length}
use Rattle.rounding.specs.Digits.{digit}
use Rattle.book.specs.Book.{Entry, group_k, group_gap, plan, entry_of, mask_at, vector_at, triple_at, group_at, is_drawn, drawn_in, draw_at, drawn, phone_number, book_value}
use Rattle.book.specs.Book.Entry.{mask, place, left, right, product, group_mask, group_place}
use Rattle.book.specs.Books.{server_number, phone_book, server_book}

-- ---- What stands where

module _ (p : Params) where
  -- what stands at place e of the book
  pub data At (e : ℕ) : Entry → Type 0 where
    at_mask : {j : ℕ} → j < p.n → e ≡ mask_at p j → At e (mask j)
    at_place : {j i x : ℕ} → j < p.n → i < 5 → x < base p.scale i → e ≡ vector_at p j i + x → At e (place j i x)
    at_left : {j t : ℕ} → j < p.n → t < 8 → e ≡ triple_at p j t → At e (left j t)
    at_right : {j t : ℕ} → j < p.n → t < 8 → e ≡ triple_at p j t + 1 → At e (right j t)
    at_product : {j t : ℕ} → j < p.n → t < 8 → e ≡ triple_at p j t + 2 → At e (product j t)
    at_group : {g : ℕ} → g < groups p → e ≡ group_at p g → At e (group_mask g)
    at_group_place : {g x : ℕ} → g < groups p → x < group_k p + 2 → e ≡ group_at p g + 1 + x → At e (group_place g x)

  -- the entry stands at place e of the book
  abbrev pub Holds : ℕ → Entry → Type 0
  Holds e entry = (e < shared p) × (entry_of p e ≡ entry)

  -- every place holds an entry that knows its place, and every entry stands at its place
  pub record Places : Type 0 where
    pub every : (e : ℕ) → e < shared p → At e (entry_of p e)
    pub of_mask : (j : ℕ) → j < p.n → Holds (mask_at p j) (mask j)
    pub of_vector : (j i x : ℕ) → j < p.n → i < 5 → x < base p.scale i → Holds (vector_at p j i + x) (place j i x)
    pub of_left : (j t : ℕ) → j < p.n → t < 8 → Holds (triple_at p j t) (left j t)
    pub of_right : (j t : ℕ) → j < p.n → t < 8 → Holds (triple_at p j t + 1) (right j t)
    pub of_product : (j t : ℕ) → j < p.n → t < 8 → Holds (triple_at p j t + 2) (product j t)
    pub of_group : (g : ℕ) → g < groups p → Holds (group_at p g) (group_mask g)
    pub of_group_place : (g x : ℕ) → g < groups p → x < group_k p + 2 → Holds (group_at p g + 1 + x) (group_place g x)

-- ---- Sizes: the plan has as many entries, and as many drawn ones, as the sizes say

pub record Sizes : Type 0 where
  pub plan_length : (p : Params) → length (plan p) ≡ shared p
  pub drawn_is : (p : Params) → drawn_in (plan p) ≡ drawn_numbers p

-- ---- The draw's cursor

module _ (p : Params) (width : ℕ) where
  pub record Cursor : Type 0 where
    pub none : draw_at p width 0 ≡ 0
    pub more : (e : ℕ) → e < shared p → draw_at p width (suc e) ≡ draw_at p width e + bit (is_drawn (entry_of p e)) + width
    pub inside : (e : ℕ) → e < shared p → draw_at p width e + bit (is_drawn (entry_of p e)) + width ≤ draw_length p width
    pub end : draw_at p width (shared p) ≡ draw_length p width

-- ---- What a deal makes of a draw

module _ (p : Params) (width : ℕ) (factors draw : List ℕ) where
  pub record Books : Type 0 where
    pub server_length : length (server_book p width factors draw) ≡ shared p * width
    pub phone_length : length (phone_book p width draw) ≡ shared p * width
    pub server_at : (e c : ℕ) → e < shared p → c < width
        → get_or (server_book p width factors draw) (e * width + c) 0 ≡ server_number p width factors draw e c
    pub phone_at : (e c : ℕ) → e < shared p → c < width
        → get_or (phone_book p width draw) (e * width + c) 0 ≡ phone_number p width draw e c
    pub server_below : 0 < p.scale.modulus → all_below p.scale.modulus (server_book p width factors draw) ≡ true
    pub phone_below : 0 < p.scale.modulus → all_below p.scale.modulus draw ≡ true → all_below p.scale.modulus (phone_book p width draw) ≡ true
    -- "the two sides' numbers add up"
    pub adds : 0 < p.scale.modulus → (e c : ℕ) → Adds p.scale.modulus (get_or factors c 0) (server_number p width factors draw e c) (phone_number p width draw e c) (book_value p width draw e)

module _ (p : Params) (width : ℕ) (draw : List ℕ) where
  abbrev v : ℕ → ℕ
  v e = book_value p width draw e

  -- the joined values: r, the vectors of its digits, the triples, ρ and the vector of ρ / g
  pub record Values : Type 0 where
    pub below : 1 < p.scale.modulus → all_below p.scale.modulus draw ≡ true → (e : ℕ) → v e < p.scale.modulus
    pub of_mask : (j : ℕ) → j < p.n → v (mask_at p j) ≡ drawn p width draw (mask_at p j)
    pub of_vector : (j i x : ℕ) → j < p.n → i < 5 → x < base p.scale i → v (vector_at p j i + x) ≡ bit (eqb x (digit p.scale (v (mask_at p j)) i))
    pub of_left : (j t : ℕ) → j < p.n → t < 8 → v (triple_at p j t) ≡ drawn p width draw (triple_at p j t)
    pub of_right : (j t : ℕ) → j < p.n → t < 8 → v (triple_at p j t + 1) ≡ drawn p width draw (triple_at p j t + 1)
    pub of_product : (j t : ℕ) → j < p.n → t < 8 → v (triple_at p j t + 2) ≡ v (triple_at p j t) * v (triple_at p j t + 1) % p.scale.modulus
    pub of_group : (g : ℕ) → g < groups p → v (group_at p g) ≡ drawn p width draw (group_at p g)
    pub of_group_place : (g x : ℕ) → g < groups p → x < group_k p + 2 → v (group_at p g + 1 + x) ≡ bit (eqb x (v (group_at p g) / group_gap p))

-- all of it
pub record Laws : Type 0 where
  pub places : (p : Params) → Places p
  pub sizes : Sizes
  pub cursor : (p : Params) (width : ℕ) → Cursor p width
  pub books : (p : Params) (width : ℕ) (factors draw : List ℕ) → Books p width factors draw
  pub values : (p : Params) (width : ℕ) (draw : List ℕ) → Values p width draw
