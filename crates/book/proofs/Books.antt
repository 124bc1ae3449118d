-- What stands in the two books of a deal, that their numbers are below the modulus, and that they add up.
use mathlib.Core.Path.{◌≡◌, refl, sym, ap, ap₂, ◌∙◌}
use mathlib.Core.Bool.{true, true≢false}
use mathlib.Core.List.{List}
use Prim.Native.Nat.{ℕ, ◌+◌, ◌*◌, ◌/◌, ◌%◌, ◌<◌}
use native.Mathlib.Nat.{mod-lt, mul-le-mul_right}
use native.Mathlib.Omega.{arith}
use lib.Arith.{digits_div, digits_mod}
use lib.Dec.{eqb, ltb}
use borrow.Author.Tests.{lt-ltb}
use lib.ListN.{length, get_or}
use Rattle.lists.specs.Lists.{all_below}
use Rattle.lists.proofs.Indicators.{bit_le}
use Rattle.lists.proofs.Every.{below_at, every-list_to}
use Rattle.lists.proofs.Lists.{length-list_from, get_d_list_to}
use Rattle.field.specs.Forms.{Adds}
use Rattle.field.proofs.Solve.{at, ◌⊕◌, ◌⊖◌, ◌⊗◌, red, solve}
use Rattle.settings.specs.Settings.{Params}
use Rattle.settings.specs.Sizes.{shared}
use Rattle.rounding.specs.Digits.{digit}
use Rattle.book.specs.Book.{Entry, group_gap, entry_of, mask_at, group_at, is_drawn, drawn, phone_number, book_value, entry_value}
use Rattle.book.specs.Book.Entry.{mask, place, left, right, product, group_mask, group_place}
use Rattle.book.specs.Books.{in_order, server_number, phone_book, server_book}
use Rattle.book.specs.Theorems.{Holds, Books, Values}
use Rattle.book.proofs.Places.{places}

-- ---- a side's numbers in order

module _ (count width : ℕ) (f : ℕ → ℕ → ℕ) where
  length-in_order : length (in_order count width f) ≡ count * width
  length-in_order = length-list_from 0 (count * width) _

  pub get_d_in_order : (k c : ℕ) → k < count → c < width → get_or (in_order count width f) (k * width + c) 0 ≡ f k c
  get_d_in_order k c h l =
      get_d_list_to (count * width) (λ (x : ℕ). f (x / width) (x % width)) (k * width + c) 0 (omega (arith, mul-le-mul_right width h))
      ∙ ap₂ f (digits_div k l) (digits_mod k l)

  below-in_order : (m : ℕ) → ((k c : ℕ) → f k c < m) → all_below m (in_order count width f) ≡ true
  unfolding all_below
  below-in_order m h =
      every-list_to (λ (x : ℕ). ltb x m) (count * width) (λ (x : ℕ). f (x / width) (x % width)) (λ x l. lt-ltb _ m (h (x / width) (x % width)))

-- ---- the two books

module _ (p : Params) (width : ℕ) (factors draw : List ℕ) where
  pub server_lt : 0 < p.scale.modulus → (k c : ℕ) → server_number p width factors draw k c < p.scale.modulus
  unfolding server_number
  server_lt pos k c = mod-lt _ pos

  phone_lt : 0 < p.scale.modulus → all_below p.scale.modulus draw ≡ true → (k c : ℕ) → phone_number p width draw k c < p.scale.modulus
  unfolding phone_number
  phone_lt pos h k c = below_at p.scale.modulus draw _ pos h

  adds : 0 < p.scale.modulus → (k c : ℕ) → Adds p.scale.modulus (get_or factors c 0) (server_number p width factors draw k c) (phone_number p width draw k c) (book_value p width draw k)
  unfolding server_number
  adds pos k c =
      let f = get_or factors c 0 in
      let v = book_value p width draw k in
      let h = phone_number p width draw k c in
      record { total = solve p.scale.modulus pos (red (at f ⊗ at v ⊖ at h) ⊕ at h) (at f ⊗ at v) (omega arith) }

  pub books : Books p width factors draw
  unfolding server_book phone_book
  books =
      record {
        server_length = length-in_order (shared p) width (server_number p width factors draw);
        phone_length = length-in_order (shared p) width (phone_number p width draw);
        server_at = get_d_in_order (shared p) width (server_number p width factors draw);
        phone_at = get_d_in_order (shared p) width (phone_number p width draw);
        server_below = λ pos. below-in_order (shared p) width (server_number p width factors draw) p.scale.modulus (server_lt pos);
        phone_below = λ pos h. below-in_order (shared p) width (phone_number p width draw) p.scale.modulus (phone_lt pos h);
        adds = adds;
      }

-- ---- the joined values

module _ (p : Params) (width : ℕ) (draw : List ℕ) where
  -- what stands at a place decides the value there
  pub value-holds : (k : ℕ) (e : Entry) → Holds p k e → book_value p width draw k ≡ entry_value p width draw k e
  unfolding book_value
  value-holds k e h = ap (λ (e : Entry). entry_value p width draw k e) h.1

  pub value-drawn : (k : ℕ) → is_drawn (entry_of p k) ≡ true → book_value p width draw k ≡ drawn p width draw k
  unfolding book_value
  value-drawn k h = by (entry_of p k) h
    where
      by : (e : Entry) → is_drawn e ≡ true → entry_value p width draw k e ≡ drawn p width draw k
      by (mask c) h = refl
      by (left c t) h = refl
      by (right c t) h = refl
      by (group_mask g) h = refl
      by (place c i j) h = absurd (true≢false (sym h))
      by (product c t) h = absurd (true≢false (sym h))
      by (group_place g j) h = absurd (true≢false (sym h))

  -- a place that holds a drawn entry
  pub drawn-holds : (k : ℕ) (e : Entry) → Holds p k e → is_drawn e ≡ true → book_value p width draw k ≡ drawn p width draw k
  drawn-holds k e h i = value-drawn k (ap is_drawn h.1 ∙ i)

  value-below : 1 < p.scale.modulus → all_below p.scale.modulus draw ≡ true → (k : ℕ) → book_value p width draw k < p.scale.modulus
  unfolding book_value drawn
  value-below pos h k = by (entry_of p k)
    where
      by : (e : Entry) → entry_value p width draw k e < p.scale.modulus
      by (mask c) = below_at p.scale.modulus draw _ (omega arith) h
      by (left c t) = below_at p.scale.modulus draw _ (omega arith) h
      by (right c t) = below_at p.scale.modulus draw _ (omega arith) h
      by (group_mask g) = below_at p.scale.modulus draw _ (omega arith) h
      by (place c i j) = omega (arith, bit_le (eqb j (digit p.scale (drawn p width draw (mask_at p c)) i)))
      by (product c t) = mod-lt _ (omega arith)
      by (group_place g j) = omega (arith, bit_le (eqb j (drawn p width draw (group_at p g) / group_gap p)))

  pub values : Values p width draw
  values =
      let h = places p in
      record {
        below = value-below;
        of_mask = λ c b. drawn-holds _ _ (h.of_mask c b) refl;
        of_vector = λ c i j b l m. value-holds _ _ (h.of_vector c i j b l m) ∙ rw (drawn-holds _ _ (h.of_mask c b) refl);
        of_left = λ c t b l. drawn-holds _ _ (h.of_left c t b l) refl;
        of_right = λ c t b l. drawn-holds _ _ (h.of_right c t b l) refl;
        of_product = λ c t b l. value-holds _ _ (h.of_product c t b l) ∙ rw (drawn-holds _ _ (h.of_left c t b l) refl, drawn-holds _ _ (h.of_right c t b l) refl);
        of_group = λ g b. drawn-holds _ _ (h.of_group g b) refl;
        of_group_place = λ g j b l. value-holds _ _ (h.of_group_place g j b l) ∙ rw (drawn-holds _ _ (h.of_group g b) refl);
      }
