-- What the deal and the begins of a play are handed.
use Prim.Native.Nat.{ℕ, zero, suc, ◌+◌, ◌*◌, ◌/◌, ◌%◌, ◌≤◌, ◌<◌}
use mathlib.Core.Path.{◌≡◌, refl, sym, ap, ◌∙◌}
use mathlib.Core.Bool.{true, ◌&&◌}
use mathlib.Core.List.{List, [], ◌∷◌}
use native.Mathlib.Omega.{arith}
use lib.Dec.{ltb, lit<}
use lib.Seq.{length-take-le}
use Rattle.text.specs.Decimal.{too_large}
use lib.ListN.{length, get_or, take, drop, replicate, get_or-replicate, replicate-append-replicate}
use borrow.Author.Tests.{lt-ltb}
use Rattle.lists.specs.Lists.{every, list_from, all_below}
use Rattle.lists.proofs.Lists.{length-list_from, get_d_list_to, list_to_cong}
use Rattle.lists.proofs.Every.{below_at, every-list_to}
use Rattle.lists.proofs.Questions.{passed, and_yes}
use Rattle.field.specs.Field.{q, sub}
use Rattle.settings.specs.Sizes.{key_count, width, width_of}
use Rattle.settings.specs.Questions.{is_bit, count_ok, bound_ok, keys_ok, ask_settings, ask_shape, shape_ok, settings_ok}
use Rattle.settings.specs.declared.Settings.{Settings}
use Rattle.book.specs.Books.{multipliers}
use Rattle.runs.specs.Records.{missing_shares}
use Rattle.lines.specs.Run.{ones, in_columns}

-- settings that passed questions 1 to 3
pub settings_pass_all : (s : Settings) (rest : ℕ) → ask_settings 0 s rest ≡ 0 → settings_ok s ≡ true
unfolding ask_settings ask_shape shape_ok
settings_pass_all s rest e =
    let a = s.shape in
    let one = passed (is_bit 0) 0 _ e in
    let bits = passed (is_bit a.set && is_bit a.kind) 0 _ one.1 in
    let two = passed (count_ok a.n) 1 _ bits.1 in
    let three = passed (bound_ok a.kind s.bound) 2 rest two.1 in
    and_yes (shape_ok a) (bound_ok a.kind s.bound)
    (and_yes (is_bit a.set && is_bit a.kind) (count_ok a.n) bits.0 two.0)
    three.0

-- the keys pass question 4
all_ones : (k : ℕ) → keys_ok (replicate k 1) ≡ true
unfolding keys_ok every
all_ones zero = refl
all_ones (suc k) = all_ones k

pub ones_ok : keys_ok ones ≡ true
ones_ok = all_ones key_count

-- the server's inputs: as many as asked, and below q
pub columns_long : (xs : List ℕ) → length (in_columns xs) ≡ length xs * width
unfolding in_columns
columns_long xs = length-list_from 0 (length xs * width) _

pub columns_below : (xs : List ℕ) → all_below q xs ≡ true → all_below q (in_columns xs) ≡ true
unfolding in_columns all_below
columns_below xs e =
    every-list_to (λ (x : ℕ). ltb x q) (length xs * width) (λ (x : ℕ). get_or xs (x / width) 0) (λ x l. lt-ltb (get_or xs (x / width) 0) q (small x))
  where
    small : (x : ℕ) → get_or xs (x / width) 0 < q
    small x = below_at q xs (x / width) (omega arith) e

pub zeros_are : (i n : ℕ) → list_from {A = ℕ} i n (λ (x : ℕ). 0) ≡ replicate n 0
unfolding list_from
zeros_are i zero = refl
zeros_are i (suc n) = ap (λ (l : List ℕ). 0 ∷ l) (zeros_are (suc i) n)

pub zeros-below : (n : ℕ) → all_below q (replicate n 0) ≡ true
unfolding all_below every
zeros-below zero = refl
zeros-below (suc n) = zeros-below n

pub behind-zeros : (n m : ℕ) → drop {A = ℕ} n (replicate (n + m) 0) ≡ replicate m 0
behind-zeros zero m = let e : 0 + m ≡ m = omega arith in rw e
behind-zeros (suc n) m = let e : suc n + m ≡ suc (n + m) = omega arith in rw e (behind-zeros n m)

-- the front of a list that is long enough
pub length_front : (n : ℕ) (l : List ℕ) → n ≤ length l → n ≡ length (take n l)
length_front n l h = sym (length-take-le n l h)

one_of : (k c : ℕ) → c < width_of k → get_or (multipliers (replicate k 1) (replicate k 1)) c 0 ≡ 1
one_of k zero h = refl
one_of k (suc c) h = rw (replicate-append-replicate {A = ℕ} k k 1) (get_or-replicate (k + k) c 1 0 (omega arith))

none_left : (f w s : ℕ) → f ≡ 1 → s ≡ w → sub q (f * w) s ≡ 0
none_left f w s e d = rw (e, d) (omega arith)

columns_at : (xs : List ℕ) (x : ℕ) → x < length xs * width → get_or (in_columns xs) (x / width * width + x % width) 0 ≡ get_or xs (x / width) 0
unfolding in_columns
columns_at xs x l =
    let e : x / width * width + x % width ≡ x = omega arith in
    rw e (get_d_list_to (length xs * width) (λ (y : ℕ). get_or xs (y / width) 0) x 0 l)

-- what is missing to the coefficients is 0 throughout: the phone's inputs
pub missing_none : (xs : List ℕ) → missing_shares width (multipliers ones ones) xs (in_columns xs) ≡ replicate (length xs * width) 0
unfolding missing_shares
missing_none xs =
    list_to_cong (length xs * width) _ (λ (x : ℕ). 0)
    (λ x l. none_left (get_or (multipliers ones ones) (x % width) 0) (get_or xs (x / width) 0) (get_or (in_columns xs) (x / width * width + x % width) 0) (one_of key_count (x % width) (omega arith))
    (columns_at xs x l))
    ∙ zeros_are 0 (length xs * width)

-- no number is too large in the empty list
pub none_below : (i : ℕ) → get_or {A = ℕ} [] i 0 < too_large
none_below zero = lit< tt
none_below (suc i) = lit< tt

-- nor in the front of a list that has none
pub front_below : (n : ℕ) (l : List ℕ) → ((i : ℕ) → get_or l i 0 < too_large) → (i : ℕ) → get_or (take n l) i 0 < too_large
front_below zero l h i = none_below i
front_below (suc n) [] h i = none_below i
front_below (suc n) (x ∷ l) h zero = h zero
front_below (suc n) (x ∷ l) h (suc i) = front_below n l (λ j. h (suc j)) i
