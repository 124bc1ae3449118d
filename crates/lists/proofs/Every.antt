-- Tests of every member of a list: one member, and a loop that stops at the first that fails.
use mathlib.Core.Path.{◌≡◌, refl, sym, ◌∙◌, ap, ap₂}
use mathlib.Core.Bool.{Bool, true, false, not, ◌&&◌, ◌||◌, and-false, and-true}
use mathlib.Core.List.{List, [], ◌∷◌, ◌++◌}
use Prim.Native.Nat.{ℕ, zero, suc, ◌+◌, ◌≤◌, ◌<◌}
use native.Mathlib.Numerals.{add-one}
use native.Mathlib.Nat.{zero-add, add-zero}
use native.Mathlib.Omega.{arith}
use native.Mathlib.Decide.{dec_lt}
use lib.Dec.{ltb, leb}
use borrow.Author.Tests.{ltb-true, lt-ltb, le-ltb, le-leb, lt-leb}
use Rattle.std.specs.List.{fold}
use lib.ListN.{length, get_or, drop, drop_of_length-le}
use lib.Seq.{drop-cons}
use Rattle.lists.specs.Lists.{every, all_below, all_to, list_from, join_from}
use Rattle.lists.proofs.Questions.{both_yes, and_yes}

-- ---- the loop: its invariant is that the rest passes just if the whole does

module _ (f : ℕ → Bool) (xs : List ℕ) (i : ℕ) where
  pub every_again : i < length xs → f (get_or xs i 0) ≡ true → every f (drop i xs) ≡ every f xs → every f (drop (i + 1) xs) ≡ every f xs
  unfolding every
  every_again h e inv = rw add-one (rw (drop-cons xs i 0 h, e) at inv)

  pub every_stop : i < length xs → f (get_or xs i 0) ≡ false → every f (drop i xs) ≡ every f xs → false ≡ every f xs
  unfolding every
  every_stop h e inv = rw (drop-cons xs i 0 h, e) at inv

  pub every-end : length xs ≤ i → every f (drop i xs) ≡ every f xs → true ≡ every f xs
  unfolding every
  every-end h inv = rw (drop_of_length-le xs h) at inv

-- whether none of the numbers that are all looked at fails
pub none_found : {A : Type 0} (f g : A → Bool) → ((x : A) → not (g x) ≡ f x) → (found : Bool) (xs : List A)
    → not (fold (λ (b : Bool) (x : A). b || g x) found xs) ≡ (not found && every f xs)
unfolding every
none_found f g same found [] = sym (and-true (not found))
none_found f g same true (x ∷ xs) = none_found f g same true xs
none_found f g same false (x ∷ xs) = none_found f g same (g x) xs ∙ ap (λ (b : Bool). b && every f xs) (same x)

pub not_leb : (m x : ℕ) → not (leb m x) ≡ ltb x m
not_leb m x = go (dec_lt x m)
  where
    go : Dec (x < m) → not (leb m x) ≡ ltb x m
    go (yes l) = rw (lt-ltb x m l, lt-leb m x l)
    go (no l) = rw (le-ltb x m (omega (arith, l)), le-leb m x (omega (arith, l)))

-- ---- one member

pub every-at : {A : Type 0} (f : A → Bool) (xs : List A) (i : ℕ) (d : A) → every f xs ≡ true → i < length xs → f (get_or xs i d) ≡ true
unfolding every
every-at f [] i d e h = absurd (omega arith)
every-at f (x ∷ xs) zero d e h = (both_yes (f x) (every f xs) e).0
every-at f (x ∷ xs) (suc i) d e h = every-at f xs i d (both_yes (f x) (every f xs) e).1 (omega arith)

-- a number at any place of a list whose numbers are below m
pub below_at : (m : ℕ) (xs : List ℕ) (i : ℕ) → 0 < m → all_below m xs ≡ true → get_or xs i 0 < m
unfolding all_below every
below_at m [] i pos e = pos
below_at m (x ∷ xs) zero pos e = ltb-true x m (both_yes (ltb x m) (all_below m xs) e).0
below_at m (x ∷ xs) (suc i) pos e = below_at m xs i pos (both_yes (ltb x m) (all_below m xs) e).1

-- below m is below every larger number
pub below_more : (m n : ℕ) → m ≤ n → (xs : List ℕ) → all_below m xs ≡ true → all_below n xs ≡ true
unfolding all_below every
below_more m n h [] e = refl
below_more m n h (x ∷ xs) e =
    let b = both_yes (ltb x m) (all_below m xs) e in
    and_yes (ltb x n) (all_below n xs) (lt-ltb x n (omega (arith, ltb-true x m b.0))) (below_more m n h xs b.1)

-- ---- lists that are made of others

pub every_append : {A : Type 0} (t : A → Bool) (xs ys : List A) → every t xs ≡ true → every t ys ≡ true → every t (xs ++ ys) ≡ true
unfolding every
every_append t [] ys h k = k
every_append t (x ∷ xs) ys h k =
    let b = both_yes (t x) (every t xs) h in
    rw b.0 (every_append t xs ys b.1 k)

pub every-list_from : {A : Type 0} (t : A → Bool) (i n : ℕ) (f : ℕ → A) → ((x : ℕ) → x < n → t (f (i + x)) ≡ true) → every t (list_from i n f) ≡ true
unfolding every list_from
every-list_from t i zero f h = refl
every-list_from t i (suc n) f h =
    rw (rw add-zero at (h 0 (omega arith)))
    (every-list_from t (suc i) n f (λ x l. let s : i + suc x ≡ suc i + x = omega arith in rw s at (h (suc x) (omega arith))))

pub every-list_to : {A : Type 0} (t : A → Bool) (n : ℕ) (f : ℕ → A) → ((x : ℕ) → x < n → t (f x) ≡ true) → every t (list_from 0 n f) ≡ true
every-list_to t n f h = every-list_from t 0 n f (λ x l. let s : 0 + x ≡ x = zero-add x in rw s (h x l))

pub every-join : {A : Type 0} (t : A → Bool) (i n : ℕ) (f : ℕ → List A) → ((x : ℕ) → x < n → every t (f (i + x)) ≡ true) → every t (join_from i n f) ≡ true
unfolding join_from every
every-join t i zero f h = refl
every-join t i (suc n) f h =
    every_append t (f i) _ (rw add-zero at (h 0 (omega arith)))
    (every-join t (suc i) n f (λ x l. let s : i + suc x ≡ suc i + x = omega arith in rw s at (h (suc x) (omega arith))))

-- ---- a test of every number below n

pub all_to-at : (n : ℕ) (f : ℕ → Bool) (i : ℕ) → all_to n f ≡ true → i < n → f i ≡ true
unfolding all_to
all_to-at zero f i e h = absurd (omega arith)
all_to-at (suc n) f i e h = go (dec_lt i n) (all_to-at n f i (both_yes (all_to n f) (f n) e).0)
  where
    go : Dec (i < n) → (i < n → f i ≡ true) → f i ≡ true
    go (yes p) ih = ih p
    go (no p) ih =
        let s : i ≡ n = omega arith in
        rw s (both_yes (all_to n f) (f n) e).1

pub all_to_yes : (n : ℕ) (f : ℕ → Bool) → ((i : ℕ) → i < n → f i ≡ true) → all_to n f ≡ true
unfolding all_to
all_to_yes zero f h = refl
all_to_yes (suc n) f h = rw (all_to_yes n f (λ i l. h i (omega arith))) (h n (omega arith))

pub all_to_no : (n : ℕ) (f : ℕ → Bool) (i : ℕ) → i < n → f i ≡ false → all_to n f ≡ false
unfolding all_to
all_to_no zero f i h e = absurd (omega arith)
all_to_no (suc n) f i h e = go (dec_lt i n) (λ l. all_to_no n f i l e)
  where
    go : Dec (i < n) → (i < n → all_to n f ≡ false) → (all_to n f && f n) ≡ false
    go (yes l) ih = rw (ih l)
    go (no l) ih =
        let s : n ≡ i = omega arith in
        rw (s, e) (and-false (all_to i f))

pub all_to-same : (n : ℕ) (f g : ℕ → Bool) → ((i : ℕ) → i < n → f i ≡ g i) → all_to n f ≡ all_to n g
unfolding all_to
all_to-same zero f g h = refl
all_to-same (suc n) f g h = ap₂ ◌&&◌ (all_to-same n f g (λ i l. h i (omega arith))) (h n (omega arith))

-- numbers below m at all places
pub all-below : (m : ℕ) (xs : List ℕ) → ((i : ℕ) → get_or xs i 0 < m) → all_below m xs ≡ true
unfolding all_below every
all-below m [] h = refl
all-below m (x ∷ xs) h = rw (lt-ltb x m (h 0)) (all-below m xs (λ i. h (suc i)))

-- each member, by its place
pub every-all : {A : Type 0} (f : A → Bool) (zs : List A) (d : A) → ((j : ℕ) → j < length zs → f (get_or zs j d) ≡ true) → every f zs ≡ true
unfolding every
every-all f [] d n = refl
every-all f (b ∷ bs) d n = rw (n 0 (omega arith)) (every-all f bs d (λ j l. n (suc j) (omega arith)))
