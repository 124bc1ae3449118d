-- Lists by an index function; lists joined of pieces: where a piece stands, and when a list is the join of its own pieces; the front of a
-- list.
use mathlib.Core.Path.{◌≡◌, refl, sym, ap, ap₂, ◌∙◌}
use mathlib.Core.List.{List, [], ◌∷◌, ◌++◌, map}
use Prim.Native.Nat.{ℕ, zero, suc, ◌+◌, ◌*◌, ◌-◌, ◌≤◌, ◌<◌, min}
use native.Mathlib.Nat.{zero-add, add-zero, add_assoc, mul-zero, mul-suc}
use native.Mathlib.Decide.{dec_lt}
use native.Mathlib.Omega.{arith}
use lib.ListN.{length, get_or, take, drop, take-append-drop, length-append, get_or-append, length-drop, drop_of_length-le, replicate}
use lib.Seq.{ext_get_or, get_or-append-add, get_or-drop, take_all, length-take-le}
use Rattle.lists.specs.Lists.{list_from, list_to, join_from, join_to}

-- ---- runs f i, .., f (i + n - 1)
pub length-list_from : {A : Type 0} (i n : ℕ) (f : ℕ → A) → length (list_from i n f) ≡ n
unfolding list_from
length-list_from i zero f = refl
length-list_from i (suc n) f = ap suc (length-list_from (suc i) n f)

pub get_d_list_from : {A : Type 0} (i n : ℕ) (f : ℕ → A) (x : ℕ) (d : A) → x < n → get_or (list_from i n f) x d ≡ f (i + x)
unfolding list_from
get_d_list_from i zero f x d h = absurd (omega arith)
get_d_list_from i (suc n) f zero d h = ap f (sym (add-zero i))
get_d_list_from i (suc n) f (suc x) d h = get_d_list_from (suc i) n f x d (omega arith) ∙ ap f (omega arith)

-- the same from 0, with no `0 +`
pub get_d_list_to : {A : Type 0} (n : ℕ) (f : ℕ → A) (x : ℕ) (d : A) → x < n → get_or (list_to n f) x d ≡ f x
get_d_list_to n f x d h = get_d_list_from 0 n f x d h ∙ ap f (zero-add x)

-- the same run from another place on
pub list_from-moved : {A : Type 0} (i j n : ℕ) (f g : ℕ → A) → ((x : ℕ) → x < n → f (i + x) ≡ g (j + x)) → list_from i n f ≡ list_from j n g
unfolding list_from
list_from-moved i j zero f g h = refl
list_from-moved i j (suc n) f g h =
    ap₂ ◌∷◌ (rw (add-zero, add-zero) at (h 0 (omega arith)))
    (list_from-moved (suc i) (suc j) n f g (λ x l.
    let a : suc i + x ≡ i + suc x = omega arith in
    let b : suc j + x ≡ j + suc x = omega arith in
    rw (a, b) (h (suc x) (omega arith))))

pub list_from_cong : {A : Type 0} (i n : ℕ) (f g : ℕ → A) → ((x : ℕ) → x < n → f (i + x) ≡ g (i + x)) → list_from i n f ≡ list_from i n g
list_from_cong i n f g e = list_from-moved i i n f g e

pub list_to_cong : {A : Type 0} (n : ℕ) (f g : ℕ → A) → ((x : ℕ) → x < n → f x ≡ g x) → list_to n f ≡ list_to n g
list_to_cong n f g e = list_from_cong 0 n f g (λ x h. let s : 0 + x ≡ x = zero-add x in rw s (e x h))

-- a list is the list of its own numbers
pub list_to_get_d : (xs : List ℕ) → list_to (length xs) (λ (k : ℕ). get_or xs k 0) ≡ xs
list_to_get_d xs =
    ext_get_or 0 _ _ (length-list_from 0 (length xs) _)
    (λ x l. get_d_list_to (length xs) (λ (k : ℕ). get_or xs k 0) x 0 (omega (arith, length-list_from 0 (length xs) (λ (k : ℕ). get_or xs k 0))))

-- ---- joined pieces

-- where piece k stands
abbrev pub ahead : {A : Type 0} → ℕ → ℕ → (ℕ → List A) → ℕ
ahead i k f = length (join_from i k f)

pub ahead_more : {A : Type 0} (i k : ℕ) (f : ℕ → List A) → ahead i (suc k) f ≡ ahead i k f + length (f (i + k))
unfolding join_from
ahead_more i zero f = length-append (f i) [] ∙ omega (arith, ap (λ k. length (f k)) (add-zero i))
ahead_more i (suc k) f =
    let s : i + suc k ≡ suc i + k = omega arith in
    let h : ahead (suc i) (suc k) f ≡ ahead (suc i) k f + length (f (suc i + k)) = ahead_more (suc i) k f in
    rw s (length-append (f i) _ ∙ omega (arith, h, length-append (f i) (join_from (suc i) k f)))

-- pieces of one length
pub ahead_fixed : {A : Type 0} (m k : ℕ) (f : ℕ → List A) → ((x : ℕ) → length (f x) ≡ m) → ahead 0 k f ≡ k * m
unfolding join_from
ahead_fixed m zero f h = omega arith
ahead_fixed m (suc k) f h =
    let z : 0 + k ≡ k = zero-add k in
    omega (arith, ahead_fixed m k f h, rw z at (ahead_more 0 k f), h k)

pub get_d_join : {A : Type 0} (i n : ℕ) (f : ℕ → List A) (d : A) (k x : ℕ) → k < n → x < length (f (i + k)) → get_or (join_from i n f) (ahead i k f + x) d ≡ get_or (f (i + k)) x d
unfolding join_from
get_d_join i zero f d k x h l = absurd (omega arith)
get_d_join i (suc n) f d zero x h l =
    rw (add-zero, zero-add) (get_or-append (f i) _ d x (rw add-zero at l))
get_d_join i (suc n) f d (suc k) x h l =
    let s : i + suc k ≡ suc i + k = omega arith in
    rw (s, length-append (f i) (join_from (suc i) k f), add_assoc (length (f i)) (ahead (suc i) k f) x)
    (get_or-append-add (f i) (join_from (suc i) n f) (ahead (suc i) k f + x) d ∙ get_d_join (suc i) n f d k x (omega arith) (rw s at l))

-- the same from piece 0, with no `0 +` (with f a variable `rw` finds it; with f written out it does not)
pub join-at : {A : Type 0} (n : ℕ) (f : ℕ → List A) (d : A) (k x : ℕ) → k < n → x < length (f k) → get_or (join_to n f) (ahead 0 k f + x) d ≡ get_or (f k) x d
join-at n f d k x h l = let z : 0 + k ≡ k = zero-add k in rw z at (get_d_join 0 n f d k x h (rw z l))

-- a list that begins with a
pub prefix_is : {A : Type 0} (a l : List A) (d : A) → length a ≤ length l → ((x : ℕ) → x < length a → get_or l x d ≡ get_or a x d) → a ++ drop (length a) l ≡ l
prefix_is [] l d e h = refl
prefix_is (y ∷ a) [] d e h = absurd (omega arith)
prefix_is (y ∷ a) (z ∷ l) d e h = ap₂ ◌∷◌ (sym (h 0 (omega arith))) (prefix_is a l d (omega arith) (λ x b. h (suc x) (omega arith)))

-- a list that holds the pieces where they stand is their join
pub join_is : {A : Type 0} (i n : ℕ) (f : ℕ → List A) (d : A) (l : List A) → length l ≡ ahead i n f
    → ((k x : ℕ) → k < n → x < length (f (i + k)) → get_or l (ahead i k f + x) d ≡ get_or (f (i + k)) x d) → join_from i n f ≡ l
unfolding join_from
join_is i zero f d [] e h = refl
join_is i zero f d (y ∷ l) e h = absurd (omega arith)
join_is i (suc n) f d l e h =
    let el : length l ≡ length (f i) + ahead (suc i) n f = e ∙ length-append (f i) (join_from (suc i) n f) in
    let ih : join_from (suc i) n f ≡ drop (length (f i)) l =
    join_is (suc i) n f d (drop (length (f i)) l) (length-drop (length (f i)) l ∙ omega arith)
    (λ k x b c. let s : i + suc k ≡ suc i + k = omega arith in
    get_or-drop (length (f i)) l (ahead (suc i) k f + x) d
    ∙ (rw (s, length-append (f i) (join_from (suc i) k f), add_assoc (length (f i)) (ahead (suc i) k f) x) at (h (suc k) x (omega arith) (rw s c)))) in
    rw ih (prefix_is (f i) l d (omega arith) (λ x b. rw (add-zero, zero-add) at (h 0 x (omega arith) (rw add-zero b))))

-- ---- runs split, joined and mapped

pub list_from-split : {A : Type 0} (f : ℕ → A) (i a b : ℕ) → list_from i (a + b) f ≡ list_from i a f ++ list_from (i + a) b f
unfolding list_from
list_from-split f i zero b =
    let e : 0 + b ≡ b = omega arith in
    let d : i + 0 ≡ i = omega arith in
    rw (e, d)
list_from-split f i (suc a) b =
    let e : suc a + b ≡ suc (a + b) = omega arith in
    let d : i + suc a ≡ suc i + a = omega arith in
    rw (e, d) (ap (λ l. f i ∷ l) (list_from-split f (suc i) a b))

-- runs of w members one behind the other
pub runs-join : {A : Type 0} (w : ℕ) (f : ℕ → A) (g : ℕ → List A) → ((o : ℕ) → g o ≡ list_from (w * o) w f) → (i n : ℕ) → list_from (w * i) (w * n) f ≡ join_from i n g
unfolding join_from list_from
runs-join w f g h i zero = rw (mul-zero w)
runs-join w f g h i (suc n) =
    let e : w * suc n ≡ w + w * n = omega (arith, mul-suc w n) in
    rw (e, list_from-split f (w * i) w (w * n), h i, ← mul-suc w i, runs-join w f g h (suc i) n)

pub map-list_from : (f g : ℕ → ℕ) (i n : ℕ) → map f (list_from i n g) ≡ list_from i n (λ (k : ℕ). f (g k))
unfolding list_from
map-list_from f g i zero = refl
map-list_from f g i (suc n) = ap (λ (l : List ℕ). f (g i) ∷ l) (map-list_from f g (suc i) n)

-- a list with f applied to each number
pub map_is : (f : ℕ → ℕ) (xs : List ℕ) → list_to (length xs) (λ (k : ℕ). f (get_or xs k 0)) ≡ map f xs
map_is f xs = sym (map-list_from f (λ (k : ℕ). get_or xs k 0) 0 (length xs)) ∙ ap (map f) (list_to_get_d xs)

pub join_cong : {A : Type 0} (i n : ℕ) (f g : ℕ → List A) → ((x : ℕ) → x < n → f (i + x) ≡ g (i + x)) → join_from i n f ≡ join_from i n g
unfolding join_from
join_cong i zero f g e = refl
join_cong i (suc n) f g e =
    ap₂ ◌++◌ (rw add-zero at (e 0 (omega arith)))
    (join_cong (suc i) n f g (λ x l. let s : i + suc x ≡ suc i + x = omega arith in rw s at (e (suc x) (omega arith))))

-- ---- lists one behind the other, and lists of zeros

-- a member of the second of two lists
pub in-second : (k : ℕ) (xs ys : List ℕ) (i : ℕ) → length xs ≡ k → k ≤ i → get_or ys (i - k) 0 ≡ get_or (xs ++ ys) i 0
in-second k xs ys i e h =
    let s : length xs + (i - k) ≡ i = omega arith in
    sym (rw s at (get_or-append-add xs ys (i - k) 0))

-- a list read back from the front of a longer one
pub front_list : (n : ℕ) (xs ys : List ℕ) → length xs ≡ n → list_to n (λ (j : ℕ). get_or (xs ++ ys) j 0) ≡ xs
front_list n xs ys e =
    rw (← e)
    (list_to_cong (length xs) (λ (j : ℕ). get_or (xs ++ ys) j 0) (λ (j : ℕ). get_or xs j 0) (λ j l. get_or-append xs ys 0 j l) ∙ list_to_get_d xs)

-- the front of a list, number by number
pub front-taken : (n : ℕ) (xs : List ℕ) → n ≤ length xs → take n xs ≡ list_to n (λ (j : ℕ). get_or xs j 0)
front-taken n xs h =
    sym (front_list n (take n xs) (drop n xs) (length-take-le n xs h)) ∙ ap (λ (l : List ℕ). list_to n (λ (j : ℕ). get_or l j 0)) (take-append-drop n xs)

-- zeros
pub front-zeros : (n m : ℕ) → n ≤ m → take {A = ℕ} n (replicate m 0) ≡ replicate n 0
front-zeros zero m h = refl
front-zeros (suc n) zero h = absurd (omega arith)
front-zeros (suc n) (suc m) h = ap (λ (l : List ℕ). 0 ∷ l) (front-zeros n m (omega arith))

pub get_d_zeros : (n c : ℕ) → ◌≡◌ {A = ℕ} (get_or (replicate n 0) c 0) 0
get_d_zeros zero c = refl
get_d_zeros (suc n) zero = refl
get_d_zeros (suc n) (suc c) = get_d_zeros n c

-- two lists in the places of one, each with zeros for the other, add up to it
pub padded : (xs ys : List ℕ) (n c : ℕ) → get_or (xs ++ replicate n 0) c 0 + get_or (replicate (length xs) 0 ++ ys) c 0 ≡ get_or (xs ++ ys) c 0
padded [] ys n c = rw (get_d_zeros n c) (zero-add (get_or ys c 0))
padded (x ∷ xs) ys n zero = add-zero x
padded (x ∷ xs) ys n (suc c) = padded xs ys n c

-- ---- the front of a list: so many, or all; and what is behind it
pub take_min : (m n : ℕ) (l : List ℕ) → n ≡ min m (length l) → take n l ≡ take m l
take_min m n l e = go (dec_lt m (length l))
  where
    go : Dec (m < length l) → take n l ≡ take m l
    go (yes h) = let f : n ≡ m = omega arith in rw f
    go (no h) = take_all n l (omega arith) ∙ sym (take_all m l (omega arith))

pub drop_min : (m n : ℕ) (l : List ℕ) → n ≡ min m (length l) → drop n l ≡ drop m l
drop_min m n l e = go (dec_lt m (length l))
  where
    go : Dec (m < length l) → drop n l ≡ drop m l
    go (yes h) = let f : n ≡ m = omega arith in rw f
    go (no h) = drop_of_length-le l {i = n} (omega arith) ∙ sym (drop_of_length-le l {i = m} (omega arith))
