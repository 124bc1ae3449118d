-- A list with a run of its places replaced by an index function, and what stands where in it.
use mathlib.Core.Path.{◌≡◌, refl, sym, ap, ◌∙◌}
use mathlib.Core.List.{List, ◌∷◌, ◌++◌, []}
use Prim.Native.Nat.{ℕ, zero, suc, ◌+◌, ◌-◌, ◌≤◌, ◌<◌}
use native.Mathlib.Omega.{arith}
use native.Mathlib.Numerals.{add-one}
use lib.ListN.{length, get_or, set, drop, length-set, length-drop, take}
use Rattle.std.proofs.lemmas.List.{get_or-take, get_or-drop}
use native.Mathlib.Nat.{zero-add, add-zero, add-suc, add_assoc, suc-add}
use lib.Seq.{get_or-set_same, get_or-set_other, ext_get_or, drop-set-lt, set_comm, take_at, paste, paste-zero, paste-suc, length-take-le}
use native.Mathlib.Decide.{dec_lt}
use Rattle.lists.specs.Lists.{fill, list_to, in_front}
use Rattle.lists.proofs.Lists.{length-list_from, get_d_list_to, prefix_is, list_to_get_d}

-- a turn of a loop that stores f n at i + n
pub fill_none : (s : List ℕ) (i : ℕ) (f : ℕ → ℕ) → fill s i 0 f ≡ s
unfolding fill
fill_none s i f = refl

pub fill_more : (s : List ℕ) (i n : ℕ) (f : ℕ → ℕ) → fill s i (n + 1) f ≡ set (fill s i n f) (i + n) (f n)
unfolding fill
fill_more s i n f = rw add-one

pub length-fill : (s : List ℕ) (i n : ℕ) (f : ℕ → ℕ) → length (fill s i n f) ≡ length s
unfolding fill
length-fill s i zero f = refl
length-fill s i (suc n) f = length-set (fill s i n f) (i + n) (f n) ∙ length-fill s i n f

-- a place before the run, and one behind it, is as it was
pub fill-before : (s : List ℕ) (i n : ℕ) (f : ℕ → ℕ) (j : ℕ) → j < i → get_or (fill s i n f) j 0 ≡ get_or s j 0
unfolding fill
fill-before s i zero f j h = refl
fill-before s i (suc n) f j h = get_or-set_other (fill s i n f) (i + n) j (f n) 0 (omega arith) ∙ fill-before s i n f j h

pub fill-behind : (s : List ℕ) (i n : ℕ) (f : ℕ → ℕ) (j : ℕ) → i + n ≤ j → get_or (fill s i n f) j 0 ≡ get_or s j 0
unfolding fill
fill-behind s i zero f j h = refl
fill-behind s i (suc n) f j h = get_or-set_other (fill s i n f) (i + n) j (f n) 0 (omega arith) ∙ fill-behind s i n f j (omega arith)

-- place k of the run
pub fill-at : (s : List ℕ) (i n : ℕ) (f : ℕ → ℕ) (k : ℕ) → i + n ≤ length s → k < n → get_or (fill s i n f) (i + k) 0 ≡ f k
unfolding fill
fill-at s i zero f k r h = absurd (omega arith)
fill-at s i (suc n) f k r h = go (dec_lt k n) (λ p. fill-at s i n f k (omega arith) p)
  where
    go : Dec (k < n) → (k < n → get_or (fill s i n f) (i + k) 0 ≡ f k) → get_or (set (fill s i n f) (i + n) (f n)) (i + k) 0 ≡ f k
    go (yes p) ih = get_or-set_other (fill s i n f) (i + n) (i + k) (f n) 0 (omega arith) ∙ ih p
    go (no p) ih =
        let e : n ≡ k = omega arith in
        rw e (get_or-set_same (fill s i k f) (i + k) (f k) 0 (omega (arith, length-fill s i k f)))

-- a turn of a loop that stores f 0 last: one place in front of the run
pub fill_first : (s : List ℕ) (i n : ℕ) (f g : ℕ → ℕ) → ((k : ℕ) → k < n → g k ≡ f (suc k)) → set (fill s (suc i) n g) i (f 0) ≡ fill s i (suc n) f
unfolding fill
fill_first s i zero f g e = rw (add-zero i)
fill_first s i (suc n) f g e =
    set_comm (fill s (suc i) n g) (suc i + n) i (g n) (f 0) (omega arith)
    ∙ rw (fill_first s i n f g (λ k h. e k (omega arith)), e n (omega arith), suc-add i n, add-suc i n)

-- ---- a run from place 0, with no `0 +` before an index

pub front-more : (s : List ℕ) (n : ℕ) (f : ℕ → ℕ) → fill s 0 (n + 1) f ≡ set (fill s 0 n f) n (f n)
front-more s n f = fill_more s 0 n f ∙ ap (λ (k : ℕ). set (fill s 0 n f) k (f n)) (zero-add n)

pub front_at : (s : List ℕ) (n : ℕ) (f : ℕ → ℕ) (k : ℕ) → n ≤ length s → k < n → get_or (fill s 0 n f) k 0 ≡ f k
front_at s n f k r h = rw zero-add at (fill-at s 0 n f k (omega arith) h)

pub front-behind : (s : List ℕ) (n : ℕ) (f : ℕ → ℕ) (j : ℕ) → n ≤ j → get_or (fill s 0 n f) j 0 ≡ get_or s j 0
front-behind s n f j h = fill-behind s 0 n f j (omega arith)

-- ---- written in front: a list by its index function, and then what stood there

drop-fill : (s : List ℕ) (n m : ℕ) (f : ℕ → ℕ) → n ≤ m → drop m (fill s 0 n f) ≡ drop m s
unfolding fill
drop-fill s zero m f h = refl
drop-fill s (suc n) m f h = drop-set-lt m (fill s 0 n f) (0 + n) (f n) (omega arith) ∙ drop-fill s n m f (omega arith)

pub front-is : (s : List ℕ) (n : ℕ) (f : ℕ → ℕ) → n ≤ length s → fill s 0 n f ≡ in_front (list_to n f) s
front-is s n f h =
    let e : length (list_to n f) ≡ n = length-list_from 0 n f in
    sym (prefix_is (list_to n f) (fill s 0 n f) 0 (omega (arith, length-fill s 0 n f)) (λ x l. front_at s n f x h (omega arith) ∙ sym (get_d_list_to n f x 0 (omega arith))))
    ∙ ap (λ (r : List ℕ). list_to n f ++ r) (drop-fill s n (length (list_to n f)) f (omega arith))

-- a list written whole
pub whole_is : (s : List ℕ) (n : ℕ) (f : ℕ → ℕ) → length s ≡ n → fill s 0 n f ≡ list_to n f
whole_is s n f h =
    ext_get_or 0 _ _ (length-fill s 0 n f ∙ h ∙ sym (length-list_from 0 n f))
    (λ x l. let b : x < n = omega (arith, length-fill s 0 n f) in front_at s n f x (omega arith) b ∙ sym (get_d_list_to n f x 0 b))

-- two runs, one behind the other, are one
pub fill-join : (s : List ℕ) (i n m : ℕ) (f g : ℕ → ℕ) → ((k : ℕ) → k < m → g k ≡ f (n + k)) → fill (fill s i n f) (i + n) m g ≡ fill s i (n + m) f
unfolding fill
fill-join s i n zero f g e = rw (add-zero n)
fill-join s i n (suc m) f g e =
    rw (add-suc n m, fill-join s i n m f g (λ k h. e k (omega arith)), e m (omega arith), add_assoc i n m)

-- the same for slices that are written one after the other, with the places as the code has them
pub fill-next : (s s₁ s₂ : List ℕ) (a b n m l : ℕ) (f g : ℕ → ℕ) → s₁ ≡ fill s a n f → s₂ ≡ fill s₁ b m g → b ≡ a + n → n + m ≡ l
    → ((k : ℕ) → k < m → g k ≡ f (n + k)) → s₂ ≡ fill s a l f
fill-next s s₁ s₂ a b n m l f g e₁ e₂ p t h = e₂ ∙ rw (e₁, p, ← t) (fill-join s a n m f g h)

pub fill-same : (s : List ℕ) (i n : ℕ) (f g : ℕ → ℕ) → ((k : ℕ) → k < n → f k ≡ g k) → fill s i n f ≡ fill s i n g
unfolding fill
fill-same s i zero f g e = refl
fill-same s i (suc n) f g e = rw (fill-same s i n f g (λ k h. e k (omega arith)), e n (omega arith))

-- a run stored over a part of another
pub fill-over : (s : List ℕ) (i n a m : ℕ) (f g h : ℕ → ℕ) → i + n ≤ length s → a + m ≤ n → ((k : ℕ) → k < a → f k ≡ h k) → ((k : ℕ) → k < m → g k ≡ h (a + k))
    → ((k : ℕ) → a + m ≤ k → k < n → f k ≡ h k) → fill (fill s i n f) (i + a) m g ≡ fill s i n h
fill-over s i n a m f g h room part before over behind =
    ext_get_or 0 _ _ (simp length-fill) (λ j l. go j (dec_lt j i) (dec_lt j (i + a)) (dec_lt j (i + a + m)) (dec_lt j (i + n)))
  where
    t : List ℕ
    t = fill s i n f

    -- a place of the first run that is not stored over
    kept : (k : ℕ) → k < n → f k ≡ h k → get_or t (i + k) 0 ≡ get_or (fill s i n h) (i + k) 0
    kept k l e = fill-at s i n f k room l ∙ e ∙ sym (fill-at s i n h k room l)

    go : (j : ℕ) → Dec (j < i) → Dec (j < i + a) → Dec (j < i + a + m) → Dec (j < i + n) → get_or (fill t (i + a) m g) j 0 ≡ get_or (fill s i n h) j 0
    go j (yes b) d2 d3 d4 = fill-before t (i + a) m g j (omega arith) ∙ fill-before s i n f j b ∙ sym (fill-before s i n h j b)
    go j (no b) (yes c) d3 d4 =
        let e : i + (j - i) ≡ j = omega arith in
        fill-before t (i + a) m g j c ∙ rw e at (kept (j - i) (omega arith) (before (j - i) (omega arith)))
    go j (no b) (no c) (yes d) d4 =
        let e : i + a + (j - (i + a)) ≡ j = omega arith in
        let u : i + (a + (j - (i + a))) ≡ j = omega arith in
        rw e at (fill-at t (i + a) m g (j - (i + a)) (omega (arith, length-fill s i n f)) (omega arith))
        ∙ over (j - (i + a)) (omega arith)
        ∙ sym (rw u at (fill-at s i n h (a + (j - (i + a))) room (omega arith)))
    go j (no b) (no c) (no d) (yes l) =
        let e : i + (j - i) ≡ j = omega arith in
        fill-behind t (i + a) m g j (omega arith) ∙ rw e at (kept (j - i) (omega arith) (behind (j - i) (omega arith) (omega arith)))
    go j (no b) (no c) (no d) (no l) =
        fill-behind t (i + a) m g j (omega arith) ∙ fill-behind s i n f j (omega arith) ∙ sym (fill-behind s i n h j (omega arith))

-- a list copied from its first number on
pub from_start : (s t : List ℕ) (a n : ℕ) → fill s a n (λ (j : ℕ). get_or t (0 + j) 0) ≡ fill s a n (λ (j : ℕ). get_or t j 0)
from_start s t a n = fill-same s a n (λ (j : ℕ). get_or t (0 + j) 0) (λ (j : ℕ). get_or t j 0) (λ j l. ap (λ (k : ℕ). get_or t k 0) (zero-add j))

-- a loop that ends after all n
pub fill-count : (s t : List ℕ) (a n m : ℕ) (f : ℕ → ℕ) → t ≡ fill s a n f → n ≡ m → t ≡ fill s a m f
fill-count s t a n m f e h = e ∙ ap (λ (k : ℕ). fill s a k f) h

-- the first numbers of a list that is filled in front
pub take_filled : (l z : List ℕ) (n : ℕ) (f : ℕ → ℕ) → l ≡ fill z 0 n f → n ≤ length z → take n l ≡ list_to n f
take_filled l z n f e h = rw (e, front-is z n f h) (take_at (list_to n f) _ n (length-list_from 0 n f))

-- a run behind the first place
pub fill_tail : (x : ℕ) (s : List ℕ) (i n : ℕ) (f : ℕ → ℕ) → fill (x ∷ s) (suc i) n f ≡ x ∷ fill s i n f
unfolding fill
fill_tail x s i zero f = refl
fill_tail x s i (suc n) f = rw (fill_tail x s i n f, suc-add) refl

-- all places behind the first
pub behind_first : (x : ℕ) (s xs : List ℕ) → length s ≡ length xs → fill (x ∷ s) 1 (length xs) (λ (i : ℕ). get_or xs i 0) ≡ x ∷ xs
behind_first x s xs h = fill_tail x s 0 (length xs) _ ∙ ap (λ (r : List ℕ). x ∷ r) (whole_is s (length xs) _ h ∙ list_to_get_d xs)

-- numbers below m stay below m
pub set_below : (s : List ℕ) (i x m : ℕ) → x < m → ((j : ℕ) → get_or s j 0 < m) → (j : ℕ) → get_or (set s i x) j 0 < m
set_below [] i x m k h j = h j
set_below (y ∷ s) zero x m k h zero = k
set_below (y ∷ s) zero x m k h (suc j) = h (suc j)
set_below (y ∷ s) (suc i) x m k h zero = h 0
set_below (y ∷ s) (suc i) x m k h (suc j) = set_below s i x m k (λ j. h (suc j)) j

pub fill-below : (s : List ℕ) (i n : ℕ) (f : ℕ → ℕ) (m : ℕ) → ((j : ℕ) → get_or s j 0 < m) → ((j : ℕ) → f j < m) → (j : ℕ) → get_or (fill s i n f) j 0 < m
unfolding fill
fill-below s i zero f m h k = h
fill-below s i (suc n) f m h k = set_below (fill s i n f) (i + n) (f n) m (k n) (fill-below s i n f m h k)

-- a turn of the loop over the columns
pub stored : (s₀ s : List ℕ) (i n x : ℕ) (f : ℕ → ℕ) → s ≡ fill s₀ i n f → x ≡ f n → set s (i + n) x ≡ fill s₀ i (n + 1) f
stored s₀ s i n x f e h = rw (fill_more, e, h)

-- a list that is copied, by its index function
pub paste_fill : (to s : List ℕ) (at n : ℕ) → at + n ≤ length to → n ≤ length s → paste to at s n ≡ fill to at n (λ (j : ℕ). get_or s j 0)
unfolding fill
paste_fill to s at zero h l = sym (paste-zero to at s)
paste_fill to s at (suc n) h l =
    sym (paste-suc to at s n 0 (omega arith) (omega arith)) ∙ ap (λ (r : List ℕ). set r (at + n) (get_or s n 0)) (paste_fill to s at n (omega arith) (omega arith))

-- the same of n numbers of a list from place `first` on
pub paste_part : (to from : List ℕ) (at first n : ℕ) → at + n ≤ length to → first + n ≤ length from
    → paste to at (take n (drop first from)) (length (take n (drop first from))) ≡ fill to at n (λ (j : ℕ). get_or from (first + j) 0)
paste_part to from at first n h l =
    let part : List ℕ = take n (drop first from) in
    let m : length part ≡ n = length-take-le n (drop first from) (omega (arith, length-drop first from)) in
    ap (paste to at part) m
    ∙ paste_fill to part at n h (omega (arith, m))
    ∙ fill-same to at n (λ (j : ℕ). get_or part j 0) (λ (j : ℕ). get_or from (first + j) 0)
    (λ j k. get_or-take n (drop first from) j 0 k ∙ get_or-drop first from j 0)
