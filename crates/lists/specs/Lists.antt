-- Words for lists: tests of every member, lists by an index function, and lists that are written into.
use Rattle.std.specs.Prelude.{ℕ, zero, suc, ◌+◌, ◌*◌, Bool, true, cond, ◌&&◌, List, [], ◌∷◌, ◌++◌, eqb, ltb, length, set, drop}

-- does f say yes to each member?
unfoldable pub every : {A : Type 0} → (A → Bool) → List A → Bool
every f [] = true
every f (x ∷ xs) = f x && every f xs

-- is each member below m?
unfoldable pub all_below : ℕ → List ℕ → Bool
all_below m xs = every (λ (x : ℕ). ltb x m) xs

-- does f say yes to each of 0 .. n - 1?
unfoldable pub all_to : ℕ → (ℕ → Bool) → Bool
all_to zero f = true
all_to (suc n) f = all_to n f && f n

-- f i, .., f (i + n - 1)
unfoldable pub list_from : {A : Type 0} → ℕ → ℕ → (ℕ → A) → List A
list_from i zero f = []
list_from i (suc n) f = f i ∷ list_from (suc i) n f

-- f 0, .., f (n - 1)
abbrev pub list_to : {A : Type 0} → ℕ → (ℕ → A) → List A
list_to n f = list_from 0 n f

-- the lists f i, .., f (i + n - 1), one behind the other
unfoldable pub join_from : {A : Type 0} → ℕ → ℕ → (ℕ → List A) → List A
join_from i zero f = []
join_from i (suc n) f = f i ++ join_from (suc i) n f

abbrev pub join_to : {A : Type 0} → ℕ → (ℕ → List A) → List A
join_to n f = join_from 0 n f

-- s, with f 0 .. f (n - 1) at the places i .. i + n - 1
unfoldable pub fill : List ℕ → ℕ → ℕ → (ℕ → ℕ) → List ℕ
fill s i zero f = s
fill s i (suc n) f = set (fill s i n f) (i + n) (f n)

-- s, with f 0 .. f (n - 1) at the places i, i + step, i + 2 × step ..
unfoldable pub fill_by : ℕ → List ℕ → ℕ → ℕ → (ℕ → ℕ) → List ℕ
fill_by step s i zero f = s
fill_by step s i (suc n) f = set (fill_by step s i n f) (i + step * n) (f n)

-- "Longer outputs change only in front"
abbrev pub in_front : List ℕ → List ℕ → List ℕ
in_front xs out = xs ++ drop (length xs) out

-- lists with a member put in front of the first; a first one is begun where there is none
unfoldable pub to_first : ℕ → List (List ℕ) → List (List ℕ)
to_first x [] = (x ∷ []) ∷ []
to_first x (l ∷ ls) = (x ∷ l) ∷ ls

-- how many members stand before the first b; all, where there is none
unfoldable pub length_before : ℕ → List ℕ → ℕ
length_before b [] = 0
length_before b (x ∷ xs) = cond (eqb x b) 0 (suc (length_before b xs))
