-- The list of all choices: its length, that each is a choice, that none is missing and none there twice; and what it counts.
use Prim.Native.Nat.{ℕ, zero, suc, ◌+◌, ◌-◌, ◌*◌, ◌^◌, ◌<◌}
use mathlib.Core.Path.{◌≡◌, refl, sym, ap, ap₂, ◌∙◌}
use mathlib.Core.Logic.{◌≢◌, inl}
use mathlib.Core.Bool.{Bool, true, false, true≢false}
use mathlib.Core.List.{List, [], ◌∷◌, map}
use native.Mathlib.Nat.{pow-succ', pow-zero}
use native.Mathlib.Omega.{arith}
use lib.Dec.{leb, ltb}
use lib.ListN.{length, get_or, length-append, length-map}
use borrow.Author.Tests.{lt-ltb, le-leb, ltb-true, leb-true}
use Rattle.lists.specs.Lists.{every, join_from}
use Rattle.lists.specs.Members.{Each, Among, Different, count}
use Rattle.lists.proofs.Every.{every-at}
use Rattle.lists.proofs.Members.{each_any, each_more, each_join, each_map, different_append, among-map, among-join, none_pass, one_passes, some-passes}
use Rattle.lists.proofs.Questions.{and_yes, both_yes}
use Rattle.field.specs.Field.{q}
use Rattle.settings.specs.Questions.{key_ok, keys_ok}
use Rattle.forgery.specs.Choices.{Choice, key_at, keys_up_to, choices, AtMostOne, None, AllChoices}

-- ---- One key

pub key-range : (key : ℕ) → key_ok key ≡ true → (0 < key) × (key < q)
key-range key e =
    let b = both_yes (leb 1 key) (ltb key q) e in
    (leb-true 1 key b.0, ltb-true key q b.1)

key_ok_lem : (i : ℕ) → i < q - 1 → key_ok (key_at i) ≡ true
key_ok_lem i l = and_yes _ _ (le-leb 1 (suc i) (omega arith)) (lt-ltb (suc i) q (omega arith))

-- the keys of a choice are below q
pub key_below : (k : ℕ) (keys : List ℕ) → Choice k keys → (key : ℕ) → key < k → get_or keys key 0 < q
unfolding keys_ok
key_below k keys c key l = (key-range (get_or keys key 0) (every-at key_ok keys key 0 c.range (omega (arith, c.size)))).1

-- ---- Lists of keys from 1 to m

-- those of one first key
abbrev row : List (List ℕ) → ℕ → List (List ℕ)
row rest i = map (λ (keys : List ℕ). key_at i ∷ keys) rest

length_rows : (rest : List (List ℕ)) (i n : ℕ) → length (join_from i n (row rest)) ≡ n * length rest
unfolding join_from
length_rows rest i zero = omega arith
length_rows rest i (suc n) =
    length-append (row rest i) (join_from (suc i) n (row rest))
    ∙ ap₂ ◌+◌ (length-map rest (λ (keys : List ℕ). key_at i ∷ keys)) (length_rows rest (suc i) n)
    ∙ omega arith

length-keys : (m k : ℕ) → length (keys_up_to m k) ≡ m ^ k
unfolding keys_up_to
length-keys m zero = sym (pow-zero m)
length-keys m (suc k) = length_rows (keys_up_to m k) 0 m ∙ ap (λ (x : ℕ). m * x) (length-keys m k) ∙ sym (pow-succ' m k)

each_choice : (m : ℕ) → ((i : ℕ) → i < m → key_ok (key_at i) ≡ true) → (k : ℕ) → Each (Choice k) (keys_up_to m k)
unfolding keys_up_to Each keys_ok every
each_choice m ok zero = (record { size = refl; range = refl }, tt)
each_choice m ok (suc k) =
    each_join (Choice (suc k)) 0 m (row (keys_up_to m k)) (λ x l h.
    each_map (Choice (suc k)) (λ (keys : List ℕ). key_at x ∷ keys) (keys_up_to m k)
    (each_more (Choice k) (λ (keys : List ℕ). Choice (suc k) (key_at x ∷ keys))
    (λ keys c. record { size = ap suc c.size; range = and_yes (key_ok (key_at x)) (every key_ok keys) (ok x (omega arith)) c.range })
    (keys_up_to m k) (each_choice m ok k)))

among-keys : (m : ℕ) → ((key : ℕ) → key_ok key ≡ true → (0 < key) × (key < suc m)) → (k : ℕ) (keys : List ℕ) → Choice k keys → Among keys (keys_up_to m k)
unfolding keys_up_to Among keys_ok every
among-keys m range zero [] c = inl refl
among-keys m range zero (x ∷ keys) c = absurd (omega (arith, c.size))
among-keys m range (suc k) [] c = absurd (omega (arith, c.size))
among-keys m range (suc k) (zero ∷ keys) c = absurd (omega (arith, range zero (both_yes (key_ok zero) (every key_ok keys) c.range).0))
among-keys m range (suc k) (suc i ∷ keys) c =
    let b = both_yes (key_ok (suc i)) (every key_ok keys) c.range in
    among-join (suc i ∷ keys) 0 m (row (keys_up_to m k)) i (omega arith) (omega (arith, range (suc i) b.0))
    (among-map (λ (keys : List ℕ). suc i ∷ keys) keys (keys_up_to m k)
    (among-keys m range k keys (record { size = omega (arith, c.size); range = b.1 })))

-- ---- No list is there twice

abbrev first : List ℕ → ℕ
first keys = get_or keys 0 0

row_first : (rest : List (List ℕ)) (i : ℕ) → Each (λ keys. first keys ≡ suc i) (row rest i)
row_first rest i =
    each_map (λ keys. first keys ≡ suc i) (λ (keys : List ℕ). suc i ∷ keys) rest (each_any (λ (keys : List ℕ). suc i ≡ suc i) (λ keys. refl) rest)

row_different : (rest : List (List ℕ)) (i : ℕ) → Different rest → Different (row rest i)
unfolding Different Each
row_different [] i d = tt
row_different (x ∷ xs) i d = (
  each_map (λ y. (suc i ∷ x) ≢ y) (λ (keys : List ℕ). suc i ∷ keys) xs
      (each_more (λ y. x ≢ y) (λ y. (suc i ∷ x) ≢ (suc i ∷ y)) (λ y n e. n cc) xs d.0),
  row_different xs i d.1,
)

rows_different : (rest : List (List ℕ)) (i n : ℕ) → Different rest → Different (join_from i n (row rest))
unfolding join_from Different
rows_different rest i zero d = tt
rows_different rest i (suc n) d =
    different_append (row rest i) (join_from (suc i) n (row rest)) (row_different rest i d) (rows_different rest (suc i) n d)
    (each_more (λ keys. first keys ≡ suc i) (λ x. Each (λ y. x ≢ y) (join_from (suc i) n (row rest))) (λ x e.
    each_more (λ keys. suc i < first keys) (λ y. x ≢ y) (λ y l p. apart x y e l p) (join_from (suc i) n (row rest)) later)
    (row rest i) (row_first rest i))
  where
    apart : (x y : List ℕ) → first x ≡ suc i → suc i < first y → x ≡ y → ⊥
    apart x y e l p =
        let s : first x ≡ first y = ap first p in
        omega arith

    later : Each (λ keys. suc i < first keys) (join_from (suc i) n (row rest))
    later =
        each_join (λ keys. suc i < first keys) (suc i) n (row rest) (λ x l h.
        each_more (λ keys. first keys ≡ suc x) (λ keys. suc i < first keys) (λ keys e. omega arith) (row rest x) (row_first rest x))

different_keys : (m k : ℕ) → Different (keys_up_to m k)
unfolding keys_up_to Different Each
different_keys m zero = (tt, tt)
different_keys m (suc k) = rows_different (keys_up_to m k) 0 m (different_keys m k)

-- ---- All choices

pub all-choices : (k : ℕ) → AllChoices k
all-choices k =
    record {
      size = length-keys (q - 1) k;
      no_more = each_choice (q - 1) key_ok_lem k;
      no_less = among-keys (q - 1) key-range k;
      once = different_keys (q - 1) k;
    }

module _ (k : ℕ) (test : List ℕ → Bool) where
  pub at_most_one : ((a b : List ℕ) → Choice k a → Choice k b → test a ≡ true → test b ≡ true → a ≡ b) → AtMostOne k test
  at_most_one same =
      record { same = same; counted = one_passes test (Choice k) same (choices k) (all-choices k).no_more (all-choices k).once }

  pub none : ((keys : List ℕ) → Choice k keys → test keys ≡ false) → None k test
  none fails =
      record {
        fails = fails;
        counted = none_pass test (choices k) (each_more (Choice k) (λ keys. test keys ≡ false) fails (choices k) (all-choices k).no_more);
      }

  -- none is at most one
  pub none-most : None k test → AtMostOne k test
  none-most n =
      record { same = λ a b ca cb ha hb. absurd (true≢false (sym ha ∙ n.fails a ca)); counted = omega (arith, n.counted) }

  pub one : AtMostOne k test → (keys : List ℕ) → Choice k keys → test keys ≡ true → count test (choices k) ≡ 1
  one most keys c t =
      omega (arith, most.counted, some-passes test keys t (choices k) ((all-choices k).no_less keys c))
