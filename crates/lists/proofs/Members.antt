-- Laws of Each, Among and Different over lists that are mapped, appended and joined, and of counting.
use Prim.Native.Nat.{ℕ, zero, suc, ◌+◌, ◌≤◌, ◌<◌}
use mathlib.Core.Path.{◌≡◌, refl, ap}
use mathlib.Core.Logic.{◌≢◌, inl, inr}
use mathlib.Core.Bool.{Bool, true, false}
use mathlib.Core.List.{List, [], ◌∷◌, ◌++◌, map}
use native.Mathlib.Decide.{dec_lt}
use native.Mathlib.Omega.{arith}
use Rattle.lists.specs.Answers.{bit}
use Rattle.lists.specs.Lists.{join_from}
use Rattle.lists.specs.Members.{Each, Among, Different, count}

-- ---- Every member

module _ {A : Type 0} (P : A → Type 0) where
  pub each_any : ((x : A) → P x) → (xs : List A) → Each P xs
  unfolding Each
  each_any h [] = tt
  each_any h (x ∷ xs) = (h x, each_any h xs)

  pub each_more : (Q : A → Type 0) → ((x : A) → P x → Q x) → (xs : List A) → Each P xs → Each Q xs
  unfolding Each
  each_more Q h [] e = tt
  each_more Q h (x ∷ xs) e = (h x e.0, each_more Q h xs e.1)

  pub each_append : (xs ys : List A) → Each P xs → Each P ys → Each P (xs ++ ys)
  unfolding Each
  each_append [] ys e f = f
  each_append (x ∷ xs) ys e f = (e.0, each_append xs ys e.1 f)

  pub each_join : (i n : ℕ) (f : ℕ → List A) → ((x : ℕ) → i ≤ x → x < i + n → Each P (f x)) → Each P (join_from i n f)
  unfolding Each join_from
  each_join i zero f h = tt
  each_join i (suc n) f h =
      each_append (f i) (join_from (suc i) n f) (h i (omega arith) (omega arith))
      (each_join (suc i) n f (λ x l m. h x (omega arith) (omega arith)))

  pub each_map : {B : Type 0} (g : B → A) (xs : List B) → Each (λ x. P (g x)) xs → Each P (map g xs)
  unfolding Each
  each_map g [] e = tt
  each_map g (x ∷ xs) e = (e.0, each_map g xs e.1)

-- ---- Different members

pub different_append : {A : Type 0} (xs ys : List A) → Different xs → Different ys → Each (λ x. Each (λ y. x ≢ y) ys) xs → Different (xs ++ ys)
unfolding Each Different
different_append [] ys d e c = e
different_append (x ∷ xs) ys d e c = (each_append (λ y. x ≢ y) xs ys d.0 c.0, different_append xs ys d.1 e c.1)

-- ---- Members

pub among-left : {A : Type 0} (x : A) (xs ys : List A) → Among x xs → Among x (xs ++ ys)
unfolding Among
among-left x [] ys h = absurd h
among-left x (y ∷ xs) ys (inl e) = inl e
among-left x (y ∷ xs) ys (inr h) = inr (among-left x xs ys h)

pub among-right : {A : Type 0} (x : A) (xs ys : List A) → Among x ys → Among x (xs ++ ys)
unfolding Among
among-right x [] ys h = h
among-right x (y ∷ xs) ys h = inr (among-right x xs ys h)

pub among-map : {A B : Type 0} (g : A → B) (x : A) (xs : List A) → Among x xs → Among (g x) (map g xs)
unfolding Among
among-map g x [] h = absurd h
among-map g x (y ∷ xs) (inl e) = inl (ap g e)
among-map g x (y ∷ xs) (inr h) = inr (among-map g x xs h)

pub among-join : {A : Type 0} (x : A) (i n : ℕ) (f : ℕ → List A) (j : ℕ) → i ≤ j → j < i + n → Among x (f j) → Among x (join_from i n f)
unfolding join_from
among-join x i zero f j l m h = absurd (omega arith)
among-join x i (suc n) f j l m h = go (dec_lt i j) (λ b. among-join x (suc i) n f j b (omega arith) h)
  where
    go : Dec (i < j) → (i < j → Among x (join_from (suc i) n f)) → Among x (f i ++ join_from (suc i) n f)
    go (yes b) ih = among-right x (f i) (join_from (suc i) n f) (ih b)
    go (no b) ih =
        let e : j ≡ i = omega arith in
        among-left x (f i) (join_from (suc i) n f) (rw e at h)

-- ---- Counting

-- what is not true is false
pub refuted : (b : Bool) → (b ≡ true → ⊥) → b ≡ false
refuted true h = absurd (h refl)
refuted false h = refl

module _ {A : Type 0} (test : A → Bool) where
  pub none_pass : (xs : List A) → Each (λ x. test x ≡ false) xs → count test xs ≡ 0
  unfolding Each count bit
  none_pass [] e = refl
  none_pass (x ∷ xs) e = rw e.0 (omega (arith, none_pass xs e.1))

  -- of different members with a property, of which at most one passes
  pub one_passes : (P : A → Type 0) → ((a b : A) → P a → P b → test a ≡ true → test b ≡ true → a ≡ b)
      → (xs : List A) → Each P xs → Different xs → count test xs ≤ 1
  unfolding Each Different count bit
  one_passes P same [] e d = omega arith
  one_passes P same (x ∷ xs) e d = go (test x) refl (one_passes P same xs e.1 d.1)
    where
      others : test x ≡ true → (ys : List A) → Each P ys → Each (λ y. x ≢ y) ys → Each (λ y. test y ≡ false) ys
      others t [] c u = tt
      others t (y ∷ ys) c u = (refuted (test y) (λ p. u.0 (same x y e.0 c.0 t p)), others t ys c.1 u.1)

      go : (b : Bool) → test x ≡ b → count test xs ≤ 1 → bit b + count test xs ≤ 1
      go true t ih = omega (arith, none_pass xs (others t xs e.1 d.0))
      go false t ih = omega arith

  pub some-passes : (x : A) → test x ≡ true → (xs : List A) → Among x xs → 1 ≤ count test xs
  unfolding Among count bit
  some-passes x t [] h = absurd h
  some-passes x t (y ∷ xs) (inl e) = rw (← e, t) (omega arith)
  some-passes x t (y ∷ xs) (inr h) = omega (arith, some-passes x t xs h)
