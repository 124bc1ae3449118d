-- How many entries of a plan are drawn.
use mathlib.Core.Path.{◌≡◌, refl, ap₂, ◌∙◌}
use mathlib.Core.Bool.{Bool, true, false, cond}
use mathlib.Core.List.{List, [], ◌∷◌, ◌++◌}
use Prim.Native.Nat.{ℕ, zero, suc, ◌+◌, ◌*◌, ◌≤◌}
use native.Mathlib.Nat.{le-div_iff_mul-le}
use native.Mathlib.Omega.{arith}
use lib.Dec.{eqb}
use Rattle.lists.specs.Answers.{bit}
use Rattle.lists.specs.Lists.{list_from, list_to, join_from, join_to}
use Rattle.field.specs.Field.{q}
use Rattle.settings.specs.Sets.{Scale, base}
use Rattle.settings.specs.Settings.{Params}
use Rattle.settings.specs.Sizes.{drawn_numbers}
use Rattle.rounding.specs.Rounds.{gap}
use Rattle.book.specs.Book.{Entry, plan, vectors, triples, group, coefficient, is_drawn, drawn_in}
use Rattle.book.specs.Book.Entry.{place, left, right, product, group_place}
use Rattle.book.specs.Theorems.{Sizes}
use Rattle.book.proofs.Places.{plan_length}

-- ---- how many numbers are drawn

drawn_in_append : (es fs : List Entry) → drawn_in (es ++ fs) ≡ drawn_in es + drawn_in fs
unfolding drawn_in
drawn_in_append [] fs = omega arith
drawn_in_append (e ∷ es) fs = omega (arith, drawn_in_append es fs)

drawn_in_list : (i n : ℕ) (f : ℕ → Entry) → ((x : ℕ) → is_drawn (f x) ≡ false) → drawn_in (list_from i n f) ≡ 0
unfolding drawn_in list_from bit
drawn_in_list i zero f h = refl
drawn_in_list i (suc n) f h = rw (h i) (omega (arith, drawn_in_list (suc i) n f h))

drawn_in-join : (m i n : ℕ) (f : ℕ → List Entry) → ((x : ℕ) → drawn_in (f x) ≡ m) → drawn_in (join_from i n f) ≡ n * m
unfolding drawn_in join_from
drawn_in-join m i zero f h = omega arith
drawn_in-join m i (suc n) f h = omega (arith, drawn_in_append (f i) (join_from (suc i) n f), h i, drawn_in-join m (suc i) n f h)

drawn_in-vectors : (p : Scale) (c : ℕ) → drawn_in (vectors p c) ≡ 0
drawn_in-vectors p c = omega (arith, drawn_in-join 0 0 5 (λ (i : ℕ). list_to (base p i) (place c i)) (λ i. drawn_in_list 0 (base p i) (place c i) (λ x. refl)))

drawn_in-triples : (c : ℕ) → drawn_in (triples c) ≡ 16
unfolding drawn_in bit
drawn_in-triples c = drawn_in-join 2 0 8 (λ (t : ℕ). left c t ∷ right c t ∷ product c t ∷ []) (λ t. refl)

drawn_in-group : (k g : ℕ) → drawn_in (group k g) ≡ 1
unfolding drawn_in bit
drawn_in-group k g = omega (arith, drawn_in_list 0 (k + 2) (group_place g) (λ x. refl))

-- a choice of two lists
drawn_in-cond : (b : Bool) (es fs : List Entry) (x y : ℕ) → drawn_in es ≡ x → drawn_in fs ≡ y → drawn_in (cond b es fs) ≡ cond b x y
drawn_in-cond true es fs x y h k = h
drawn_in-cond false es fs x y h k = k

module _ (p : Params) where
  drawn_in-coefficient : (c : ℕ) → drawn_in (coefficient p c) ≡ 17 + cond (eqb p.kind 0) 1 0
  unfolding drawn_in bit
  drawn_in-coefficient c =
      omega (
        arith,
        drawn_in_append (vectors p.scale c ++ triples c) (cond (eqb p.kind 0) (group 5 c) []),
        drawn_in_append (vectors p.scale c) (triples c),
        drawn_in-vectors p.scale c,
        drawn_in-triples c,
        drawn_in-cond (eqb p.kind 0) (group 5 c) [] 1 0 (drawn_in-group 5 c) refl,
      )

  pub drawn_is : drawn_in (plan p) ≡ drawn_numbers p
  unfolding plan drawn_in
  drawn_is =
      drawn_in_append (join_to p.n (coefficient p)) (cond (eqb p.kind 0) [] (group p.n 0))
      ∙ ap₂ (λ a b. a + b) (drawn_in-join (17 + cond (eqb p.kind 0) 1 0) 0 p.n (coefficient p) drawn_in-coefficient)
      (drawn_in-cond (eqb p.kind 0) [] (group p.n 0) 0 1 refl (drawn_in-group p.n 0))
      ∙ by (eqb p.kind 0)
    where
      by : (b : Bool) → p.n * (17 + cond b 1 0) + cond b 0 1 ≡ 17 * p.n + cond b p.n 1
      by true = omega arith
      by false = omega arith

pub sizes : Sizes
sizes = record { plan_length = plan_length; drawn_is = drawn_is }

pub gap-some : (k : ℕ) → k ≤ 8 → 1 ≤ gap q k
gap-some k h = (le-div_iff_mul-le {k = k + 1} {x = 1} {y = q} (omega arith)).1 (omega arith)
