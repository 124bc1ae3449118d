-- What stands where in the plan of a book: each entry's place, both ways.
use mathlib.Core.Path.{◌≡◌, refl, sym, ap, ap₂, ◌∙◌, subst}
use mathlib.Core.List.{List, [], ◌∷◌, ◌++◌}
use mathlib.Core.Bool.{Bool, true, false, cond}
use Prim.Native.Nat.{ℕ, zero, suc, ◌+◌, ◌*◌, ◌<◌}
use native.Mathlib.Nat.{mul-le-mul_right, zero-add, add-zero}
use native.Mathlib.Omega.{arith}
use lib.Dec.{eqb}
use lib.ListN.{length, get_or, length-append, get_or-append}
use lib.Seq.{get_or-append-add}
use Rattle.lists.specs.Lists.{list_from, list_to, join_from, join_to}
use Rattle.lists.proofs.Lists.{length-list_from, get_d_list_from, get_d_list_to, ahead, ahead_more, join-at, ahead_fixed}
use Rattle.field.specs.Sums.{sum_to}
use Rattle.field.proofs.Sums.{sum-within}
use Rattle.settings.specs.Sets.{Scale, base}
use Rattle.settings.specs.Settings.{Params}
use Rattle.settings.specs.Sizes.{stride, shared, groups}
use Rattle.book.specs.Book.{Entry, plan, entry_of, group_k, vectors, triples, group, coefficient, mask_at, vector_at, triple_at, group_at}
use Rattle.book.specs.Book.Entry.{mask, place, left, right, product, group_mask, group_place}
use Rattle.book.specs.Theorems.{At, at_mask, at_place, at_left, at_right, at_product, at_group, at_group_place, Holds, Places}

-- ---- lists of entries that stand from place k on

module _ (P : ℕ → Entry → Type 0) where
  abbrev pub Stands : ℕ → List Entry → Type 0
  Stands k es = (x : ℕ) → x < length es → P (k + x) (get_or es x (mask 0))

  pub stands-none : (k : ℕ) → Stands k []
  stands-none k x h = absurd (omega arith)

  pub stands-more : (k : ℕ) (e : Entry) (es : List Entry) → P k e → Stands (suc k) es → Stands k (e ∷ es)
  stands-more k e es h t zero b = rw add-zero h
  stands-more k e es h t (suc x) b = let s : k + suc x ≡ suc k + x = omega arith in rw s (t x (omega arith))

  pub stands_append : (k : ℕ) (es fs : List Entry) → Stands k es → Stands (k + length es) fs → Stands k (es ++ fs)
  stands_append k [] fs h t = rw add-zero at t
  stands_append k (e ∷ es) fs h t =
      stands-more k e (es ++ fs) (rw add-zero at (h 0 (omega arith)))
      (stands_append (suc k) es fs
      (λ x b. let s : k + suc x ≡ suc k + x = omega arith in rw s at (h (suc x) (omega arith)))
      (let s : k + suc (length es) ≡ suc k + length es = omega arith in rw s at t))

  pub stands_list : (k i n : ℕ) (f : ℕ → Entry) → ((x : ℕ) → x < n → P (k + x) (f (i + x))) → Stands k (list_from i n f)
  stands_list k i n f h x b =
      let l : x < n = omega (arith, length-list_from i n f) in
      rw (get_d_list_from i n f x (mask 0) l) (h x l)

  pub stands-join : (k i n : ℕ) (f : ℕ → List Entry) → ((x : ℕ) → x < n → Stands (k + ahead i x f) (f (i + x))) → Stands k (join_from i n f)
  unfolding join_from
  stands-join k i zero f h = stands-none k
  stands-join k i (suc n) f h =
      stands_append k (f i) (join_from (suc i) n f) (rw (add-zero, add-zero) at (h 0 (omega arith)))
      (stands-join (k + length (f i)) (suc i) n f (λ x b.
      let s : i + suc x ≡ suc i + x = omega arith in
      let a : k + ahead i (suc x) f ≡ k + length (f i) + ahead (suc i) x f = omega (arith, length-append (f i) (join_from (suc i) x f)) in
      rw (s, a) at (h (suc x) (omega arith))))

  -- from 0, with no `0 +`
  pub stands-list_to : (k n : ℕ) (f : ℕ → Entry) → ((x : ℕ) → x < n → P (k + x) (f x)) → Stands k (list_to n f)
  stands-list_to k n f h = stands_list k 0 n f (λ x b. let z : 0 + x ≡ x = zero-add x in rw z (h x b))

  pub stands-join_to : (k n : ℕ) (f : ℕ → List Entry) → ((x : ℕ) → x < n → Stands (k + ahead 0 x f) (f x)) → Stands k (join_to n f)
  stands-join_to k n f h = stands-join k 0 n f (λ x b. let z : 0 + x ≡ x = zero-add x in rw z (h x b))

-- ---- lengths

module _ (p : Scale) where
  pub ahead_vectors : (c k : ℕ) → ahead 0 k (λ (i : ℕ). list_to (base p i) (place c i)) ≡ sum_to k (base p)
  unfolding join_from sum_to
  ahead_vectors c zero = refl
  ahead_vectors c (suc k) =
      let z : 0 + k ≡ k = zero-add k in
      omega (arith, ahead_vectors c k, rw z at (ahead_more 0 k (λ (i : ℕ). list_to (base p i) (place c i))), length-list_from 0 (base p k) (place c k))

  abbrev pub digits : ℕ
  digits = sum_to 5 (base p)

  pub length-vectors : (c : ℕ) → length (vectors p c) ≡ digits
  length-vectors c = ahead_vectors c 5

pub ahead_triples : (c k : ℕ) → ahead 0 k (λ (t : ℕ). left c t ∷ right c t ∷ product c t ∷ []) ≡ k * 3
ahead_triples c k = ahead_fixed 3 k (λ (t : ℕ). left c t ∷ right c t ∷ product c t ∷ []) (λ x. refl)

pub length-group : (k g : ℕ) → length (group k g) ≡ k + 3
length-group k g = omega (arith, length-list_from 0 (k + 2) (group_place g))

module _ (p : Params) where
  length_tail : (c : ℕ) → length (cond (eqb p.kind 0) (group 5 c) []) ≡ cond (eqb p.kind 0) 8 0
  length_tail c = go (eqb p.kind 0)
    where
      go : (b : Bool) → length (cond b (group 5 c) []) ≡ cond b 8 0
      go true = length-group 5 c
      go false = refl

  pub length-coefficient : (c : ℕ) → length (coefficient p c) ≡ stride p
  unfolding stride
  length-coefficient c =
      omega (
        arith,
        length-append (vectors p.scale c ++ triples c) (cond (eqb p.kind 0) (group 5 c) []),
        length-append (vectors p.scale c) (triples c),
        length-vectors p.scale c,
        ahead_triples c 8,
        length_tail c,
      )

  pub ahead_coefficients : (k : ℕ) → ahead 0 k (coefficient p) ≡ mask_at p k
  ahead_coefficients k = ahead_fixed (stride p) k (coefficient p) length-coefficient

-- ---- each entry at its own place

module _ (p : Params) where
  abbrev Here : ℕ → Entry → Type 0
  Here k e = At p k e

  abbrev Held : ℕ → Entry → Type 0
  Held k e = Holds p k e

  -- as many entries as the book's size says
  pub plan_length : length (plan p) ≡ shared p
  unfolding plan shared
  plan_length =
      length-append (join_to p.n (coefficient p)) (cond (eqb p.kind 0) [] (group p.n 0))
      ∙ ap₂ (λ a b. a + b) (ahead_coefficients p p.n) (by (eqb p.kind 0))
    where
      by : (b : Bool) → length (cond b [] (group p.n 0)) ≡ cond b 0 (p.n + 3)
      by true = refl
      by false = length-group p.n 0

  at-vectors : (c : ℕ) → c < p.n → Stands Here (mask_at p c + 1) (vectors p.scale c)
  unfolding vector_at
  at-vectors c h =
      stands-join_to Here (mask_at p c + 1) 5 (λ (i : ℕ). list_to (base p.scale i) (place c i)) (λ i b.
      stands-list_to Here _ (base p.scale i) (place c i) (λ j l.
      at_place h b l (omega (arith, ahead_vectors p.scale c i))))

  at-triples : (c : ℕ) → c < p.n → Stands Here (mask_at p c + 1 + digits p.scale) (triples c)
  unfolding triple_at
  at-triples c h =
      stands-join_to Here (mask_at p c + 1 + digits p.scale) 8 (λ (t : ℕ). left c t ∷ right c t ∷ product c t ∷ []) (λ t b.
      let a : ahead 0 t (λ (t : ℕ). left c t ∷ right c t ∷ product c t ∷ []) ≡ t * 3 = ahead_triples c t in
      stands-more Here _ (left c t) (right c t ∷ product c t ∷ []) (at_left h b (omega arith))
      (stands-more Here _ (right c t) (product c t ∷ []) (at_right h b (omega arith))
      (stands-more Here _ (product c t) [] (at_product h b (omega arith)) (stands-none Here _))))

  at-groups : (k g : ℕ) → k ≡ group_k p → g < groups p → Stands Here (group_at p g) (group k g)
  at-groups k g e h =
      stands-more Here _ (group_mask g) (list_to (k + 2) (group_place g)) (at_group h refl)
      (stands-list_to Here _ (k + 2) (group_place g) (λ j l. at_group_place h (rw e at l) (omega arith)))

  at-coefficient : (c : ℕ) → c < p.n → Stands Here (mask_at p c) (coefficient p c)
  unfolding triple_at group_at
  at-coefficient c h =
      let s : suc (mask_at p c) ≡ mask_at p c + 1 = omega arith in
      let v : length (vectors p.scale c) ≡ digits p.scale = length-vectors p.scale c in
      let l : suc (mask_at p c) + length (vectors p.scale c ++ triples c) ≡ mask_at p c + 1 + digits p.scale + 3 * 8 =
      omega (arith, length-append (vectors p.scale c) (triples c), ahead_triples c 8) in
      stands-more Here (mask_at p c) (mask c) (vectors p.scale c ++ triples c ++ cond (eqb p.kind 0) (group 5 c) []) (at_mask h refl)
      (stands_append Here (suc (mask_at p c)) (vectors p.scale c ++ triples c) (cond (eqb p.kind 0) (group 5 c) [])
      (stands_append Here (suc (mask_at p c)) (vectors p.scale c) (triples c)
      (subst (λ k. Stands Here k (vectors p.scale c)) (sym s) (at-vectors c h))
      (subst (λ k. Stands Here k (triples c)) (sym (ap₂ (λ a b. a + b) s v)) (at-triples c h)))
      (subst (λ k. Stands Here k (cond (eqb p.kind 0) (group 5 c) [])) (sym l) (go (eqb p.kind 0) refl)))
    where
      go : (b : Bool) → eqb p.kind 0 ≡ b → Stands Here (mask_at p c + 1 + digits p.scale + 3 * 8) (cond b (group 5 c) [])
      go true e = subst (λ (k : ℕ). Stands Here k (group 5 c)) (rw e) (at-groups 5 c (rw e) (rw e h))
      go false e = stands-none Here _

  pub at-plan : Stands Here 0 (plan p)
  unfolding plan group_at
  at-plan =
      stands_append Here 0 (join_to p.n (coefficient p)) (cond (eqb p.kind 0) [] (group p.n 0))
      (stands-join_to Here 0 p.n (coefficient p) (λ c b.
      subst (λ k. Stands Here k (coefficient p c)) (sym (zero-add _ ∙ ahead_coefficients p c)) (at-coefficient c b)))
      (subst (λ k. Stands Here k (cond (eqb p.kind 0) [] (group p.n 0))) (sym (zero-add _ ∙ ahead_coefficients p p.n)) (go (eqb p.kind 0) refl))
    where
      go : (b : Bool) → eqb p.kind 0 ≡ b → Stands Here (mask_at p p.n) (cond b [] (group p.n 0))
      go true e = stands-none Here _
      go false e = subst (λ (k : ℕ). Stands Here k (group p.n 0)) (rw e) (at-groups p.n 0 (rw e) (rw e (omega arith)))

  -- WHAT STANDS AT A PLACE knows its place
  pub at_entry : (k : ℕ) → k < shared p → Here k (entry_of p k)
  at_entry k h = let z : 0 + k ≡ k = zero-add k in rw z at (at-plan k (rw plan_length h))

  -- ---- and the other way: what stands at the places that are drawn

  in-coefficient : (c x : ℕ) → c < p.n → x < stride p → (mask_at p c + x < shared p) × (entry_of p (mask_at p c + x) ≡ get_or (coefficient p c) x (mask 0))
  unfolding plan
  in-coefficient c x h b =
      let l : x < length (coefficient p c) = rw (length-coefficient p c) b in
      let a : ahead 0 c (coefficient p) ≡ mask_at p c = ahead_coefficients p c in
      let m : mask_at p c + x < length (join_to p.n (coefficient p)) = rw (ahead_coefficients p p.n) (omega (arith, mul-le-mul_right (stride p) h)) in (
        omega (arith, plan_length, length-append (join_to p.n (coefficient p)) (cond (eqb p.kind 0) [] (group p.n 0))),
        get_or-append (join_to p.n (coefficient p)) _ (mask 0) (mask_at p c + x) m
            ∙ subst (λ k. get_or (join_to p.n (coefficient p)) (k + x) (mask 0) ≡ get_or (coefficient p c) x (mask 0)) a (join-at p.n (coefficient p) (mask 0) c x h l),
      )

  -- the three parts of a coefficient
  of_vectors : (c i j : ℕ) → i < 5 → j < base p.scale i → get_or (coefficient p c) (suc (sum_to i (base p.scale) + j)) (mask 0) ≡ place c i j
  of_vectors c i j h b =
      let a : ahead 0 i (λ (i : ℕ). list_to (base p.scale i) (place c i)) ≡ sum_to i (base p.scale) = ahead_vectors p.scale c i in
      let m : sum_to i (base p.scale) + j < length (vectors p.scale c) = rw (length-vectors p.scale c) (omega (arith, sum-within (base p.scale) 5 i h)) in
      get_or-append (vectors p.scale c ++ triples c) _ (mask 0) (sum_to i (base p.scale) + j) (omega (arith, length-append (vectors p.scale c) (triples c)))
      ∙ get_or-append (vectors p.scale c) (triples c) (mask 0) (sum_to i (base p.scale) + j) m
      ∙ subst (λ k. get_or (vectors p.scale c) (k + j) (mask 0) ≡ get_or (list_to (base p.scale i) (place c i)) j (mask 0)) a
      (join-at 5 (λ (i : ℕ). list_to (base p.scale i) (place c i)) (mask 0) i j h (rw (length-list_from 0 (base p.scale i) (place c i)) b))
      ∙ get_d_list_to (base p.scale i) (place c i) j (mask 0) b

  of_triples : (c t x : ℕ) → t < 8 → x < 3 → get_or (coefficient p c) (suc (digits p.scale + (3 * t + x))) (mask 0) ≡ get_or (left c t ∷ right c t ∷ product c t ∷ []) x (mask 0)
  of_triples c t x h b =
      let v : length (vectors p.scale c) ≡ digits p.scale = length-vectors p.scale c in
      let l : length (triples c) ≡ 8 * 3 = ahead_triples c 8 in
      let a : ahead 0 t (λ (t : ℕ). left c t ∷ right c t ∷ product c t ∷ []) ≡ 3 * t = omega (arith, ahead_triples c t) in
      get_or-append (vectors p.scale c ++ triples c) _ (mask 0) (digits p.scale + (3 * t + x)) (omega (arith, length-append (vectors p.scale c) (triples c)))
      ∙ subst (λ k. get_or (vectors p.scale c ++ triples c) (k + (3 * t + x)) (mask 0) ≡ get_or (triples c) (3 * t + x) (mask 0)) v
      (get_or-append-add (vectors p.scale c) (triples c) (3 * t + x) (mask 0))
      ∙ subst (λ k. get_or (triples c) (k + x) (mask 0) ≡ get_or (left c t ∷ right c t ∷ product c t ∷ []) x (mask 0)) a
      (join-at 8 (λ (t : ℕ). left c t ∷ right c t ∷ product c t ∷ []) (mask 0) t x h (omega arith))

  of_tail : (c x : ℕ) → get_or (coefficient p c) (suc (digits p.scale + 24 + x)) (mask 0) ≡ get_or (cond (eqb p.kind 0) (group 5 c) []) x (mask 0)
  of_tail c x =
      let e : length (vectors p.scale c ++ triples c) ≡ digits p.scale + 24 = omega (arith, length-append (vectors p.scale c) (triples c), length-vectors p.scale c, ahead_triples c 8) in
      subst (λ k. get_or (vectors p.scale c ++ triples c ++ cond (eqb p.kind 0) (group 5 c) []) (k + x) (mask 0) ≡ get_or (cond (eqb p.kind 0) (group 5 c) []) x (mask 0)) e
      (get_or-append-add (vectors p.scale c ++ triples c) _ x (mask 0))

  holds_at : (c x k : ℕ) (e : Entry) → c < p.n → x < stride p → mask_at p c + x ≡ k → get_or (coefficient p c) x (mask 0) ≡ e → Held k e
  holds_at c x k e h b i f = let r = in-coefficient c x h b in subst (λ k. Held k e) i (r.0, r.1 ∙ f)

  pub holds-mask : (c : ℕ) → c < p.n → Held (mask_at p c) (mask c)
  unfolding stride
  holds-mask c h = holds_at c 0 _ _ h (omega arith) (add-zero _) refl

  pub holds-left : (c t : ℕ) → c < p.n → t < 8 → Held (triple_at p c t) (left c t)
  unfolding stride triple_at
  holds-left c t h b = holds_at c (suc (digits p.scale + (3 * t + 0))) _ _ h (omega arith) (omega arith) (of_triples c t 0 b (omega arith))

  pub holds-right : (c t : ℕ) → c < p.n → t < 8 → Held (triple_at p c t + 1) (right c t)
  unfolding stride triple_at
  holds-right c t h b = holds_at c (suc (digits p.scale + (3 * t + 1))) _ _ h (omega arith) (omega arith) (of_triples c t 1 b (omega arith))

  pub holds-product : (c t : ℕ) → c < p.n → t < 8 → Held (triple_at p c t + 2) (product c t)
  unfolding stride triple_at
  holds-product c t h b = holds_at c (suc (digits p.scale + (3 * t + 2))) _ _ h (omega arith) (omega arith) (of_triples c t 2 b (omega arith))

  -- groups: x = 0 the mask, x = 1 + j the vector
  pub holds-group : (g x : ℕ) → g < groups p → x < group_k p + 3 → Held (group_at p g + x) (get_or (group (group_k p) g) x (mask 0))
  unfolding group_at plan triple_at stride
  holds-group g x h b = go (eqb p.kind 0) refl h b
    where
      go : (b : Bool) → eqb p.kind 0 ≡ b → g < cond b p.n 1 → x < cond b 5 p.n + 3 → Held (cond b (triple_at p g 8) (mask_at p p.n) + x) (get_or (group (cond b 5 p.n) g) x (mask 0))
      go true e h l =
          holds_at g (suc (digits p.scale + 24 + x)) _ _ h (rw e (omega arith)) (omega arith)
          (of_tail g x ∙ ap (λ b. get_or (cond b (group 5 g) []) x (mask 0)) e)
      go false e h l =
          let z : g ≡ 0 = omega arith in
          let a : ahead 0 p.n (coefficient p) ≡ mask_at p p.n = ahead_coefficients p p.n in
          let w : cond (eqb p.kind 0) [] (group p.n 0) ≡ group p.n 0 = ap (λ b. cond b [] (group p.n 0)) e in
          subst (λ g. Held (mask_at p p.n + x) (get_or (group p.n g) x (mask 0))) (sym z) (
            omega (arith, plan_length, length-append (join_to p.n (coefficient p)) (cond (eqb p.kind 0) [] (group p.n 0)), ap length w, length-group p.n 0),
            subst (λ k. get_or (join_to p.n (coefficient p) ++ cond (eqb p.kind 0) [] (group p.n 0)) (k + x) (mask 0) ≡ get_or (cond (eqb p.kind 0) [] (group p.n 0)) x (mask 0)) a
                (get_or-append-add (join_to p.n (coefficient p)) _ x (mask 0))
                ∙ ap (λ es. get_or es x (mask 0)) w,
          )

  pub holds-place : (c i j : ℕ) → c < p.n → i < 5 → j < base p.scale i → Held (vector_at p c i + j) (place c i j)
  unfolding stride vector_at
  holds-place c i j h l b =
      holds_at c (suc (sum_to i (base p.scale) + j)) _ _ h (omega (arith, sum-within (base p.scale) 5 i l)) (omega arith) (of_vectors c i j l b)

  pub holds_ρ : (g : ℕ) → g < groups p → Held (group_at p g) (group_mask g)
  holds_ρ g h = rw add-zero at (holds-group g 0 h (omega arith))

  pub holds-group_place : (g j : ℕ) → g < groups p → j < group_k p + 2 → Held (group_at p g + 1 + j) (group_place g j)
  holds-group_place g j h b =
      let s : group_at p g + suc j ≡ group_at p g + 1 + j = omega arith in
      let r = holds-group g (suc j) h (omega arith) in
      subst (λ k. Held k (group_place g j)) s (r.0, r.1 ∙ get_d_list_to (group_k p + 2) (group_place g) j (mask 0) b)

  pub places : Places p
  places =
      record {
        every = at_entry;
        of_mask = holds-mask;
        of_vector = holds-place;
        of_left = holds-left;
        of_right = holds-right;
        of_product = holds-product;
        of_group = holds_ρ;
        of_group_place = holds-group_place;
      }
