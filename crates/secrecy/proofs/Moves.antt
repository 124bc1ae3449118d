-- The arithmetic of the pairing, and what it asks of draws: openings hide their masks, values follow the drawn numbers.
use mathlib.Core.Path.{◌≡◌, refl, ap, ap₂, ◌∙◌}
use mathlib.Core.List.{List}
use mathlib.Core.Bool.{Bool, true, false, cond}
use Prim.Native.Nat.{ℕ, ◌+◌, ◌*◌, ◌-◌, ◌/◌, ◌%◌, ◌<◌}
use native.Mathlib.Nat.{mod-lt, div-lt_iff_lt-mul}
use native.Mathlib.Omega.{arith}
use lib.Dec.{eqb}
use lib.ListN.{length, get_or}
use Rattle.lists.specs.Answers.{bit}
use Rattle.lists.specs.Lists.{all_below}
use Rattle.lists.proofs.Lists.{list_to_cong}
use Rattle.field.specs.Field.{add, sub}
use Rattle.field.proofs.Congruence.{≈_lt}
use Rattle.field.proofs.Solve.{at, ◌⊕◌, ◌⊖◌, ◌⊗◌, red, solve}
use Rattle.field.proofs.Sums.{sum_cong}
use Rattle.rounding.specs.Digits.{digit}
use Rattle.book.specs.Book.{Entry, group_gap, entry_of, mask_at, triple_at, group_at, is_drawn, drawn, book_value, entry_value}
use Rattle.settings.specs.Sizes.{shared, draw_length, groups}
use Rattle.settings.specs.Settings.{Terms}
use Rattle.book.specs.Book.Entry.{mask, place, left, right, product, group_mask, group_place}
use Rattle.book.specs.Books.{in_order}
use Rattle.book.specs.Theorems.{At, at_place, at_product, at_group_place, Holds}
use Rattle.book.proofs.Places.{at_entry, holds-mask, holds-left, holds-right, holds_ρ}
use Rattle.steps.specs.Steps.{shift_of}
use Rattle.column.specs.Clear.{clear_factor, clear_checked, mask_of, masked_of}
use Rattle.secrecy.specs.Paired.{opened_of, triple_opening}

-- ---- the arithmetic modulo m

-- a goes from hiding u to hiding u', ρ from hiding z to hiding z'
abbrev pub moved_a : ℕ → ℕ → ℕ → ℕ → ℕ
moved_a m a u u' = add m a (sub m (sub m u' a) (sub m u a))

abbrev pub moved_ρ : ℕ → ℕ → ℕ → ℕ → ℕ
moved_ρ m ρ z z' = sub m ρ (sub m (add m ρ z') (add m ρ z))

module _ (m : ℕ) (pos : 0 < m) where
  pub r_back : (r x x' : ℕ) → r < m → add m (add m r (sub m x' x)) (sub m x x') ≡ r
  r_back r x x' h =
      ≈_lt (solve m pos (red (red (at r ⊕ red (at x' ⊖ at x)) ⊕ red (at x ⊖ at x'))) (at r) (omega arith)) (mod-lt _ pos) h

  pub r_opens : (r x x' k : ℕ) → sub m (x' + k) (add m r (sub m x' x)) ≡ sub m (x + k) r
  r_opens r x x' k = (solve m pos (at x' ⊕ at k ⊖ red (at r ⊕ red (at x' ⊖ at x))) (at x ⊕ at k ⊖ at r) (omega arith)).path

  pub a_back : (a u u' : ℕ) → a < m → moved_a m (moved_a m a u u') u' u ≡ a
  a_back a u u' h =
      let b = red (at a ⊕ red (red (at u' ⊖ at a) ⊖ red (at u ⊖ at a))) in
      ≈_lt (solve m pos (red (b ⊕ red (red (at u ⊖ b) ⊖ red (at u' ⊖ b)))) (at a) (omega arith)) (mod-lt _ pos) h

  pub a_opens : (a u u' : ℕ) → sub m u' (moved_a m a u u') ≡ sub m u a
  a_opens a u u' = (solve m pos (at u' ⊖ red (at a ⊕ red (red (at u' ⊖ at a) ⊖ red (at u ⊖ at a)))) (at u ⊖ at a) (omega arith)).path

  pub ρ_back : (ρ z z' : ℕ) → ρ < m → moved_ρ m (moved_ρ m ρ z z') z' z ≡ ρ
  ρ_back ρ z z' h =
      let b = red (at ρ ⊖ red (red (at ρ ⊕ at z') ⊖ red (at ρ ⊕ at z))) in
      ≈_lt (solve m pos (red (b ⊖ red (red (b ⊕ at z) ⊖ red (b ⊕ at z')))) (at ρ) (omega arith)) (mod-lt _ pos) h

  pub ρ_opens : (ρ z z' : ℕ) → add m (moved_ρ m ρ z z') z' ≡ add m ρ z
  ρ_opens ρ z z' = (solve m pos (red (at ρ ⊖ red (red (at ρ ⊕ at z') ⊖ red (at ρ ⊕ at z))) ⊕ at z') (at ρ ⊕ at z) (omega arith)).path

  pub phone-back : (h f v v' : ℕ) → h < m → add m (add m h (f * sub m v' v)) (f * sub m v v') ≡ h
  phone-back h f v v' l =
      ≈_lt (solve m pos (red (red (at h ⊕ at f ⊗ red (at v' ⊖ at v)) ⊕ at f ⊗ red (at v ⊖ at v'))) (at h) (omega arith)) (mod-lt _ pos) l

  pub server-same : (h f v v' : ℕ) → sub m (f * v') (add m h (f * sub m v' v)) ≡ sub m (f * v) h
  server-same h f v v' = (solve m pos (at f ⊗ at v' ⊖ red (at h ⊕ at f ⊗ red (at v' ⊖ at v))) (at f ⊗ at v ⊖ at h) (omega arith)).path

-- two lists in book order that agree place by place
pub in_order_lem : (count width : ℕ) (f f' : ℕ → ℕ → ℕ) → 0 < width → ((k c : ℕ) → k < count → c < width → f k c ≡ f' k c)
    → in_order count width f ≡ in_order count width f'
in_order_lem count width f f' pos h =
    list_to_cong (count * width) _ _ (λ x b. h (x / width) (x % width) ((div-lt_iff_lt-mul pos).1 b) (mod-lt x pos))

module _ (T : Terms) (width : ℕ) where
  -- ---- draws

  pub record Good (d : List ℕ) : Type 0 where
    pub size : length d ≡ draw_length T.params width
    pub below : all_below T.params.scale.modulus d ≡ true

  -- the same drawn numbers
  abbrev pub Same : List ℕ → List ℕ → Type 0
  Same d d' = (k : ℕ) → k < shared T.params → is_drawn (entry_of T.params k) ≡ true → drawn T.params width d k ≡ drawn T.params width d' k

  pub same_at : (d d' : List ℕ) → Same d d' → (k : ℕ) (e : Entry) → Holds T.params k e → is_drawn e ≡ true
      → drawn T.params width d k ≡ drawn T.params width d' k
  same_at d d' s k e h i = s k h.0 (ap is_drawn h.1 ∙ i)

  -- the same masks r
  abbrev pub SameMasks : List ℕ → List ℕ → Type 0
  SameMasks d d' = (c : ℕ) → c < T.params.n → drawn T.params width d (mask_at T.params c) ≡ drawn T.params width d' (mask_at T.params c)

  pub masks_same : (d d' : List ℕ) → Same d d' → SameMasks d d'
  masks_same d d' s c h = same_at d d' s (mask_at T.params c) (mask c) (holds-mask T.params c h) refl

  -- the values follow the drawn numbers
  pub value_same : (d d' : List ℕ) → Same d d' → (k : ℕ) → k < shared T.params → book_value T.params width d k ≡ book_value T.params width d' k
  unfolding book_value
  value_same d d' s k h = go (entry_of T.params k) refl (at_entry T.params k h)
    where
      go : (e : Entry) → entry_of T.params k ≡ e → At T.params k e → entry_value T.params width d k e ≡ entry_value T.params width d' k e
      go (mask c) i a = same_at d d' s k (mask c) (h, i) refl
      go (left c t) i a = same_at d d' s k (left c t) (h, i) refl
      go (right c t) i a = same_at d d' s k (right c t) (h, i) refl
      go (group_mask g) i a = same_at d d' s k (group_mask g) (h, i) refl
      go (place c i j) e (at_place hc hi hj f) =
          ap (λ (r : ℕ). bit (eqb j (digit T.params.scale r i))) (same_at d d' s (mask_at T.params c) (mask c) (holds-mask T.params c hc) refl)
      go (product c t) e (at_product hc ht f) =
          ap₂ (λ (a b : ℕ). a * b % T.params.scale.modulus)
          (same_at d d' s (triple_at T.params c t) (left c t) (holds-left T.params c t hc ht) refl)
          (same_at d d' s (triple_at T.params c t + 1) (right c t) (holds-right T.params c t hc ht) refl)
      go (group_place g j) e (at_group_place hg hj f) =
          ap (λ (r : ℕ). bit (eqb j (r / group_gap T.params))) (same_at d d' s (group_at T.params g) (group_mask g) (holds_ρ T.params g hg) refl)

  -- ---- what the openings hide: functions of the secret and the masks r

  -- u (part 0) or v (part 1) of triple t of coefficient c
  unfoldable pub factor_of : List ℕ → List ℕ → ℕ → ℕ → ℕ → ℕ
  factor_of x d c t part =
      clear_factor T (masked_of T width d x c) (mask_of T width d x c) (1 + t / 2) (t % 2) part

  -- g × n of zero check g
  unfoldable pub check_of : List ℕ → List ℕ → ℕ → ℕ
  check_of x d g = group_gap T.params * clear_checked T (masked_of T width d x) (mask_of T width d x) g

  pub factor-same : (x d d' : List ℕ) → SameMasks d d' → (c t part : ℕ) → c < T.params.n → factor_of x d c t part ≡ factor_of x d' c t part
  unfolding factor_of masked_of mask_of
  factor-same x d d' s c t part h = rw (s c h)

  cond_same : {a a' c c' : ℕ} (b : Bool) → (b ≡ true → a ≡ a') → c ≡ c' → cond b a c ≡ cond b a' c'
  cond_same true h e = h refl
  cond_same false h e = e

  pub check-same : (x d d' : List ℕ) → SameMasks d d' → (g : ℕ) → g < groups T.params → check_of x d g ≡ check_of x d' g
  unfolding check_of clear_checked masked_of mask_of
  check-same x d d' s g h =
      ap (λ (z : ℕ). group_gap T.params * z)
      (cond_same (eqb T.params.kind 0)
      (λ e. let l : g < T.params.n = rw e at h in rw (s g l))
      (ap (λ (z : ℕ). T.params.n - z) (sum_cong T.params.n _ _ (λ c l. rw (s c l)))))

  -- the openings of a secret: the mask r is taken away in round 1, a and b from the factors, ρ is added to the check
  pub record Opens (x d : List ℕ) : Type 0 where
    pub first : (c : ℕ) → c < T.params.n
        → opened_of T width d x 0 c ≡ sub T.params.scale.modulus (get_or x c 0 + shift_of T) (drawn T.params width d (mask_at T.params c))
    pub factor : (c t part : ℕ) → c < T.params.n → t < 8 → part < 2
        → opened_of T width d x (1 + t / 2) (triple_opening c t part)
        ≡ sub T.params.scale.modulus (factor_of x d c t part) (drawn T.params width d (triple_at T.params c t + part))
    pub check : (g : ℕ) → g < groups T.params
        → opened_of T width d x 5 g ≡ add T.params.scale.modulus (drawn T.params width d (group_at T.params g)) (check_of x d g)

  abbrev pub Shapes : List ℕ → Type 0
  Shapes x = (d : List ℕ) → Good d → Opens x d
