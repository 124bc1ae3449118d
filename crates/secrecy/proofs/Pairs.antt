-- What the pairing does to the drawn numbers: the opened numbers stay, and moving back gives the draw again.
use mathlib.Core.Path.{◌≡◌, refl, sym, ap, ◌∙◌}
use mathlib.Core.List.{List}
use mathlib.Core.Bool.{true, true≢false}
use Prim.Native.Nat.{ℕ, zero, suc, ◌+◌, ◌/◌, ◌<◌}
use native.Mathlib.Nat.{add-zero, mod-lt}
use native.Mathlib.Omega.{arith}
use lib.ListN.{get_or}
use Rattle.lists.proofs.Every.{below_at}
use Rattle.field.specs.Field.{add, sub}
use Rattle.book.specs.Book.{Entry, entry_of, mask_at, triple_at, group_at, is_drawn, drawn, phone_number}
use Rattle.settings.specs.Sizes.{shared, groups}
use Rattle.settings.specs.Settings.{Terms}
use Rattle.book.specs.Book.Entry.{mask, place, left, right, product, group_mask, group_place}
use Rattle.book.specs.Theorems.{At, at_mask, at_left, at_right, at_group, Holds}
use Rattle.book.proofs.Places.{at_entry, holds-mask, holds-left, holds-right, holds_ρ}
use Rattle.steps.specs.Steps.{shift_of}
use Rattle.secrecy.specs.Paired.{draw_from, opened_of, triple_opening, moved_mask, masks_moved, moved_drawn, drawn_moved}
use Rattle.secrecy.proofs.Parts.{length-draw_from, drawn-draw_from, phone-draw_from, below-draw_from}
use Rattle.secrecy.proofs.Moves.{moved_a, moved_ρ, r_back, r_opens, a_back, a_opens, ρ_back, ρ_opens, Good, Shapes}
use Rattle.secrecy.proofs.Moves.{Same, same_at, SameMasks, masks_same, factor_of, check_of, factor-same, check-same}

module _ (T : Terms) (width : ℕ) (pos : 0 < T.params.scale.modulus) where
  abbrev m : ℕ
  m = T.params.scale.modulus

  abbrev Ok : List ℕ → Type 0
  Ok d = Good T width d

  abbrev D : List ℕ → ℕ → ℕ
  D d k = drawn T.params width d k

  abbrev Held : ℕ → Entry → Type 0
  Held k e = Holds T.params k e

  -- the opening of round `rounds` + 1; u, v; g × n
  abbrev O : List ℕ → List ℕ → ℕ → ℕ → ℕ
  O d x rounds o = opened_of T width d x rounds o

  abbrev U : List ℕ → List ℕ → ℕ → ℕ → ℕ → ℕ
  U x d c t part = factor_of T width x d c t part

  abbrev Z : List ℕ → List ℕ → ℕ → ℕ
  Z x d g = check_of T width x d g

  -- the draw with the masks moved, and with all drawn numbers moved
  abbrev Half : List ℕ → List ℕ → List ℕ → List ℕ
  Half x x' d = masks_moved T width x x' d

  abbrev All : List ℕ → List ℕ → List ℕ → List ℕ
  All x x' d = drawn_moved T width x x' d

  pub drawn-below : (d : List ℕ) → Ok d → (k : ℕ) → D d k < m
  unfolding drawn
  drawn-below d g k = below_at m d _ pos g.below

  pub phone_below : (d : List ℕ) → Ok d → (k c : ℕ) → phone_number T.params width d k c < m
  unfolding phone_number
  phone_below d g k c = below_at m d _ pos g.below

  -- a draw that is put together
  pub good_from : (own : ℕ → ℕ) (phone : ℕ → ℕ → ℕ) → ((k : ℕ) → own k < m) → ((k c : ℕ) → phone k c < m) → Ok (draw_from T.params width own phone)
  good_from own phone h f = record { size = length-draw_from T.params width own phone; below = below-draw_from T.params width own phone m h f }

  module _ (x x' : List ℕ) where
    -- ---- the masks r moved

    mask_below : (d : List ℕ) → Ok d → (k : ℕ) (e : Entry) → moved_mask T width x x' d k e < m
    mask_below d g k (mask c) = mod-lt _ pos
    mask_below d g k (place c i j) = pos
    mask_below d g k (left c t) = drawn-below d g k
    mask_below d g k (right c t) = drawn-below d g k
    mask_below d g k (product c t) = pos
    mask_below d g k (group_mask h) = drawn-below d g k
    mask_below d g k (group_place h j) = pos

    good_half : (d : List ℕ) → Ok d → Ok (Half x x' d)
    unfolding masks_moved
    good_half d g = good_from _ _ (λ k. mask_below d g k (entry_of T.params k)) (phone_below d g)

    half_at : (d : List ℕ) (k : ℕ) (e : Entry) → Held k e → is_drawn e ≡ true → D (Half x x' d) k ≡ moved_mask T width x x' d k e
    unfolding masks_moved
    half_at d k e h i =
        drawn-draw_from T.params width _ _ k h.0 (ap is_drawn h.1 ∙ i) ∙ ap (λ (e : Entry). moved_mask T width x x' d k e) h.1

    -- ---- all drawn numbers moved

    all-below : (d h : List ℕ) → Ok h → (k : ℕ) (e : Entry) → moved_drawn T width x x' d h k e < m
    all-below d h f k (mask c) = drawn-below h f k
    all-below d h f k (place c i j) = pos
    all-below d h f k (left c t) = mod-lt _ pos
    all-below d h f k (right c t) = mod-lt _ pos
    all-below d h f k (product c t) = pos
    all-below d h f k (group_mask i) = mod-lt _ pos
    all-below d h f k (group_place i j) = pos

    pub good_all : (d : List ℕ) → Ok d → Ok (All x x' d)
    unfolding drawn_moved
    good_all d g = good_from _ _ (λ k. all-below d (Half x x' d) (good_half d g) k (entry_of T.params k)) (phone_below d g)

    all-at : (d : List ℕ) (k : ℕ) (e : Entry) → Held k e → is_drawn e ≡ true
        → D (All x x' d) k ≡ moved_drawn T width x x' d (Half x x' d) k e
    unfolding drawn_moved
    all-at d k e h i =
        drawn-draw_from T.params width _ _ k h.0 (ap is_drawn h.1 ∙ i)
        ∙ ap (λ (e : Entry). moved_drawn T width x x' d (Half x x' d) k e) h.1

    pub all-phone : (d : List ℕ) (k c : ℕ) → k < shared T.params → c < width → phone_number T.params width (All x x' d) k c ≡ phone_number T.params width d k c
    unfolding drawn_moved
    all-phone d k c h l = phone-draw_from T.params width _ _ k c h l

    half_masks : (d : List ℕ) → SameMasks T width (Half x x' d) (All x x' d)
    half_masks d c h = sym (all-at d _ (mask c) (holds-mask T.params c h) refl)

    -- r
    all-mask : (d : List ℕ) (c : ℕ) → c < T.params.n → D (All x x' d) (mask_at T.params c) ≡ add m (D d (mask_at T.params c)) (sub m (get_or x' c 0) (get_or x c 0))
    all-mask d c h =
        let b : Held (mask_at T.params c) (mask c) = holds-mask T.params c h in
        all-at d _ (mask c) b refl ∙ half_at d _ (mask c) b refl

  module _ (x x' : List ℕ) (s : Shapes T width x) (s' : Shapes T width x') (d : List ℕ) (g : Ok d) where
    -- a or b, which stays where only the masks r are moved
    change-factor : (c t part : ℕ) → c < T.params.n → t < 8 → part < 2
        → D (Half x x' d) (triple_at T.params c t + part) ≡ D d (triple_at T.params c t + part)
        → add m (D d (triple_at T.params c t + part)) (sub m (O (Half x x' d) x' (1 + t / 2) (triple_opening c t part)) (O d x (1 + t / 2) (triple_opening c t part)))
        ≡ moved_a m (D d (triple_at T.params c t + part)) (U x d c t part) (U x' (All x x' d) c t part)
    change-factor c t part hc ht hp stays =
        rw (
          (s d g).factor c t part hc ht hp,
          (s' (Half x x' d) (good_half x x' d g)).factor c t part hc ht hp,
          stays,
          factor-same T width x' (Half x x' d) (All x x' d) (half_masks x x' d) c t part hc,
        )

    all-factor : (c t part : ℕ) → c < T.params.n → t < 8 → part < 2
        → D (All x x' d) (triple_at T.params c t + part) ≡ moved_a m (D d (triple_at T.params c t + part)) (U x d c t part) (U x' (All x x' d) c t part)
    all-factor c t zero hc ht hp =
        let b : Held (triple_at T.params c t + 0) (left c t) = rw add-zero (holds-left T.params c t hc ht) in
        all-at x x' d _ (left c t) b refl ∙ change-factor c t 0 hc ht (omega arith) (half_at x x' d _ (left c t) b refl)
    all-factor c t (suc zero) hc ht hp =
        let b : Held (triple_at T.params c t + 1) (right c t) = holds-right T.params c t hc ht in
        all-at x x' d _ (right c t) b refl ∙ change-factor c t 1 hc ht (omega arith) (half_at x x' d _ (right c t) b refl)
    all-factor c t (suc (suc part)) hc ht hp = absurd (omega arith)

    -- ρ
    all_ρ : (i : ℕ) → i < groups T.params → D (All x x' d) (group_at T.params i) ≡ moved_ρ m (D d (group_at T.params i)) (Z x d i) (Z x' (All x x' d) i)
    all_ρ i h =
        let b : Held (group_at T.params i) (group_mask i) = holds_ρ T.params i h in
        all-at x x' d _ (group_mask i) b refl
        ∙ rw (
          (s d g).check i h,
          (s' (Half x x' d) (good_half x x' d g)).check i h,
          half_at x x' d _ (group_mask i) b refl,
          check-same T width x' (Half x x' d) (All x x' d) (half_masks x x' d) i h,
        )

  -- ---- any draw `out` with the drawn numbers of the moved one, whatever the phone's numbers

  module _ (x x' : List ℕ) (s : Shapes T width x) (s' : Shapes T width x')
      (d : List ℕ) (g : Ok d) (out : List ℕ) (go : Ok out) (same : Same T width out (All x x' d)) where
    out_masks : SameMasks T width out (All x x' d)
    out_masks = masks_same T width out (All x x' d) same

    out-mask : (c : ℕ) → c < T.params.n → D out (mask_at T.params c) ≡ add m (D d (mask_at T.params c)) (sub m (get_or x' c 0) (get_or x c 0))
    out-mask c h = out_masks c h ∙ all-mask x x' d c h

    triple_same : (c t part : ℕ) → c < T.params.n → t < 8 → part < 2 → D out (triple_at T.params c t + part) ≡ D (All x x' d) (triple_at T.params c t + part)
    triple_same c t zero hc ht hp =
        let b : Held (triple_at T.params c t + 0) (left c t) = rw add-zero (holds-left T.params c t hc ht) in
        same_at T width out _ same _ (left c t) b refl
    triple_same c t (suc zero) hc ht hp = same_at T width out _ same _ (right c t) (holds-right T.params c t hc ht) refl
    triple_same c t (suc (suc part)) hc ht hp = absurd (omega arith)

    out-factor : (c t part : ℕ) → c < T.params.n → t < 8 → part < 2
        → D out (triple_at T.params c t + part) ≡ moved_a m (D d (triple_at T.params c t + part)) (U x d c t part) (U x' out c t part)
    out-factor c t part hc ht hp =
        rw (factor-same T width x' out (All x x' d) out_masks c t part hc)
        (triple_same c t part hc ht hp ∙ all-factor x x' s s' d g c t part hc ht hp)

    out_ρ : (i : ℕ) → i < groups T.params → D out (group_at T.params i) ≡ moved_ρ m (D d (group_at T.params i)) (Z x d i) (Z x' out i)
    out_ρ i h =
        rw (check-same T width x' out (All x x' d) out_masks i h)
        (same_at T width out _ same _ (group_mask i) (holds_ρ T.params i h) refl ∙ all_ρ x x' s s' d g i h)

    -- the opened numbers stay
    pub opens_first : (c : ℕ) → c < T.params.n → O out x' 0 c ≡ O d x 0 c
    opens_first c h =
        (s' out go).first c h ∙ ap (λ (r : ℕ). sub m (get_or x' c 0 + shift_of T) r) (out-mask c h)
        ∙ r_opens m pos _ (get_or x c 0) (get_or x' c 0) (shift_of T) ∙ sym ((s d g).first c h)

    pub opens-factor : (c t part : ℕ) → c < T.params.n → t < 8 → part < 2
        → O out x' (1 + t / 2) (triple_opening c t part) ≡ O d x (1 + t / 2) (triple_opening c t part)
    opens-factor c t part hc ht hp =
        (s' out go).factor c t part hc ht hp
        ∙ ap (λ (a : ℕ). sub m (U x' out c t part) a) (out-factor c t part hc ht hp)
        ∙ a_opens m pos (D d (triple_at T.params c t + part)) (U x d c t part) (U x' out c t part)
        ∙ sym ((s d g).factor c t part hc ht hp)

    pub opens-check : (i : ℕ) → i < groups T.params → O out x' 5 i ≡ O d x 5 i
    opens-check i h =
        (s' out go).check i h
        ∙ ap (λ (r : ℕ). add m r (Z x' out i)) (out_ρ i h)
        ∙ ρ_opens m pos (D d (group_at T.params i)) (Z x d i) (Z x' out i)
        ∙ sym ((s d g).check i h)

  -- ---- and back

  module _ (x x' : List ℕ) (s : Shapes T width x) (s' : Shapes T width x')
      (d : List ℕ) (g : Ok d) (out : List ℕ) (go : Ok out) (same : Same T width out (All x x' d)) where
    back-mask : SameMasks T width (All x' x out) d
    back-mask c h =
        all-mask x' x out c h
        ∙ ap (λ (r : ℕ). add m r (sub m (get_or x c 0) (get_or x' c 0))) (out-mask x x' s s' d g out go same c h)
        ∙ r_back m pos _ (get_or x c 0) (get_or x' c 0) (drawn-below d g _)

    back-factor : (c t part : ℕ) → c < T.params.n → t < 8 → part < 2 → D (All x' x out) (triple_at T.params c t + part) ≡ D d (triple_at T.params c t + part)
    back-factor c t part hc ht hp =
        all-factor x' x s' s out go c t part hc ht hp
        ∙ rw (factor-same T width x (All x' x out) d back-mask c t part hc, out-factor x x' s s' d g out go same c t part hc ht hp)
        (a_back m pos (D d (triple_at T.params c t + part)) (U x d c t part) (U x' out c t part) (drawn-below d g _))

    back_ρ : (i : ℕ) → i < groups T.params → D (All x' x out) (group_at T.params i) ≡ D d (group_at T.params i)
    back_ρ i h =
        all_ρ x' x s' s out go i h
        ∙ rw (check-same T width x (All x' x out) d back-mask i h, out_ρ x x' s s' d g out go same i h)
        (ρ_back m pos (D d (group_at T.params i)) (Z x d i) (Z x' out i) (drawn-below d g _))

    -- the drawn numbers come back
    pub back-same : Same T width (All x' x out) d
    back-same j h e = by (entry_of T.params j) e (at_entry T.params j h)
      where
        by : (en : Entry) → is_drawn en ≡ true → At T.params j en → D (All x' x out) j ≡ D d j
        by (mask c) i (at_mask hc f) = rw f (back-mask c hc)
        by (left c t) i (at_left hc ht f) = rw f (rw add-zero at (back-factor c t 0 hc ht (omega arith)))
        by (right c t) i (at_right hc ht f) = rw f (back-factor c t 1 hc ht (omega arith))
        by (group_mask v) i (at_group hv f) = rw f (back_ρ v hv)
        by (place c v w) i a = absurd (true≢false (sym i))
        by (product c t) i a = absurd (true≢false (sym i))
        by (group_place v w) i a = absurd (true≢false (sym i))
