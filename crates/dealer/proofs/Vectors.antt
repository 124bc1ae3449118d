-- The vector of a number: all its places as if they held 0, and the place that holds 1 over them.
use mathlib.Core.Path.{◌≡◌, refl, sym, ap, ◌∙◌}
use mathlib.Core.Logic.{◌≢◌}
use mathlib.Core.Bool.{true}
use mathlib.Core.List.{List, [], ◌∷◌}
use Prim.Native.Nat.{ℕ, zero, suc, ◌+◌, ◌-◌, ◌*◌, ◌/◌, ◌%◌, ◌≤◌, ◌<◌}
use native.Mathlib.Nat.{add-zero, mul-zero}
use native.Mathlib.Omega.{arith}
use native.Mathlib.Decide.{dec_lt}
use lib.Dec.{eqb, ltb}
use lib.ListN.{length, get_or, take, drop, length-drop}
use lib.Seq.{length-take-le, get_or-take, get_or-drop}
use borrow.Rule.Slice.PartMut.{put_mid, mid_of}
use Rattle.lists.specs.Answers.{bit}
use Rattle.lists.specs.Lists.{every, all_below, fill}
use Rattle.lists.proofs.Fill.{fill-same, fill-over, whole_is}
use Rattle.lists.proofs.Indicators.{eq_one, eq_zero}
use Rattle.lists.proofs.Lists.{list_to_get_d}
use Rattle.lists.proofs.Part.{fill-part}
use Rattle.lists.proofs.Questions.{both_yes}
use Rattle.field.specs.Field.{q, sub}
use Rattle.settings.specs.Sizes.{width, draw_length}
use Rattle.dealer.specs.Work.{DealContext, dealt_into, params_for, shared_for, cursor_for, server_for, phone_for, Lent, Next, Vector}
use Rattle.dealer.proofs.Work.{phone-column, server-column, next_vector, draw_most}
use Rattle.book.proofs.Draws.{draw_at-more, draw_at-inside, draw_at-end}

-- ---- n numbers of the draw, and what they leave in a part of a book

module _ (draw : List ℕ) (at n : ℕ) (room : at + n ≤ length draw) where
  abbrev own : List ℕ
  own = take (at + n - at) (drop at draw)

  same : at + n - at ≡ n
  same = omega arith

  own-length : length own ≡ n
  own-length = rw same (length-take-le n (drop at draw) (omega (arith, length-drop at draw)))

  own_at : (i : ℕ) → i < n → get_or own i 0 ≡ get_or draw (at + i) 0
  own_at i l = rw same (get_or-take n (drop at draw) i 0 l ∙ get_or-drop at draw i 0)

  module _ (book : List ℕ) (place : ℕ) (fits : place + n ≤ length book) where
    abbrev size : ℕ
    size = place + length own - place

    size_is : size ≡ n
    size_is = omega (arith, own-length)

    mid-length : length (mid_of place n book) ≡ n
    mid-length = length-take-le n (drop place book) (omega (arith, length-drop place book))

    pub part-length : length (mid_of place size book) ≡ length own
    part-length = rw (size_is, own-length) mid-length

    part_is : (part : List ℕ) (g h : ℕ → ℕ) → ((i : ℕ) → i < n → g i ≡ h i) → part ≡ fill (mid_of place n book) 0 n g → put_mid place size book part ≡ fill book place n h
    part_is part g h s w = rw (size_is, w) (fill-part book place n g fits n (omega arith) ∙ fill-same book place n g h s)

    pub copied : (part : List ℕ) → part ≡ own → put_mid place size book part ≡ fill book place n (λ (i : ℕ). get_or draw (at + i) 0)
    copied part c =
        part_is part (λ (i : ℕ). get_or own i 0) _ own_at
        (c ∙ sym (list_to_get_d own) ∙ rw own-length (sym (whole_is (mid_of place n book) n (λ (i : ℕ). get_or own i 0) mid-length)))

    pub negated : (part : List ℕ) → part ≡ fill (mid_of place size book) 0 (length own) (λ (i : ℕ). sub q 0 (get_or own i 0))
        → put_mid place size book part ≡ fill book place n (λ (i : ℕ). sub q 0 (get_or draw (at + i) 0))
    negated part w = part_is part (λ (i : ℕ). sub q 0 (get_or own i 0)) _ (λ i l. ap (sub q 0) (own_at i l)) (rw (size_is, own-length) at w)

below_drop : (m n : ℕ) (xs : List ℕ) → all_below m xs ≡ true → all_below m (drop n xs) ≡ true
unfolding all_below every
below_drop m zero xs e = e
below_drop m (suc n) [] e = e
below_drop m (suc n) (x ∷ xs) e = below_drop m n xs (both_yes (ltb x m) (all_below m xs) e).1

below_take : (m n : ℕ) (xs : List ℕ) → all_below m xs ≡ true → all_below m (take n xs) ≡ true
unfolding all_below every
below_take m zero xs e = refl
below_take m (suc n) [] e = e
below_take m (suc n) (x ∷ xs) e =
    let b = both_yes (ltb x m) (all_below m xs) e in
    rw b.0 (below_take m n xs b.1)

pub below_part : (m size at : ℕ) (xs : List ℕ) → all_below m xs ≡ true → all_below m (take size (drop at xs)) ≡ true
below_part m size at xs e = below_take m size (drop at xs) (below_drop m at xs e)

-- ---- the vector

-- no place's numbers begin behind the draw
cursor-most : (o : DealContext) (e : ℕ) → e ≤ shared_for o → cursor_for o e ≤ draw_length (params_for o) width
cursor-most o e h = go (dec_lt e (shared_for o))
  where
    go : Dec (e < shared_for o) → cursor_for o e ≤ draw_length (params_for o) width
    go (yes l) = omega (arith, draw_at-inside (params_for o) width e l)
    go (no l) =
        let last : e ≡ shared_for o = omega arith in
        rw last (omega (arith, draw_at-end (params_for o) width))

module _ {o : DealContext} {k size d : ℕ} (h : Vector o k size d) (at : ℕ) (e : at ≡ cursor_for o k) where
  -- its places draw their own numbers alone
  pub cursor-run : (x : ℕ) → x ≤ size → at + width * x ≡ cursor_for o (k + x)
  unfolding bit
  cursor-run zero l = add-zero at ∙ e ∙ ap (cursor_for o) (sym (add-zero k))
  cursor-run (suc x) l =
      let next : k + suc x ≡ suc (k + x) = omega arith in
      let more = rw (h.draws x (omega arith)) at (draw_at-more (params_for o) width (k + x) (omega (arith, h.inside))) in
      rw next (omega (arith, more, cursor-run x (omega arith)))

  pub vector_room : {server phone : List ℕ} → Lent o.shape o.draw server phone
      → (at + width * size ≤ length o.draw) × (width * k + width * size ≤ length server) × (width * k + width * size ≤ length phone) × (length o.draw ≤ 12024)
  vector_room l = omega (arith, cursor-run size (omega arith), cursor-most o (k + size) h.inside, l.draw_size, l.server_size, l.phone_size, h.inside, draw_most l)

  next-at : (x v : ℕ) → x < size → v ≡ bit (eqb x d) → Next o (k + x) (at + width * x) v
  next-at x v l is = next_vector h x (at + width * x) v l (cursor-run x (omega arith)) is

  -- number y of them, at the phone and, where the place holds 0, at the server
  phone-run : (y : ℕ) → y < width * size → get_or o.draw (at + y) 0 ≡ phone_for o (width * k + y)
  phone-run y l =
      let x = y / width in
      let a : at + width * x + y % width ≡ at + y = omega arith in
      let b : width * (k + x) + y % width ≡ width * k + y = omega arith in
      rw (a, b) at (phone-column o (k + x) (at + width * x) (bit (eqb x d)) (next-at x (bit (eqb x d)) (omega arith) refl) (y % width) (omega arith))

  zero-run : (y : ℕ) → y < width * size → y / width ≢ d → sub q 0 (get_or o.draw (at + y) 0) ≡ server_for o (width * k + y)
  zero-run y l other =
      let x = y / width in
      let a : at + width * x + y % width ≡ at + y = omega arith in
      let b : width * (k + x) + y % width ≡ width * k + y = omega arith in
      rw (mul-zero, a, b) at (server-column o (k + x) (at + width * x) 0 (next-at x 0 (omega arith) (sym (eq_zero other))) (y % width) (omega arith))

  -- place d holds 1
  pub next_one : d < size → Next o (k + d) (at + width * d) 1
  next_one l = next-at d 1 l (sym (eq_one {a = d} {b = d} refl))

  module _ {server phone s p : List ℕ} (lent : Lent o.shape o.draw server phone)
      (s_is : s ≡ fill server (width * k) (width * size) (λ (y : ℕ). sub q 0 (get_or o.draw (at + y) 0)))
      (p_is : p ≡ fill phone (width * k) (width * size) (λ (y : ℕ). get_or o.draw (at + y) 0)) where
    -- no place holds 1
    pub wrote_zeros : size ≤ d → (s ≡ dealt_into server (server_for o) k size) × (p ≡ dealt_into phone (phone_for o) k size)
    unfolding dealt_into
    wrote_zeros none = (s_is ∙ fill-same server (width * k) (width * size) _ _ (λ y l. zero-run y l (omega arith)), p_is ∙ fill-same phone (width * k) (width * size) _ _ phone-run)

    -- the place that holds 1 is dealt over the others
    pub wrote_one : {s' p' : List ℕ} → d < size → s' ≡ dealt_into s (server_for o) (k + d) 1 → p' ≡ dealt_into p (phone_for o) (k + d) 1
        → (s' ≡ dealt_into server (server_for o) k size) × (p' ≡ dealt_into phone (phone_for o) k size)
    unfolding dealt_into
    wrote_one inside s_one p_one =
        let place : width * (k + d) ≡ width * k + width * d = omega arith in (
          s_one ∙ rw (s_is, place)
              (fill-over server (width * k) (width * size) (width * d) width _ _ _ (omega (arith, h.inside, lent.server_size)) (omega arith)
              (λ y l. zero-run y (omega arith) (omega arith)) (λ y l. ap (server_for o) (omega arith)) (λ y b l. zero-run y l (omega arith))),
          p_one ∙ rw (p_is, place)
              (fill-over phone (width * k) (width * size) (width * d) width _ _ _ (omega (arith, h.inside, lent.phone_size)) (omega arith)
              (λ y l. phone-run y (omega arith)) (λ y l. ap (phone_for o) (omega arith)) (λ y b l. phone-run y l)),
        )
