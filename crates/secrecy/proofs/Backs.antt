-- The pairing for either side's record: possible draws, there and back, the own book and the lists of opened numbers.
use mathlib.Core.Path.{◌≡◌, refl, sym, ◌∙◌, subst}
use mathlib.Core.List.{List}
use mathlib.Core.Bool.{Bool, true, false, cond}
use Prim.Native.Nat.{ℕ, zero, suc, ◌+◌, ◌*◌, ◌-◌, ◌/◌, ◌%◌, ◌≤◌, ◌<◌}
use native.Mathlib.Nat.{mod-lt}
use native.Mathlib.Omega.{arith}
use lib.Dec.{eqb}
use lib.ListN.{get_or}
use lib.Seq.{ext_get_or}
use Rattle.lists.proofs.Lists.{length-list_from}
use Rattle.field.specs.Field.{add, sub}
use Rattle.settings.specs.Schedule.{rounds}
use Rattle.settings.specs.Sizes.{openings, shared}
use Rattle.settings.specs.Settings.{Terms}
use Rattle.book.specs.Book.{drawn, phone_number, book_value}
use Rattle.book.specs.Books.{phone_book, server_number, server_book}
use Rattle.column.specs.Run.{opened_from, plain_opened}
use Rattle.secrecy.specs.Paired.{opened_of, triple_opening, drawn_moved, phone_moved, paired}
use Rattle.secrecy.proofs.Parts.{drawn-draw_from, phone-draw_from, draw_from-is}
use Rattle.secrecy.proofs.Moves.{phone-back, server-same, in_order_lem, Good, Same, value_same, Shapes}
use Rattle.secrecy.proofs.Pairs.{drawn-below, phone_below, good_from, good_all, all-phone, opens_first, opens-factor, opens-check, back-same}

module _ (T : Terms) (width : ℕ) (pos : 0 < T.params.scale.modulus) where
  abbrev m : ℕ
  m = T.params.scale.modulus

  abbrev Ok : List ℕ → Type 0
  Ok d = Good T width d

  abbrev Alike : List ℕ → List ℕ → Type 0
  Alike d d' = Same T width d d'

  abbrev Ph : List ℕ → ℕ → ℕ → ℕ
  Ph d k c = phone_number T.params width d k c

  abbrev Val : List ℕ → ℕ → ℕ
  Val d k = book_value T.params width d k

  abbrev O : List ℕ → List ℕ → ℕ → ℕ → ℕ
  O d x rounds o = opened_of T width d x rounds o

  -- the draw with all drawn numbers moved; with the phone's numbers moved too; and the one of the two that a side's record asks
  abbrev All : List ℕ → List ℕ → List ℕ → List ℕ
  All x x' d = drawn_moved T width x x' d

  abbrev Phone : List ℕ → List ℕ → List ℕ → List ℕ → List ℕ
  Phone x x' factors d = phone_moved T width x x' factors d

  abbrev Pair : List ℕ → List ℕ → ℕ → List ℕ → List ℕ → List ℕ
  Pair x x' number factors d = paired T width x x' number factors d

  module _ (x x' factors d : List ℕ) (g : Ok d) where
    phone_good : Ok (Phone x x' factors d)
    unfolding phone_moved
    phone_good = good_from T width pos _ _ (drawn-below T width pos _ (good_all T width pos x x' d g)) (λ k c. mod-lt _ pos)

    pub good_paired : (number : ℕ) → Ok (Pair x x' number factors d)
    unfolding paired
    good_paired number = by (eqb number 0)
      where
        by : (b : Bool) → Ok (cond b (Phone x x' factors d) (All x x' d))
        by true = phone_good
        by false = good_all T width pos x x' d g

    -- the drawn numbers are the moved ones, on either side
    phone-same : Alike (Phone x x' factors d) (All x x' d)
    unfolding phone_moved
    phone-same k h e = drawn-draw_from T.params width _ _ k h e

    paired_same : (number : ℕ) → Alike (Pair x x' number factors d) (All x x' d)
    unfolding paired
    paired_same number = by (eqb number 0)
      where
        by : (b : Bool) → Alike (cond b (Phone x x' factors d) (All x x' d)) (All x x' d)
        by true = phone-same
        by false = λ k h e. refl

    -- ---- the own book stays

    phones_moved : (k c : ℕ) → k < shared T.params → c < width
        → Ph (Phone x x' factors d) k c ≡ add m (Ph d k c) (get_or factors c 0 * sub m (Val (All x x' d) k) (Val d k))
    unfolding phone_moved
    phones_moved k c h l = phone-draw_from T.params width _ _ k c h l

    server-number : (k c : ℕ) → k < shared T.params → c < width
        → server_number T.params width factors (Phone x x' factors d) k c ≡ server_number T.params width factors d k c
    unfolding server_number
    server-number k c h l =
        rw (phones_moved k c h l, value_same T width (Phone x x' factors d) (All x x' d) phone-same k h)
        (server-same m pos (Ph d k c) (get_or factors c 0) (Val d k) (Val (All x x' d) k))

    -- b: the server's
    pub same_books : 0 < width → (b : Bool)
        → cond b (server_book T.params width factors (cond b (Phone x x' factors d) (All x x' d)))
        (phone_book T.params width (cond b (Phone x x' factors d) (All x x' d)))
        ≡ cond b (server_book T.params width factors d) (phone_book T.params width d)
    unfolding server_book phone_book
    same_books w true = in_order_lem (shared T.params) width _ _ w server-number
    same_books w false = in_order_lem (shared T.params) width _ _ w (all-phone T width pos x x' d)

  -- ---- there and back

  -- two draws with the same parts are the same
  same-draw : (d d' : List ℕ) → Ok d → Ok d' → Alike d d' → ((k c : ℕ) → k < shared T.params → c < width → Ph d k c ≡ Ph d' k c) → d ≡ d'
  same-draw d d' g g' s h =
      sym (draw_from-is T.params width (drawn T.params width d) (Ph d) d g.size (λ k b e. refl) (λ k c b l. refl))
      ∙ draw_from-is T.params width (drawn T.params width d) (Ph d) d' g'.size s h

  module _ (x x' : List ℕ) (s : Shapes T width x) (s' : Shapes T width x') (factors d : List ℕ) (g : Ok d) where
    back-phone : Ok (All x x' d) → All x' x (All x x' d) ≡ d
    back-phone go =
        same-draw (All x' x (All x x' d)) d (good_all T width pos x' x _ go) g
        (back-same T width pos x x' s s' d g (All x x' d) go (λ k h e. refl))
        (λ k c h l. all-phone T width pos x' x (All x x' d) k c h l ∙ all-phone T width pos x x' d k c h l)

    back-server : Ok (Phone x x' factors d) → Phone x' x factors (Phone x x' factors d) ≡ d
    back-server go =
        let o : List ℕ = Phone x x' factors d in
        let same : Alike o (All x x' d) = phone-same x x' factors d g in
        let back : Alike (All x' x o) d = back-same T width pos x x' s s' d g o go same in
        same-draw (Phone x' x factors o) d (phone_good x' x factors o go) g
        (λ j h e. phone-same x' x factors o go j h e ∙ back j h e)
        (λ j c h l.
        phones_moved x' x factors o go j c h l
        ∙ rw (
          phones_moved x x' factors d g j c h l,
          value_same T width (All x' x o) d back j h,
          value_same T width o (All x x' d) same j h,
        )
        (phone-back m pos (Ph d j c) (get_or factors c 0) (Val d j) (Val (All x x' d) j) (phone_below T width pos d g j c)))

    pub back-paired : (number : ℕ) → Pair x' x number factors (Pair x x' number factors d) ≡ d
    unfolding paired
    back-paired number = by (eqb number 0)
      where
        by : (b : Bool)
            → cond b (Phone x' x factors (cond b (Phone x x' factors d) (All x x' d))) (All x' x (cond b (Phone x x' factors d) (All x x' d))) ≡ d
        by true = back-server (phone_good x x' factors d g)
        by false = back-phone (good_all T width pos x x' d g)

  -- ---- the lists of opened numbers

  same_list : (d d' x x' : List ℕ) (r : ℕ) → ((o : ℕ) → o < openings T.params (suc r) → O d x r o ≡ O d' x' r o)
      → plain_opened T width d x r ≡ plain_opened T width d' x' r
  unfolding plain_opened opened_from
  same_list d d' x x' r h =
      ext_get_or 0 _ _ (length-list_from 0 (openings T.params (suc r)) _ ∙ sym (length-list_from 0 (openings T.params (suc r)) _))
      (λ o b. h o (subst (λ l. o < l) (length-list_from 0 (openings T.params (suc r)) _) b))

  module _ (x x' : List ℕ) (s : Shapes T width x) (s' : Shapes T width x') (factors d : List ℕ) (g : Ok d) (number : ℕ) where
    abbrev P : List ℕ
    P = Pair x x' number factors d

    factors_same : (r : ℕ) → 1 ≤ r → r < 5 → (o : ℕ) → o < 4 * T.params.n → O P x' r o ≡ O d x r o
    factors_same r h h' o b =
        let er : 1 + (2 * (r - 1) + o / 2 % 2) / 2 ≡ r = omega arith in
        let eo : triple_opening (o / 4) (2 * (r - 1) + o / 2 % 2) (o % 2) ≡ o = omega arith in
        subst (λ i. O P x' r i ≡ O d x r i) eo
        (subst (λ j. O P x' j (triple_opening (o / 4) (2 * (r - 1) + o / 2 % 2) (o % 2)) ≡ O d x j (triple_opening (o / 4) (2 * (r - 1) + o / 2 % 2) (o % 2))) er
        (opens-factor T width pos x x' s s' d g P (good_paired x x' factors d g number) (paired_same x x' factors d g number)
        (o / 4) (2 * (r - 1) + o / 2 % 2) (o % 2) (omega arith) (omega arith) (omega arith)))

    pub rounds-same : (r : ℕ) → r < rounds - 1 → plain_opened T width P x' r ≡ plain_opened T width d x r
    unfolding openings
    rounds-same zero h =
        same_list P d x' x 0 (opens_first T width pos x x' s s' d g P (good_paired x x' factors d g number) (paired_same x x' factors d g number))
    rounds-same (suc zero) h = same_list P d x' x 1 (factors_same 1 (omega arith) (omega arith))
    rounds-same (suc (suc zero)) h = same_list P d x' x 2 (factors_same 2 (omega arith) (omega arith))
    rounds-same (suc (suc (suc zero))) h = same_list P d x' x 3 (factors_same 3 (omega arith) (omega arith))
    rounds-same (suc (suc (suc (suc zero)))) h = same_list P d x' x 4 (factors_same 4 (omega arith) (omega arith))
    rounds-same (suc (suc (suc (suc (suc zero))))) h =
        same_list P d x' x 5 (opens-check T width pos x x' s s' d g P (good_paired x x' factors d g number) (paired_same x x' factors d g number))
    rounds-same (suc (suc (suc (suc (suc (suc r)))))) h = absurd (omega arith)
