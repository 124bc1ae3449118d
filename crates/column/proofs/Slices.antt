-- What a round makes of a whole working slice: all its columns, and the masked numbers.
use mathlib.Core.Path.{◌≡◌, refl, ap, fun_ext, ◌∙◌}
use mathlib.Core.Logic.{◌≢◌}
use mathlib.Core.Bool.{Bool, true, false, cond}
use mathlib.Core.List.{List}
use Prim.Native.Nat.{ℕ, zero, suc, ◌+◌, ◌*◌, ◌≤◌, ◌<◌}
use native.Mathlib.Omega.{arith}
use native.Mathlib.Decide.{dec_lt, ℕ_discrete}
use lib.Dec.{eqb, ltb}
use borrow.Author.Tests.{lt-ltb, le-ltb, ne_eqb}
use lib.ListN.{length, get_or}
use Rattle.lists.specs.Lists.{fill}
use Rattle.lists.proofs.Fill.{fill-at, fill-before, fill-behind, length-fill}
use Rattle.field.specs.Forms.{Registers, value}
use Rattle.settings.specs.Settings.{Terms}
use Rattle.settings.specs.Sizes.{openings, places}
use Rattle.slice.specs.Layout.{own_at, column, own_in, masked_in}
use Rattle.steps.specs.Steps.{Public, public_of, open_input, opening}
use Rattle.steps.specs.Work.{opening_on, taken_column, taken_columns, taken_work}
use Rattle.settings.proofs.Sizes.{openings-most}
use Rattle.column.proofs.Columns.{stepped, taking, masked_after, column-same, length_taken, taken-before, taken-behind, column-taken, own-taken}

-- ---- the first columns

module _ (w : Public) (round : ℕ) (opened : ℕ → ℕ) (most : w.params.n ≤ 8) (κs s : List ℕ) where
  abbrev after : ℕ → List ℕ
  after d = taken_columns w round opened κs s d

  pub length_columns : (d : ℕ) → length (after d) ≡ length s
  unfolding taken_columns
  length_columns zero = refl
  length_columns (suc d) = length_taken w round opened most d (get_or κs d 0) (after d) ∙ length_columns d

  -- a place of column c, once column d is taken
  other : (c d i : ℕ) → c ≢ d → i < 1376 → get_or (taken_column w round opened d (get_or κs d 0) (after d)) (c * places + i) 0 ≡ get_or (after d) (c * places + i) 0
  other c d i h l = go (dec_lt c d)
    where
      go : Dec (c < d) → get_or (taken_column w round opened d (get_or κs d 0) (after d)) (c * places + i) 0 ≡ get_or (after d) (c * places + i) 0
      go (yes x) = taken-before w round opened most d (get_or κs d 0) (after d) (c * places + i) (omega arith)
      go (no x) = taken-behind w round opened most d (get_or κs d 0) (after d) (c * places + i) (omega (arith, h))

  -- a column whose turn has not come
  waiting : (d c i : ℕ) → d ≤ c → i < 1376 → get_or (after d) (c * places + i) 0 ≡ get_or s (c * places + i) 0
  unfolding taken_columns
  waiting zero c i h l = refl
  waiting (suc d) c i h l = other c d i (omega arith) l ∙ waiting d c i (omega arith) l

  waiting_column : (c : ℕ) → column (after c) c ≡ column s c
  waiting_column c = fun_ext (column-same (after c) s c (λ i l. waiting c c i (omega arith) (omega arith)))

  -- a column that is taken
  module _ (c : ℕ) (room : c * places + places ≤ length s) where
    abbrev κ : ℕ
    κ = get_or κs c 0

    done : (d i : ℕ) → c < d → i < 1376 → get_or (after d) (c * places + i) 0 ≡ get_or (taken_column w round opened c κ (after c)) (c * places + i) 0
    unfolding taken_columns
    done zero i h l = absurd (omega arith)
    done (suc d) i h l = go (ℕ_discrete c d) (λ k. done d i k l)
      where
        go : Dec (c ≡ d) → (c < d → get_or (after d) (c * places + i) 0 ≡ get_or (taken_column w round opened c κ (after c)) (c * places + i) 0)
            → get_or (taken_column w round opened d (get_or κs d 0) (after d)) (c * places + i) 0 ≡ get_or (taken_column w round opened c κ (after c)) (c * places + i) 0
        go (yes e) ih = rw e
        go (no x) ih = other c d i x l ∙ ih (omega (arith, x))

    pub column_columns : (d : ℕ) → c < d → (i : ℕ) → column (after d) c i ≡ stepped w round opened κ (column s c) i
    column_columns d h i =
        column-same (after d) (taken_column w round opened c κ (after c)) c (λ k l. done d k h (omega arith)) i
        ∙ column-taken w round opened most c κ (after c) (omega (arith, length_columns c)) i
        ∙ ap (λ (r : Registers). stepped w round opened κ r i) (waiting_column c)

    pub own_columns : (d : ℕ) → c < d → (o : ℕ) → o < openings w.params round → own_in (after d) c o ≡ opening_on w round κ (column s c) o
    unfolding own_in
    own_columns d h o l =
        let k = openings-most w.params round most in
        done d (own_at o) h (omega arith)
        ∙ own-taken w round opened most c κ (after c) (omega (arith, length_columns c)) o l
        ∙ ap (λ (r : Registers). opening_on w round κ r o) (waiting_column c)

  -- the masked numbers
  masked_stays : (c d : ℕ) → c < 8 → get_or (after d) (1376 + c) 0 ≡ get_or s (1376 + c) 0
  unfolding taken_columns
  masked_stays c zero h = refl
  masked_stays c (suc zero) h = taken-behind w round opened most 0 (get_or κs 0 0) s (1376 + c) (omega arith)
  masked_stays c (suc (suc d)) h =
      taken-before w round opened most (suc d) (get_or κs (suc d) 0) (after (suc d)) (1376 + c) (omega arith) ∙ masked_stays c (suc d) h

  pub masked_columns : (d c : ℕ) → masked_in (after d) c ≡ masked_in s c
  unfolding masked_in
  masked_columns d c = go (dec_lt c 8)
    where
      go : Dec (c < 8) → cond (ltb c 8) (get_or (after d) (1376 + c) 0) 0 ≡ cond (ltb c 8) (get_or s (1376 + c) 0) 0
      go (yes h) = rw (masked_stays c d h)
      go (no h) = rw (le-ltb c 8 (omega arith))

-- ---- the masked numbers written

module _ (s : List ℕ) (n : ℕ) (f : ℕ → ℕ) (most : n ≤ 8) where
  -- no other place in use is touched
  masked-place : (c i : ℕ) → i < 1376 → get_or (fill s 1376 n f) (c * places + i) 0 ≡ get_or s (c * places + i) 0
  masked-place zero i l = fill-before s 1376 n f (zero * places + i) (omega arith)
  masked-place (suc c) i l = fill-behind s 1376 n f (suc c * places + i) (omega arith)

  masked-fill : places ≤ length s → (c : ℕ) → masked_in (fill s 1376 n f) c ≡ cond (ltb c n) (f c) (masked_in s c)
  unfolding masked_in
  masked-fill r c = go (dec_lt c n)
    where
      go : Dec (c < n) → cond (ltb c 8) (get_or (fill s 1376 n f) (1376 + c) 0) 0 ≡ cond (ltb c n) (f c) (cond (ltb c 8) (get_or s (1376 + c) 0) 0)
      go (yes h) = rw (lt-ltb c n h, lt-ltb c 8 (omega arith)) (fill-at s 1376 n f c (omega arith) h)
      go (no h) = rw (le-ltb c n (omega arith), fill-behind s 1376 n f (1376 + c) (omega arith))

-- ---- the whole slice

-- in round 1 nothing that is opened depends on the masked numbers
opening_taking : (T : Terms) (round : ℕ) (opened masked : ℕ → ℕ) (o : ℕ)
    → opening (taking T round opened masked) round o ≡ opening (public_of T masked) round o
unfolding opening open_input
opening_taking T round opened masked o = go (ℕ_discrete round 1)
  where
    go : Dec (round ≡ 1) → opening (taking T round opened masked) round o ≡ opening (public_of T masked) round o
    go (yes e) = rw e
    go (no h) = rw (ne_eqb round 1 h)

module _ (T : Terms) (round : ℕ) (opened : ℕ → ℕ) (κs s : List ℕ) (most : T.params.n ≤ 8) where
  abbrev w : Public
  w = taking T round opened (masked_in s)

  abbrev all : List ℕ
  all = taken_columns w round opened κs s (length κs)

  abbrev work : List ℕ
  work = taken_work T round opened κs s

  pub length-work : length work ≡ length s
  unfolding taken_work
  length-work = go (eqb round 1) ∙ length_columns w round opened most κs s (length κs)
    where
      go : (b : Bool) → length (cond b (fill all 1376 T.params.n opened) all) ≡ length all
      go true = length-fill all 1376 T.params.n opened
      go false = refl

  place-work : (c i : ℕ) → i < 1376 → get_or work (c * places + i) 0 ≡ get_or all (c * places + i) 0
  unfolding taken_work
  place-work c i l = go (eqb round 1)
    where
      go : (b : Bool) → get_or (cond b (fill all 1376 T.params.n opened) all) (c * places + i) 0 ≡ get_or all (c * places + i) 0
      go true = masked-place all T.params.n opened most c i l
      go false = refl

  module _ (c : ℕ) (here : c < length κs) (room : c * places + places ≤ length s) where
    pub column-work : (i : ℕ) → column work c i ≡ stepped w round opened (get_or κs c 0) (column s c) i
    column-work i =
        column-same work all c (λ k l. place-work c k (omega arith)) i ∙ column_columns w round opened most κs s c room (length κs) here i

    pub own-work : (o : ℕ) → o < openings T.params round → own_in work c o ≡ opening_on (public_of T (masked_in s)) round (get_or κs c 0) (column s c) o
    unfolding own_in
    own-work o l =
        let k = openings-most T.params round most in
        place-work c (own_at o) (omega arith)
        ∙ (unfold own_in in own_columns w round opened most κs s c room (length κs) here o l)
        ∙ ap (value T.params.scale.modulus (get_or κs c 0) (column s c)) (opening_taking T round opened (masked_in s) o)

  pub masked-work : places ≤ length s → (c : ℕ) → masked_in work c ≡ masked_after T.params.n round opened (masked_in s) c
  unfolding taken_work
  masked-work r c = go (eqb round 1)
    where
      same : masked_in all c ≡ masked_in s c
      same = masked_columns w round opened most κs s (length κs) c

      go : (b : Bool) → masked_in (cond b (fill all 1376 T.params.n opened) all) c ≡ cond b (cond (ltb c T.params.n) (opened c) (masked_in s c)) (masked_in s c)
      go true = masked-fill all T.params.n opened most (omega (arith, length_columns w round opened most κs s (length κs))) c ∙ ap (cond (ltb c T.params.n) (opened c)) same
      go false = same
