-- The working slices at the start: what stands at each place, and that the two sides' add up to the plain one.
use Prim.Native.Nat.{ℕ, ◌+◌, ◌*◌, ◌-◌, ◌/◌, ◌%◌, ◌≤◌, ◌<◌}
use mathlib.Core.Path.{◌≡◌, sym, ap₂, ◌∙◌}
use mathlib.Core.List.{List}
use mathlib.Core.Bool.{Bool, true, false, cond, ◌&&◌}
use native.Mathlib.Omega.{arith}
use native.Mathlib.Decide.{dec_lt, dec_le}
use native.Mathlib.Nat.{mod-lt, mul-le-mul_right}
use lib.Arith.{digits_div, digits_mod}
use lib.Dec.{leb, ltb}
use lib.ListN.{length, get_or}
use borrow.Author.Tests.{lt-ltb, le-ltb, le-leb, lt-leb}
use Rattle.lists.specs.Lists.{all_below, list_to}
use Rattle.lists.proofs.Every.{below_at, every-join, every-list_to}
use Rattle.lists.proofs.Lists.{length-list_from, get_d_list_to}
use Rattle.field.specs.Field.{q}
use Rattle.field.specs.Forms.{Adds}
use Rattle.field.proofs.Congruence.{≈_eq}
use Rattle.field.proofs.Solve.{at, ◌⊕◌, ◌⊖◌, ◌⊗◌, red, solve}
use Rattle.settings.specs.Sizes.{shared, places}
use Rattle.settings.specs.Settings.{Params, Terms}
use Rattle.book.specs.Book.{book_value}
use Rattle.book.specs.Books.{multipliers, server_book, phone_book}
use Rattle.book.specs.Theorems.{Books}
use Rattle.slice.specs.Layout.{column, masked_in, begun_place, begun_work}
use Rattle.slice.proofs.Begun.{begun-length, begun-at}
use Rattle.column.specs.Run.{plain_book, plain_start}
use Rattle.column.specs.Theorems.{JoinedWork}
use Rattle.runs.specs.Records.{missing_shares}

-- ---- Inputs: what is missing to the secret

module _ (width : ℕ) (factors secret shares : List ℕ) where
  abbrev lacking : ℕ → ℕ → ℕ
  lacking j c = (get_or factors c 0 * get_or secret j 0 + (q - get_or shares (j * width + c) 0 % q)) % q

  pub length_missing : length (missing_shares width factors secret shares) ≡ length secret * width
  unfolding missing_shares
  length_missing = length-list_from 0 (length secret * width) _

  pub below_missing : all_below q (missing_shares width factors secret shares) ≡ true
  unfolding missing_shares all_below
  below_missing =
      every-list_to (λ (x : ℕ). ltb x q) (length secret * width) (λ (x : ℕ). lacking (x / width) (x % width))
      (λ x l. lt-ltb (lacking (x / width) (x % width)) q (mod-lt _ (omega arith)))

  missing_at : (j c : ℕ) → j < length secret → c < width → get_or (missing_shares width factors secret shares) (j * width + c) 0 ≡ lacking j c
  unfolding missing_shares
  missing_at j c h l =
      get_d_list_to (length secret * width) (λ (x : ℕ). lacking (x / width) (x % width)) (j * width + c) 0 (omega (arith, mul-le-mul_right width h))
      ∙ ap₂ lacking (digits_div j l) (digits_mod j l)

  -- "what is missing to the secret and to key × secret"
  pub missing_adds : (j c : ℕ) → j < length secret → c < width
      → Adds q (get_or factors c 0) (get_or shares (j * width + c) 0) (get_or (missing_shares width factors secret shares) (j * width + c) 0) (get_or secret j 0)
  missing_adds j c h l =
      let m = get_or factors c 0 in
      let x = get_or secret j 0 in
      let a = get_or shares (j * width + c) 0 in
      rw (missing_at j c h l) (record { total = solve q (omega arith) (at a ⊕ red (at m ⊗ at x ⊖ at a)) (at m ⊗ at x) (omega arith) })

-- ---- Places of a begun slice

module _ (p : Params) (width : ℕ) (inputs book : List ℕ) where
  abbrev placed : ℕ → ℕ → ℕ
  placed c i = begun_place (shared p) p.n width inputs book c i

  abbrev column_of : ℕ → List ℕ
  column_of c = list_to places (placed c)

  cond_below : (m : ℕ) (b : Bool) (x y : ℕ) → x < m → y < m → cond b x y < m
  cond_below m true x y h l = h
  cond_below m false x y h l = l

  pub below-begun : (m : ℕ) → 0 < m → all_below m inputs ≡ true → all_below m book ≡ true → all_below m (begun_work p width inputs book) ≡ true
  unfolding begun_work begun_place all_below
  below-begun m pos e f =
      every-join (λ (x : ℕ). ltb x m) 0 width column_of
      (λ c h. every-list_to (λ (x : ℕ). ltb x m) places (placed (0 + c)) (λ i l. lt-ltb (placed (0 + c) i) m
      (cond_below m (ltb i (shared p)) _ _ (below_at m book _ pos f)
      (cond_below m (leb 1320 i && ltb i (1320 + p.n)) _ _ (below_at m inputs _ pos e) pos))))

  module _ (most : p.n ≤ 8) (room : shared p ≤ 1320) where
    -- nothing is masked yet
    pub unmasked : 0 < width → (c : ℕ) → masked_in (begun_work p width inputs book) c ≡ 0
    unfolding masked_in begun_place
    unmasked some c = by (dec_lt c 8)
      where
        by : Dec (c < 8) → masked_in (begun_work p width inputs book) c ≡ 0
        by (yes h) =
            let z : 0 * places + (1376 + c) ≡ 1376 + c = omega arith in
            rw (lt-ltb c 8 h)
            (rw z at (begun-at p width inputs book 0 (1376 + c) some (omega arith))
            ∙ rw (le-ltb (1376 + c) (shared p) (omega arith), le-leb 1320 (1376 + c) (omega arith), le-ltb (1376 + c) (1320 + p.n) (omega arith)))
        by (no h) = rw (le-ltb c 8 (omega arith))

-- ---- The two sides' slices and the plain one

module _ (T : Terms) (width : ℕ) (factors draw secret in_a in_b : List ℕ) (pos : 0 < T.params.scale.modulus) (most : T.params.n ≤ 8) (room : shared T.params ≤ 1320)
    (b : Books T.params width factors draw)
    (ins : (j c : ℕ) → j < T.params.n → c < width → Adds T.params.scale.modulus (get_or factors c 0) (get_or in_a (j * width + c) 0) (get_or in_b (j * width + c) 0) (get_or secret j 0)) where
  abbrev book_a : List ℕ
  book_a = server_book T.params width factors draw

  abbrev book_b : List ℕ
  book_b = phone_book T.params width draw

  abbrev values : List ℕ
  values = plain_book T width draw secret

  nothing : (m : ℕ) → Adds T.params.scale.modulus m 0 0 0
  nothing m = record { total = ≈_eq (omega arith) }

  place-adds : (c i : ℕ) → c < width
      → Adds T.params.scale.modulus (get_or factors c 0) (placed T.params width in_a book_a c i) (placed T.params width in_b book_b c i) (placed T.params 1 secret values 0 i)
  unfolding begun_place plain_book
  place-adds c i h = by (dec_lt i (shared T.params)) (dec_le 1320 i) (dec_lt i (1320 + T.params.n))
    where
      by : Dec (i < shared T.params) → Dec (1320 ≤ i) → Dec (i < 1320 + T.params.n)
          → Adds T.params.scale.modulus (get_or factors c 0) (placed T.params width in_a book_a c i) (placed T.params width in_b book_b c i) (placed T.params 1 secret values 0 i)
      by (yes x) y z =
          let e : i * 1 + 0 ≡ i = omega arith in
          rw (lt-ltb i (shared T.params) x, b.server_at i c x h, b.phone_at i c x h, e, get_d_list_to (shared T.params) (book_value T.params width draw) i 0 x)
          (b.adds pos i c)
      by (no x) (yes y) (yes z) =
          let e : (i - 1320) * 1 + 0 ≡ i - 1320 = omega arith in
          rw (le-ltb i (shared T.params) (omega arith), le-leb 1320 i y, lt-ltb i (1320 + T.params.n) z, e)
          (ins (i - 1320) c (omega arith) h)
      by (no x) (yes y) (no z) =
          rw (le-ltb i (shared T.params) (omega arith), le-leb 1320 i y, le-ltb i (1320 + T.params.n) (omega arith)) (nothing _)
      by (no x) (no y) z =
          rw (le-ltb i (shared T.params) (omega arith), lt-leb 1320 i (omega arith)) (nothing _)

  pub column-adds : (c i : ℕ) → c < width
      → Adds T.params.scale.modulus (get_or factors c 0) (column (begun_work T.params width in_a book_a) c i) (column (begun_work T.params width in_b book_b) c i)
      (column (plain_start T width draw secret) 0 i)
  unfolding column plain_start
  column-adds c i h = by (dec_lt i 1344)
    where
      by : Dec (i < 1344)
          → Adds T.params.scale.modulus (get_or factors c 0) (column (begun_work T.params width in_a book_a) c i) (column (begun_work T.params width in_b book_b) c i)
          (column (begun_work T.params 1 secret values) 0 i)
      by (yes l) =
          let a = begun-at T.params width in_a book_a c i h (omega arith) in
          let b = begun-at T.params width in_b book_b c i h (omega arith) in
          rw (lt-ltb i 1344 l, a, b, begun-at T.params 1 secret values 0 i (omega arith) (omega arith))
          (place-adds c i h)
      by (no l) = rw (le-ltb i 1344 (omega arith)) (nothing _)

pub start-joined : (T : Terms) (keys0 keys1 draw secret in_a in_b : List ℕ) → 0 < T.params.scale.modulus → T.params.n ≤ 8 → shared T.params ≤ 1320
    → let factors = multipliers keys0 keys1 in let width = length factors in
    Books T.params width factors draw
    → ((j c : ℕ) → j < T.params.n → c < width → Adds T.params.scale.modulus (get_or factors c 0) (get_or in_a (j * width + c) 0) (get_or in_b (j * width + c) 0) (get_or secret j 0))
    → JoinedWork T.params.scale.modulus keys0 keys1 (begun_work T.params width in_a (server_book T.params width factors draw))
    (begun_work T.params width in_b (phone_book T.params width draw)) (plain_start T width draw secret)
unfolding plain_start
start-joined T keys0 keys1 draw secret in_a in_b pos most room b ins =
    let factors = multipliers keys0 keys1 in
    let width = length factors in
    let values = plain_book T width draw secret in
    record {
      adds = λ c i h. column-adds T width factors draw secret in_a in_b pos most room b ins c i h;
      masked₁ = λ c. unmasked T.params width in_a _ most room (omega arith) c ∙ sym (unmasked T.params 1 secret values most room (omega arith) c);
      masked₂ = λ c. unmasked T.params width in_b _ most room (omega arith) c ∙ sym (unmasked T.params 1 secret values most room (omega arith) c);
      exact₁ = begun-length T.params width in_a _;
      exact₂ = begun-length T.params width in_b _;
      exact = begun-length T.params 1 secret values ∙ omega arith;
    }
