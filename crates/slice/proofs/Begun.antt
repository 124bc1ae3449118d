-- The working slice as begin sets it, place by place, and as it is written.
use mathlib.Core.Path.{◌≡◌, sym, ap, ◌∙◌}
use mathlib.Core.List.{List}
use Prim.Native.Nat.{ℕ, ◌+◌, ◌*◌, ◌-◌, ◌/◌, ◌%◌, ◌≤◌, ◌<◌}
use native.Mathlib.Omega.{arith}
use native.Mathlib.Decide.{dec_lt}
use lib.ListN.{length, get_or, drop}
use lib.Seq.{ext_get_or, get_or-drop}
use borrow.Author.Tests.{lt-ltb, le-ltb, le-leb, lt-leb}
use Rattle.lists.specs.Lists.{fill, list_to}
use Rattle.lists.proofs.Lists.{length-list_from, get_d_list_to, ahead, ahead_fixed, join-at}
use Rattle.lists.proofs.Fill.{fill-before, fill-behind, fill-at, fill-same, fill-next}
use Rattle.settings.specs.Settings.{Params}
use Rattle.settings.specs.Sizes.{width, shared, places}
use Rattle.slice.specs.Layout.{input_at, begun_place, columns_of, begun_work, batch_place, with_batch}

-- ---- a slice of columns

module _ (width : ℕ) (f : ℕ → ℕ → ℕ) where
  columns_ahead : (c : ℕ) → ahead 0 c (λ (x : ℕ). list_to places (f x)) ≡ c * places
  columns_ahead c = ahead_fixed places c (λ (x : ℕ). list_to places (f x)) (λ x. length-list_from 0 places (f x))

  columns_length : length (columns_of width f) ≡ width * places
  columns_length = columns_ahead width

  columns_at : (c i : ℕ) → c < width → i < places → get_or (columns_of width f) (c * places + i) 0 ≡ f c i
  columns_at c i h l =
      rw (← columns_ahead c)
      (join-at width (λ (x : ℕ). list_to places (f x)) 0 c i h (rw (length-list_from 0 places (f c)) l) ∙ get_d_list_to places (f c) i 0 l)

  columns_all : (s : List ℕ) → length s ≡ width * places → ((c i : ℕ) → c < width → i < places → get_or s (c * places + i) 0 ≡ f c i)
      → s ≡ columns_of width f
  columns_all s long each =
      ext_get_or 0 s (columns_of width f) (long ∙ sym columns_length) (λ j l.
      let e : j / places * places + j % places ≡ j = omega arith in
      rw e at (each (j / places) (j % places) (omega arith) (omega arith) ∙ sym (columns_at (j / places) (j % places) (omega arith) (omega arith))))

-- ---- columns written one after the other

-- the first columns have the numbers of f, the others are as they were in s
abbrev pub Written : List ℕ → (ℕ → ℕ → ℕ) → ℕ → List ℕ → Type 0
Written s f columns work =
    ((c i : ℕ) → c < columns → i < places → get_or work (c * places + i) 0 ≡ f c i)
    × ((c i : ℕ) → columns ≤ c → i < places → get_or work (c * places + i) 0 ≡ get_or s (c * places + i) 0)

-- one column more: its m places from a on are filled, and what f has at its other places stood there before
written-more : (s : List ℕ) (f : ℕ → ℕ → ℕ) (c a m : ℕ) (work work₁ : List ℕ) → a + m ≤ places → c * places + (a + m) ≤ length work
    → ((i : ℕ) → i < a → get_or s (c * places + i) 0 ≡ f c i) → ((i : ℕ) → a + m ≤ i → i < places → get_or s (c * places + i) 0 ≡ f c i)
    → work₁ ≡ fill work (c * places + a) m (λ (k : ℕ). f c (a + k)) → Written s f c work → Written s f (c + 1) work₁
written-more s f c a m work work₁ room long front back e (done, rest) = rw e (
  λ d i h l. by d i l (dec_lt d c) (dec_lt i a) (dec_lt i (a + m)) (omega arith),
  λ d i h l. fill-behind work (c * places + a) m g (d * places + i) (omega arith) ∙ rest d i (omega arith) l,
)
  where
    g : ℕ → ℕ
    g k = f c (a + k)

    -- column c itself
    own : (i : ℕ) → i < places → Dec (i < a) → Dec (i < a + m) → get_or (fill work (c * places + a) m g) (c * places + i) 0 ≡ f c i
    own i l (yes x) y = fill-before work (c * places + a) m g (c * places + i) (omega arith) ∙ rest c i (omega arith) l ∙ front i x
    own i l (no x) (yes y) =
        let at : c * places + i ≡ c * places + a + (i - a) = omega arith in
        let back : a + (i - a) ≡ i = omega arith in
        rw at (fill-at work (c * places + a) m g (i - a) (omega arith) (omega arith) ∙ ap (f c) back)
    own i l (no x) (no y) = fill-behind work (c * places + a) m g (c * places + i) (omega arith) ∙ rest c i (omega arith) l ∙ back i (omega arith) l

    by : (d i : ℕ) → i < places → Dec (d < c) → Dec (i < a) → Dec (i < a + m) → d ≤ c → get_or (fill work (c * places + a) m g) (d * places + i) 0 ≡ f d i
    by d i l (yes x) y z h = fill-before work (c * places + a) m g (d * places + i) (omega arith) ∙ done d i x l
    by d i l (no x) y z h = let here : d ≡ c = omega arith in rw here (own i l y z)

-- ---- a book, put into the columns batch by batch

module _ (book : List ℕ) (first n : ℕ) (s : List ℕ) (c i : ℕ) where
  inside : first ≤ i → i < first + n → batch_place book first n s c i ≡ get_or book (i * width + c) 0
  unfolding batch_place
  inside h l = rw (le-leb first i h, lt-ltb i (first + n) l)

  before : i < first → batch_place book first n s c i ≡ get_or s (c * places + i) 0
  unfolding batch_place
  before h = rw (lt-leb first i h)

  beyond : first + n ≤ i → batch_place book first n s c i ≡ get_or s (c * places + i) 0
  unfolding batch_place
  beyond h = rw (le-leb first i (omega arith), le-ltb i (first + n) h)

  batch_at : c < width → i < places → get_or (with_batch book first n s) (c * places + i) 0 ≡ batch_place book first n s c i
  unfolding with_batch
  batch_at = columns_at width (batch_place book first n s) c i

-- one column more takes its numbers of a batch
pub batch_more : (book s : List ℕ) (first n c : ℕ) (work work₁ : List ℕ) → first + n ≤ places → c * places + (first + n) ≤ length work
    → work₁ ≡ fill work (c * places + first) n (λ (i : ℕ). get_or (drop (first * width) book) (i * width + c) 0)
    → Written s (batch_place book first n s) c work → Written s (batch_place book first n s) (c + 1) work₁
batch_more book s first n c work work₁ room long e =
    written-more s (batch_place book first n s) c first n work work₁ room long
    (λ i h. sym (before book first n s c i h))
    (λ i h l. sym (beyond book first n s c i h))
    (e ∙ fill-same work (c * places + first) n _ _ (λ k h.
    let from : first * width + (k * width + c) ≡ (first + k) * width + c = omega arith in
    rw (get_or-drop, from) (sym (inside book first n s c (first + k) (omega arith) (omega arith)))))

-- all columns have taken theirs
pub batch_all : (book s : List ℕ) (first n : ℕ) (work : List ℕ) → length work ≡ width * places → Written s (batch_place book first n s) width work
    → work ≡ with_batch book first n s
unfolding with_batch
batch_all book s first n work long (done, rest) = columns_all width (batch_place book first n s) work long done

pub batch_none : (book s : List ℕ) → length s ≡ width * places → s ≡ with_batch book 0 0 s
unfolding with_batch
batch_none book s long = columns_all width (batch_place book 0 0 s) s long (λ c i h l. sym (beyond book 0 0 s c i (omega arith)))

-- a batch behind those before it
pub batch_next : (book s s₁ s₂ : List ℕ) (a m l : ℕ) → length s₂ ≡ width * places → a + m ≡ l → s₁ ≡ with_batch book 0 a s → s₂ ≡ with_batch book a m s₁
    → s₂ ≡ with_batch book 0 l s
unfolding with_batch
batch_next book s s₁ s₂ a m l long sum e₁ e₂ =
    rw (← sum) (columns_all width (batch_place book 0 (a + m) s) s₂ long (λ c i h l.
    rw e₂ (batch_at book a m s₁ c i h l) ∙ by c i h l (dec_lt i a) (dec_lt i (a + m))))
  where
    stood : (c i : ℕ) → c < width → i < places → get_or s₁ (c * places + i) 0 ≡ batch_place book 0 a s c i
    stood c i h l = rw e₁ (batch_at book 0 a s c i h l)

    by : (c i : ℕ) → c < width → i < places → Dec (i < a) → Dec (i < a + m) → batch_place book a m s₁ c i ≡ batch_place book 0 (a + m) s c i
    by c i h l (yes x) y =
        before book a m s₁ c i x ∙ stood c i h l ∙ inside book 0 a s c i (omega arith) (omega arith)
        ∙ sym (inside book 0 (a + m) s c i (omega arith) (omega arith))
    by c i h l (no x) (yes y) = inside book a m s₁ c i (omega arith) y ∙ sym (inside book 0 (a + m) s c i (omega arith) (omega arith))
    by c i h l (no x) (no y) =
        beyond book a m s₁ c i (omega arith) ∙ stood c i h l ∙ beyond book 0 a s c i (omega arith)
        ∙ sym (beyond book 0 (a + m) s c i (omega arith))

-- ---- a column behind the book's numbers

module _ (count n width : ℕ) (inputs book : List ℕ) (c : ℕ) (room : count ≤ input_at 0) where
  abbrev place : ℕ → ℕ
  place = begun_place count n width inputs book c

  from_book : (k : ℕ) → k < count → get_or book (k * width + c) 0 ≡ place k
  unfolding begun_place
  from_book k h = rw (lt-ltb k count h)

  before-inputs : (k : ℕ) → count ≤ k → k < input_at 0 → 0 ≡ place k
  unfolding begun_place
  before-inputs k h l = rw (le-ltb k count h, lt-leb (input_at 0) k l)

  from_inputs : (k : ℕ) → k < n → get_or inputs (k * width + c) 0 ≡ place (input_at 0 + k)
  unfolding begun_place
  from_inputs k h =
      let e : input_at 0 + k - input_at 0 ≡ k = omega arith in
      rw (le-ltb (input_at 0 + k) count (omega arith), le-leb (input_at 0) (input_at 0 + k) (omega arith), lt-ltb (input_at 0 + k) (input_at n) (omega arith), e)

  behind-inputs : (k : ℕ) → input_at n ≤ k → 0 ≡ place k
  unfolding begun_place
  behind-inputs k h = rw (le-ltb k count (omega arith), le-leb (input_at 0) k (omega arith), le-ltb k (input_at n) h)

  abbrev behind : ℕ → ℕ
  behind k = place (count + k)

  pub rest_is : (s s₁ s₂ s₃ : List ℕ) (at m₁ m₃ : ℕ) → n ≤ 8 → count + m₁ ≡ input_at 0 → input_at n + m₃ ≡ places
      → s₁ ≡ fill s (at + count) m₁ (λ (i : ℕ). 0)
      → s₂ ≡ fill s₁ (at + input_at 0) n (λ (i : ℕ). get_or inputs (i * width + c) 0)
      → s₃ ≡ fill s₂ (at + input_at 0 + n) m₃ (λ (i : ℕ). 0)
      → s₃ ≡ fill s (at + count) (places - count) behind
  rest_is s s₁ s₂ s₃ at m₁ m₃ most u₁ u₃ e₁ e₂ e₃ =
      let t₁ : s₁ ≡ fill s (at + count) m₁ behind =
      e₁ ∙ fill-same s (at + count) m₁ _ behind (λ k h. before-inputs (count + k) (omega arith) (omega arith)) in
      let t₂ : s₂ ≡ fill s (at + count) (input_at n - count) behind =
      fill-next s s₁ s₂ (at + count) _ m₁ n (input_at n - count) behind _ t₁ e₂ (omega arith) (omega arith)
      (λ k h. let e : count + (m₁ + k) ≡ input_at 0 + k = omega arith in rw e (from_inputs k h)) in
      fill-next s s₂ s₃ (at + count) _ (input_at n - count) _ (places - count) behind _ t₂ e₃ (omega arith) (omega arith)
      (λ k h. behind-inputs (count + (input_at n - count + k)) (omega arith))

-- ---- columns finished behind a book

-- one column more is whole
pub finished-more : (count n : ℕ) (inputs book s₀ s : List ℕ) (c : ℕ) (work work₁ : List ℕ) → c < width → count ≤ input_at 0
    → c * places + places ≤ length work → s ≡ with_batch book 0 count s₀
    → work₁ ≡ fill work (c * places + count) (places - count) (λ (k : ℕ). begun_place count n width inputs book c (count + k))
    → Written s (begun_place count n width inputs book) c work → Written s (begun_place count n width inputs book) (c + 1) work₁
finished-more count n inputs book s₀ s c work work₁ h room long e =
    written-more s (begun_place count n width inputs book) c count (places - count) work work₁ (omega arith) (omega arith)
    (λ i l. rw e (batch_at book 0 count s₀ c i h (omega arith)) ∙ inside book 0 count s₀ c i (omega arith) (omega arith)
    ∙ from_book count n width inputs book c room i l)
    (λ i l k. absurd (omega arith))

-- ---- the whole slice

module _ (p : Params) (width : ℕ) (inputs book : List ℕ) where
  pub begun-length : length (begun_work p width inputs book) ≡ width * places
  unfolding begun_work
  begun-length = columns_length width (begun_place (shared p) p.n width inputs book)

  pub begun-at : (c i : ℕ) → c < width → i < places → get_or (begun_work p width inputs book) (c * places + i) 0 ≡ begun_place (shared p) p.n width inputs book c i
  unfolding begun_work
  begun-at = columns_at width (begun_place (shared p) p.n width inputs book)

  pub begun_all : (s : List ℕ) → length s ≡ width * places
      → ((c i : ℕ) → c < width → i < places → get_or s (c * places + i) 0 ≡ begun_place (shared p) p.n width inputs book c i)
      → s ≡ begun_work p width inputs book
  unfolding begun_work
  begun_all = columns_all width (begun_place (shared p) p.n width inputs book)
