-- A scan of the books of a stock, one after the other, and what it has found behind the last.
use mathlib.Core.Path.{◌≡◌, refl, sym, ap, ap₂}
use mathlib.Core.List.{List, [], ◌∷◌, ◌++◌}
use Prim.Native.Nat.{ℕ, zero, suc, ◌+◌, ◌*◌, ◌/◌, ◌≤◌, ◌<◌}
use native.Mathlib.Nat.{suc-mul, le_trans, mul-le-mul_right, div-mul-le_self, div-eq_of_lt, add-div_left}
use native.Mathlib.Numerals.{add-one}
use native.Mathlib.Omega.{arith}
use native.Mathlib.Decide.{dec_lt}
use lib.ListN.{length, get_or, take, drop, length-append, drop_of_length-le}
use lib.Seq.{take-append_seam, drop-append-add, drop-cons}
use borrow.Author.Tests.{le-leb, lt-leb}
use Rattle.std.specs.Prelude.{Option, Some, None}
use Rattle.lists.specs.Lists.{list_from}
use Rattle.lists.proofs.Lists.{list_from-moved}
use Rattle.stock.specs.Stock.{books_of, serial_of}
use Rattle.stock.specs.Scan.{better, scanned}

-- ---- the books of a stock

-- book i lies within the stock
pub book-room : (i size len : ℕ) → i < len / size → i * size + size ≤ len
book-room i size len h = rw (suc-mul i size) at (le_trans (mul-le-mul_right size h) (div-mul-le_self len size))

books_none : (size : ℕ) (s : List ℕ) → length s < size → books_of size s ≡ []
unfolding list_from
books_none size s h = rw (div-eq_of_lt h)

books_more : (part rest : List ℕ) → 1 ≤ length part → books_of (length part) (part ++ rest) ≡ part ∷ books_of (length part) rest
unfolding list_from
books_more part rest pos =
    let size = length part in
    let count : length (part ++ rest) / size ≡ suc (length rest / size) = rw (length-append part rest, add-div_left (length rest) pos, add-one) in
    let z : 0 * size ≡ 0 = omega arith in
    rw count
    (ap₂ ◌∷◌ (rw z (take-append_seam part rest))
    (list_from-moved 1 0 (length rest / size) (λ (b : ℕ). take size (drop (b * size) (part ++ rest))) (λ (b : ℕ). take size (drop (b * size) rest)) (λ x l.
    let e : (1 + x) * size ≡ size + x * size = omega arith in
    let f : (0 + x) * size ≡ x * size = omega arith in
    rw (e, f) (ap (take size) (drop-append-add part rest (x * size))))))

-- a turn of the loop, and its end
pub scan_more : (last size : ℕ) (stock part rest : List ℕ) (found : Option (List ℕ)) → stock ≡ part ++ rest → length part ≡ size → 1 ≤ size
    → scanned last (books_of size rest) (better last found part) ≡ scanned last (books_of size stock) found
unfolding scanned
scan_more last size stock part rest found e l pos = rw (e, ← l) (sym (ap (λ (books : List (List ℕ)). scanned last books found) (books_more part rest (rw l pos))))

pub scan_end : (last size : ℕ) (rest : List ℕ) (found : Option (List ℕ)) → length rest < size → scanned last (books_of size rest) found ≡ found
unfolding scanned
scan_end last size rest found h = ap (λ (books : List (List ℕ)). scanned last books found) (books_none size rest h)

-- one stock behind another
pub scan_both : (last : ℕ) (first second : List (List ℕ)) (found : Option (List ℕ)) → scanned last second (scanned last first found) ≡ scanned last (first ++ second) found
unfolding scanned
scan_both last [] second found = refl
scan_both last (book ∷ books) second found = scan_both last books second (better last found book)

-- ---- what is found

module _ (last : ℕ) (zs : List (List ℕ)) where
  abbrev pub serial : ℕ → ℕ
  serial j = serial_of (get_or zs j [])

  -- among books 0 to n - 1 book m is the first of the least above the last
  pub record Best (n m : ℕ) : Type 0 where
    pub inside : m < n
    pub above : last < serial m
    pub least : (j : ℕ) → j < n → last < serial j → serial m ≤ serial j
    pub first : (j : ℕ) → j < m → last < serial j → serial m < serial j

  -- none of them is above, or the best is found
  unfoldable pub IsFound : ℕ → Option (List ℕ) → Type 0
  IsFound n None = (j : ℕ) → j < n → serial j ≤ last
  IsFound n (Some book) = (m : ℕ) × Best n m × (book ≡ get_or zs m [])

  -- one book more
  found_more : (n : ℕ) (found : Option (List ℕ)) → IsFound n found → IsFound (suc n) (better last found (get_or zs n []))
  unfolding IsFound
  found_more n None none = go (dec_lt last (serial n))
    where
      go : Dec (last < serial n) → IsFound (suc n) (better last None (get_or zs n []))
      go (no a) = rw (le-leb (serial n) last (omega arith)) (λ j l. to j (dec_lt j n) l)
        where
          to : (j : ℕ) → Dec (j < n) → j < suc n → serial j ≤ last
          to j (yes b) l = none j b
          to j (no b) l = let e : j ≡ n = omega arith in rw e (omega arith)
      go (yes a) = rw (lt-leb (serial n) last a) (
        n,
        record {
          inside = omega arith;
          above = a;
          least = λ j l m. to j (dec_lt j n) l m;
          first = λ j l m. absurd (omega (arith, none j l));
        },
        refl,
      )
        where
          to : (j : ℕ) → Dec (j < n) → j < suc n → last < serial j → serial n ≤ serial j
          to j (yes b) l m = absurd (omega (arith, none j b))
          to j (no b) l m = let e : j ≡ n = omega arith in rw e (omega arith)
  found_more n (Some book) (m, best, is) = go (dec_lt last (serial n)) (dec_lt (serial n) (serial m))
    where
      kept : (last < serial n → serial m ≤ serial n) → IsFound (suc n) (Some book)
      kept k = (
        m,
        record {
          inside = omega (arith, best.inside);
          above = best.above;
          least = λ j l a. to j (dec_lt j n) l a;
          first = best.first;
        },
        is,
      )
        where
          to : (j : ℕ) → Dec (j < n) → j < suc n → last < serial j → serial m ≤ serial j
          to j (yes b) l a = best.least j b a
          to j (no b) l a = let e : n ≡ j = omega arith in (rw e at k) a

      go : Dec (last < serial n) → Dec (serial n < serial m) → IsFound (suc n) (better last (Some book) (get_or zs n []))
      go (no a) d = rw (le-leb (serial n) last (omega arith)) (kept (λ b. absurd (a b)))
      go (yes a) (no d) = rw (lt-leb (serial n) last a, is, le-leb (serial m) (serial n) (omega arith)) (rw is at (kept (λ b. omega arith)))
      go (yes a) (yes d) = rw (lt-leb (serial n) last a, is, lt-leb (serial m) (serial n) d) (
        n,
        record {
          inside = omega arith;
          above = a;
          least = λ j l b. to j (dec_lt j n) l b;
          first = λ j l b. omega (arith, best.least j l b);
        },
        refl,
      )
        where
          to : (j : ℕ) → Dec (j < n) → j < suc n → last < serial j → serial n ≤ serial j
          to j (yes b) l c = omega (arith, best.least j b c)
          to j (no b) l c = let e : j ≡ n = omega arith in rw e (omega arith)

  all_found : (k n : ℕ) (found : Option (List ℕ)) → n + k ≡ length zs → IsFound n found → IsFound (length zs) (scanned last (drop n zs) found)
  unfolding scanned
  all_found zero n found e h = let all : n ≡ length zs = omega arith in rw (drop_of_length-le zs {i = n} (omega arith)) (rw all at h)
  all_found (suc k) n found e h = rw (drop-cons zs n [] (omega arith)) (all_found k (suc n) (better last found (get_or zs n [])) (omega arith) (found_more n found h))

  pub found_is : IsFound (length zs) (scanned last zs None)
  unfolding IsFound
  found_is = all_found (length zs) 0 None (omega arith) (λ j l. absurd (omega arith))
