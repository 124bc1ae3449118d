-- The choice from a list of books, from what a scan of it has found.
use mathlib.Core.Path.{◌≡◌, refl, sym, ap, ◌∙◌}
use mathlib.Core.Bool.{Bool, true, false, not, ◌||◌, true≢false}
use mathlib.Core.List.{List, [], ◌∷◌, ◌++◌}
use Prim.Native.Nat.{ℕ, zero, suc, ◌<◌}
use native.Mathlib.Omega.{arith}
use native.Mathlib.Decide.{dec_lt}
use lib.Dec.{leb}
use borrow.Author.Tests.{lt-ltb, le-ltb, le-leb, lt-leb}
use lib.ListN.{length, get_or}
use Rattle.std.specs.Prelude.{Option, Some, None, option_map}
use Rattle.std.specs.Option.{is_some}
use Rattle.lists.specs.Lists.{every}
use Rattle.lists.proofs.Every.{every-at, every-all}
use Rattle.lists.proofs.Questions.{and_yes, and_left, and_right}
use Rattle.stock.specs.Stock.{serial_of, is_above, is_least, first_of, some_of}
use Rattle.stock.specs.Scan.{scanned}
use Rattle.stock.proofs.Scans.{serial, Best, IsFound, found_is}

-- ---- the first of a list

first_at : (f : List ℕ → Bool) (zs : List (List ℕ)) (m : ℕ) → m < length zs → f (get_or zs m []) ≡ true → ((j : ℕ) → j < m → f (get_or zs j []) ≡ false) → first_of f zs ≡ get_or zs m []
unfolding first_of
first_at f [] m h e n = absurd (omega arith)
first_at f (b ∷ bs) zero h e n = rw e
first_at f (b ∷ bs) (suc m) h e n = rw (n 0 (omega arith)) (first_at f bs m (omega arith) e (λ j l. n (suc j) (omega arith)))

some_at : (f : List ℕ → Bool) (zs : List (List ℕ)) (m : ℕ) → m < length zs → f (get_or zs m []) ≡ true → some_of f zs ≡ true
unfolding some_of
some_at f [] m h e = absurd (omega arith)
some_at f (b ∷ bs) zero h e = rw e
some_at f (b ∷ bs) (suc m) h e = rw (some_at f bs m (omega arith) e) (or_true (f b))
  where
    or_true : (b : Bool) → (b || true) ≡ true
    or_true true = refl
    or_true false = refl

pub some-none : (f : List ℕ → Bool) (zs : List (List ℕ)) → ((j : ℕ) → j < length zs → f (get_or zs j []) ≡ false) → some_of f zs ≡ false
unfolding some_of
some-none f [] n = refl
some-none f (b ∷ bs) n = rw (n 0 (omega arith)) (some-none f bs (λ j l. n (suc j) (omega arith)))

pub some_append : (f : List ℕ → Bool) (xs ys : List (List ℕ)) → some_of f (xs ++ ys) ≡ (some_of f xs || some_of f ys)
unfolding some_of
some_append f [] ys = refl
some_append f (b ∷ bs) ys = rw (some_append f bs ys) (or_assoc (f b) (some_of f bs) (some_of f ys))
  where
    or_assoc : (b x y : Bool) → (b || (x || y)) ≡ ((b || x) || y)
    or_assoc true x y = refl
    or_assoc false x y = refl

-- ---- the first least book of a list

module _ (last : ℕ) (zs : List (List ℕ)) where
  abbrev no_less : ℕ → List ℕ → Bool
  no_less m other = not (is_above last other) || leb (serial last zs m) (serial_of other)

  pub best_first : (m : ℕ) → Best last zs (length zs) m → first_of (is_least last zs) zs ≡ get_or zs m []
  best_first m h =
      first_at (is_least last zs) zs m h.inside
      (and_yes _ _ (lt-ltb last (serial last zs m) h.above) (every-all (no_less m) zs [] (λ j l. other j l (dec_lt last (serial last zs j)))))
      (λ j l. before j l (dec_lt last (serial last zs j)))
    where
      other : (j : ℕ) → j < length zs → Dec (last < serial last zs j) → no_less m (get_or zs j []) ≡ true
      other j l (yes a) = rw (lt-ltb last (serial last zs j) a) (le-leb (serial last zs m) (serial last zs j) (h.least j l a))
      other j l (no a) = rw (le-ltb last (serial last zs j) (omega arith))

      before : (j : ℕ) → j < m → Dec (last < serial last zs j) → is_least last zs (get_or zs j []) ≡ false
      before j l (no a) = and_left _ _ (le-ltb last (serial last zs j) (omega arith))
      before j l (yes a) = and_right _ _ (lt-ltb last (serial last zs j) a) (go (every (no_less j) zs) refl)
        where
          go : (b : Bool) → every (no_less j) zs ≡ b → b ≡ false
          go false e = refl
          go true e =
              let k = every-at (no_less j) zs m [] e h.inside in
              absurd (true≢false (sym k ∙ rw (lt-ltb last (serial last zs m) h.above) (lt-leb (serial last zs j) (serial last zs m) (h.first j l a))))

  -- what a scan of all finds: none is above the last, or a book that is the first of the least
  pub found_none : None ≡ scanned last zs None → some_of (is_above last) zs ≡ false
  unfolding IsFound
  found_none e =
      let none = rw (← e) at (found_is last zs) in
      some-none (is_above last) zs (λ j l. le-ltb last (serial last zs j) (none j l))

  pub found_some : (book : List ℕ) → Some book ≡ scanned last zs None → (some_of (is_above last) zs ≡ true) × (book ≡ first_of (is_least last zs) zs)
  unfolding IsFound
  found_some book e =
      let f = rw (← e) at (found_is last zs) in
      (some_at (is_above last) zs f.0 f.1.inside (lt-ltb last _ f.1.above), f.2 ∙ sym (best_first f.0 f.1))

  -- a scan tells whether one is above the last
  pub found_tells : is_some (scanned last zs None) ≡ some_of (is_above last) zs
  found_tells = by (scanned last zs None) refl
    where
      by : (found : Option (List ℕ)) → found ≡ scanned last zs None → is_some found ≡ some_of (is_above last) zs
      by None e = sym (found_none e)
      by (Some book) e = sym (found_some book e).0

  -- where a serial is above the last, there is a first least book
  pub best_some : some_of (is_above last) zs ≡ true → (m : ℕ) × Best last zs (length zs) m
  unfolding IsFound
  best_some e = by (scanned last zs None) (found_is last zs)
    where
      by : (found : Option (List ℕ)) → IsFound last zs (length zs) found → (m : ℕ) × Best last zs (length zs) m
      by None none = absurd (true≢false (sym e ∙ some-none (is_above last) zs (λ j l. le-ltb last (serial last zs j) (none j l))))
      by (Some book) (m, best, is) = (m, best)

-- ---- of two lists, one behind the other

-- what a scan has found, as the code holds it
pub told_by_scan : {B : Type 0} (last : ℕ) (zs : List (List ℕ)) (part : B → List ℕ) (found : Option B) → option_map part found ≡ scanned last zs None → is_some found ≡ some_of (is_above last) zs
told_by_scan {B} last zs part found e = mapped found ∙ ap is_some e ∙ found_tells last zs
  where
    mapped : (o : Option B) → is_some o ≡ is_some (option_map part o)
    mapped None = refl
    mapped (Some book) = refl

module _ (last : ℕ) (xs ys : List (List ℕ)) where
  pub above_first : (b : Bool) → b ≡ true → b ≡ some_of (is_above last) xs → b ≡ some_of (is_above last) (xs ++ ys)
  above_first b e f = rw (some_append (is_above last) xs ys, ← f, e) refl

  pub above_second : (b c : Bool) → b ≡ false → b ≡ some_of (is_above last) xs → c ≡ some_of (is_above last) ys → c ≡ some_of (is_above last) (xs ++ ys)
  above_second b c e f g = rw (some_append (is_above last) xs ys, ← f, ← g, e) refl
