-- ColumnsJoin: joined columns stay joined, through every opening and every round; in one column, and in whole working slices.
use mathlib.Core.Path.{◌≡◌, refl, sym, fun_ext, ◌∙◌}
use mathlib.Core.Bool.{Bool, true, false, cond}
use mathlib.Core.List.{List, [], ◌∷◌}
use Prim.Native.Nat.{ℕ, zero, suc, ◌+◌, ◌*◌, ◌≤◌, ◌<◌}
use native.Mathlib.Omega.{arith}
use lib.Dec.{eqb}
use lib.ListN.{length, get_or, replicate, length-append, length-replicate}
use Rattle.lists.specs.Lists.{fill}
use Rattle.lists.proofs.Lists.{padded}
use Rattle.lists.proofs.Fill.{fill-below}
use Rattle.field.specs.Forms.{Form, value, Adds, Join}
use Rattle.field.proofs.Congruence.{≈_eq}
use Rattle.field.proofs.Forms.{join-value, join-put, value-below}
use Rattle.settings.specs.Settings.{Terms}
use Rattle.settings.specs.Sizes.{openings, places}
use Rattle.book.specs.Books.{multipliers}
use Rattle.slice.specs.Layout.{column, masked_in, weights}
use Rattle.slice.proofs.Kept.{column-below}
use Rattle.steps.specs.Steps.{Public, public_of, opening, running}
use Rattle.steps.specs.Work.{opening_on, taken_column, taken_columns, taken_work}
use Rattle.column.specs.Theorems.{ColumnsJoin, JoinedWork, SlicesJoin}
use Rattle.column.proofs.Columns.{stepped, taking, masked_after}
use Rattle.column.proofs.Slices.{length-work, column-work, own-work, masked-work}

pub column-joins : ColumnsJoin
column-joins =
    record {
      opening = λ w pos j round o. join-value pos j (opening w round o);
      running = λ w pos j round opened k c. join-value pos j (running w round opened k c);
    }

-- ---- the weights of the columns add up to the multipliers

module _ (keys0 keys1 : List ℕ) (same : length keys0 ≡ length keys1) where
  weights-join : (c : ℕ) → get_or (weights (length keys0) 0 keys0) c 0 + get_or (weights (length keys0) 1 keys1) c 0 ≡ get_or (multipliers keys0 keys1) c 0
  unfolding weights
  weights-join zero = refl
  weights-join (suc c) = padded keys0 keys1 (length keys0) c

  weights-length : (length (weights (length keys0) 0 keys0) ≡ length (multipliers keys0 keys1)) × (length (weights (length keys0) 1 keys1) ≡ length (multipliers keys0 keys1))
  unfolding weights
  weights-length = (
    omega (arith, length-append keys0 (replicate (length keys0) 0), length-append keys0 keys1, length-replicate {A = ℕ} (length keys0) 0),
    omega (arith, length-append (replicate (length keys0) 0) keys1, length-append keys0 keys1, length-replicate {A = ℕ} (length keys0) 0),
  )

-- ---- two working slices and the plain column

module _ (T : Terms) (keys0 keys1 w₁ w₂ plain : List ℕ) (pos : 0 < T.params.scale.modulus) (same : length keys0 ≡ length keys1)
    (j : JoinedWork T.params.scale.modulus keys0 keys1 w₁ w₂ plain) (round : ℕ) where
  abbrev κ₁ : List ℕ
  κ₁ = weights (length keys0) 0 keys0

  abbrev κ₂ : List ℕ
  κ₂ = weights (length keys0) 1 keys1

  abbrev m : List ℕ
  m = multipliers keys0 keys1

  joined : (c : ℕ) → c < length m → Join T.params.scale.modulus (get_or m c 0) (get_or κ₁ c 0) (get_or κ₂ c 0) (column w₁ c) (column w₂ c) (column plain 0)
  joined c h = record { weight = ≈_eq (weights-join keys0 keys1 same c); numbers = λ i. j.adds c i h }

  same₁ : masked_in w₁ ≡ masked_in plain
  same₁ = fun_ext j.masked₁

  same₂ : masked_in w₂ ≡ masked_in plain
  same₂ = fun_ext j.masked₂

  opening-joins : (c o : ℕ) → c < length m
      → Adds T.params.scale.modulus (get_or m c 0)
      (opening_on (public_of T (masked_in w₁)) round (get_or κ₁ c 0) (column w₁ c) o)
      (opening_on (public_of T (masked_in w₂)) round (get_or κ₂ c 0) (column w₂ c) o)
      (opening_on (public_of T (masked_in plain)) round 1 (column plain 0) o)
  opening-joins c o h = rw (same₁, same₂) (join-value pos (joined c h) (opening (public_of T (masked_in plain)) round o))

  module _ (most : T.params.n ≤ 8) (opened : ℕ → ℕ) where
    stepped-joins : (masked : ℕ → ℕ) (c i : ℕ) → c < length m → let w = public_of T masked in
        Adds T.params.scale.modulus (get_or m c 0) (stepped w round opened (get_or κ₁ c 0) (column w₁ c) i)
        (stepped w round opened (get_or κ₂ c 0) (column w₂ c) i) (stepped w round opened 1 (column plain 0) i)
    stepped-joins masked c i h =
        let w = public_of T masked in
        (join-put 1336 T.params.n _ _ _ (join-put 1328 T.params.n _ _ _ (joined c h) (λ x. join-value pos (joined c h) (running w round opened 0 x)))
        (λ x. join-value pos (joined c h) (running w round opened 1 x))).numbers i

    taken-joins : JoinedWork T.params.scale.modulus keys0 keys1 (taken_work T round opened κ₁ w₁) (taken_work T round opened κ₂ w₂) (taken_work T round opened (1 ∷ []) plain)
    taken-joins =
        let l = weights-length keys0 keys1 same in
        record {
          adds = λ c i h.
              rw (
                column-work T round opened κ₁ w₁ most c (omega arith) (omega (arith, j.exact₁)) i,
                column-work T round opened κ₂ w₂ most c (omega arith) (omega (arith, j.exact₂)) i,
                column-work T round opened (1 ∷ []) plain most 0 (omega arith) (omega (arith, j.exact)) i,
                same₁,
                same₂,
              )
              (stepped-joins (cond (eqb round 1) opened (masked_in plain)) c i h);
          masked₁ = λ c. masked-work T round opened κ₁ w₁ most (omega (arith, j.exact₁)) c ∙ (rw same₁ (sym (masked_plain c)));
          masked₂ = λ c. masked-work T round opened κ₂ w₂ most (omega (arith, j.exact₂)) c ∙ (rw same₂ (sym (masked_plain c)));
          exact₁ = length-work T round opened κ₁ w₁ most ∙ j.exact₁;
          exact₂ = length-work T round opened κ₂ w₂ most ∙ j.exact₂;
          exact = length-work T round opened (1 ∷ []) plain most ∙ j.exact;
        }
      where
        masked_plain : (c : ℕ) → masked_in (taken_work T round opened (1 ∷ []) plain) c ≡ masked_after T.params.n round opened (masked_in plain) c
        masked_plain c = masked-work T round opened (1 ∷ []) plain most (omega (arith, j.exact)) c

-- ---- numbers below the modulus

module _ (w : Public) (round : ℕ) (opened : ℕ → ℕ) (pos : 0 < w.params.scale.modulus) where
  abbrev q : ℕ
  q = w.params.scale.modulus

  taken-below : (c κ : ℕ) (s : List ℕ) → ((j : ℕ) → get_or s j 0 < q) → (j : ℕ) → get_or (taken_column w round opened c κ s) j 0 < q
  unfolding taken_column
  taken-below c κ s h =
      let v : (f : Form) → value q κ (column s c) f < q = value-below q κ (column s c) pos (column-below s c q pos h) in
      fill-below _ (c * places + 1336) w.params.n _ q
      (fill-below _ (c * places + 1328) w.params.n _ q
      (fill-below s (c * places + 1344) (openings w.params round) _ q h (λ o. v (opening w round o)))
      (λ c. v (running w round opened 0 c)))
      (λ c. v (running w round opened 1 c))

  columns_below : (κs s : List ℕ) (d : ℕ) → ((j : ℕ) → get_or s j 0 < q) → (j : ℕ) → get_or (taken_columns w round opened κs s d) j 0 < q
  unfolding taken_columns
  columns_below κs s zero h = h
  columns_below κs s (suc d) h = taken-below d (get_or κs d 0) (taken_columns w round opened κs s d) (columns_below κs s d h)

work-below : (T : Terms) (round : ℕ) (opened : ℕ → ℕ) (κs s : List ℕ) → 0 < T.params.scale.modulus
    → ((i : ℕ) → get_or s i 0 < T.params.scale.modulus) → ((o : ℕ) → opened o < T.params.scale.modulus) → (i : ℕ) → get_or (taken_work T round opened κs s) i 0 < T.params.scale.modulus
unfolding taken_work
work-below T round opened κs s pos h k = go _ (eqb round 1) (columns_below (taking T round opened (masked_in s)) round opened pos κs s (length κs) h)
  where
    go : (t : List ℕ) (b : Bool) → ((i : ℕ) → get_or t i 0 < T.params.scale.modulus) → (i : ℕ) → get_or (cond b (fill t 1376 T.params.n opened) t) i 0 < T.params.scale.modulus
    go t true l = fill-below t 1376 T.params.n opened T.params.scale.modulus l k
    go t false l = l

pub work-joins : SlicesJoin
work-joins =
    record {
      opening = opening-joins;
      taken = λ T keys0 keys1 w₁ w₂ plain pos most some same j round opened. taken-joins T keys0 keys1 w₁ w₂ plain pos same j round most opened;
      own = λ T round opened κs work most some l c o h k. own-work T round opened κs work most c h (omega arith) o k;
      bounded = λ T round opened κs work pos most some l h k.
          (length-work T round opened κs work most, work-below T round opened κs work pos h k);
    }
