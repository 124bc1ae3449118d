-- Laws of a working slice in a round: columns that a round leaves as they were, and the numbers made elsewhere and copied in.
use mathlib.Core.Path.{◌≡◌, refl, ap, ◌∙◌, fun_ext}
use mathlib.Core.Logic.{◌≢◌}
use mathlib.Core.Bool.{cond}
use mathlib.Core.List.{List}
use Prim.Native.Nat.{ℕ, zero, suc, ◌+◌, ◌*◌, ◌/◌, ◌%◌, ◌≤◌, ◌<◌}
use native.Mathlib.Omega.{arith}
use lib.Dec.{ltb}
use lib.ListN.{length, get_or}
use borrow.Author.Tests.{eq-eqb, ne_eqb}
use Rattle.lists.specs.Lists.{fill}
use Rattle.lists.proofs.Fill.{fill-same, fill-behind, from_start}
use Rattle.field.specs.Forms.{value}
use Rattle.settings.specs.Settings.{Terms}
use Rattle.settings.specs.Sizes.{openings, places}
use Rattle.slice.specs.Layout.{running_at, own_at, column, masked_in}
use Rattle.steps.specs.Steps.{Public, public_of, open_input, opening}
use Rattle.steps.specs.Work.{opening_on, running_on, taken_column, taken_columns, taken_work}
use Rattle.column.specs.Held.{HeldAll, RegistersHeld}
use Rattle.settings.proofs.Sizes.{openings-most}

-- a column's own numbers and registers worked out elsewhere and copied: the column after a round
pub taken_is : (w : Public) (round : ℕ) (opened : ℕ → ℕ) (c κ : ℕ) (work own next out : List ℕ)
    → ((o : ℕ) → o < openings w.params round → get_or own (32 * c + o) 0 ≡ opening_on w round κ (column work c) o)
    → ((j : ℕ) → j < w.params.n → get_or next (16 * c + j) 0 ≡ running_on w round opened κ (column work c) 0 j)
    → ((j : ℕ) → j < w.params.n → get_or next (16 * c + 8 + j) 0 ≡ running_on w round opened κ (column work c) 1 j)
    → out ≡ fill (fill (fill work (c * places + own_at 0) (openings w.params round) (λ (o : ℕ). get_or own (32 * c + o) 0))
    (c * places + running_at 0 0) w.params.n (λ (j : ℕ). get_or next (16 * c + j) 0))
    (c * places + running_at 1 0) w.params.n (λ (j : ℕ). get_or next (16 * c + 8 + j) 0)
    → out ≡ taken_column w round opened c κ work
unfolding taken_column
taken_is w round opened c κ work own next out held first second e =
    e
    ∙ fill-same _ (c * places + running_at 1 0) w.params.n _ (running_on w round opened κ (column work c) 1) second
    ∙ ap (λ (l : List ℕ). fill l (c * places + running_at 1 0) w.params.n (running_on w round opened κ (column work c) 1))
    (fill-same _ (c * places + running_at 0 0) w.params.n _ (running_on w round opened κ (column work c) 0) first
    ∙ ap (λ (l : List ℕ). fill l (c * places + running_at 0 0) w.params.n (running_on w round opened κ (column work c) 0))
    (fill-same work (c * places + own_at 0) (openings w.params round) _ (opening_on w round κ (column work c)) held))

-- ---- Columns that a round leaves as they were

module _ (w : Public) (round : ℕ) (opened : ℕ → ℕ) (few : w.params.n ≤ 8) where
  -- taking a column changes no column behind it
  behind : (c κ : ℕ) (work : List ℕ) (d i : ℕ) → c < d → get_or (taken_column w round opened c κ work) (d * places + i) 0 ≡ get_or work (d * places + i) 0
  unfolding taken_column
  behind c κ work d i h =
      fill-behind _ (c * places + running_at 1 0) w.params.n _ (d * places + i) (omega arith)
      ∙ fill-behind _ (c * places + running_at 0 0) w.params.n _ (d * places + i) (omega arith)
      ∙ fill-behind work (c * places + own_at 0) (openings w.params round) _ (d * places + i) (omega (arith, openings-most w.params round few))

  later : (κs work : List ℕ) (c d i : ℕ) → c ≤ d → get_or (taken_columns w round opened κs work c) (d * places + i) 0 ≡ get_or work (d * places + i) 0
  unfolding taken_columns
  later κs work zero d i h = refl
  later κs work (suc c) d i h = behind c (get_or κs c 0) (taken_columns w round opened κs work c) d i h ∙ later κs work c d i (omega arith)

  pub column-kept : (κs work : List ℕ) (c : ℕ) → column (taken_columns w round opened κs work c) c ≡ column work c
  unfolding column
  column-kept κs work c = fun_ext (λ i. ap (λ (x : ℕ). cond (ltb i (own_at 0)) x 0) (later κs work c c i (omega arith)))

  -- one column more is written, from own numbers and registers that were worked out for the slice as it was
  pub column-taken : (κs work own next : List ℕ) (c : ℕ) → c < length κs → HeldAll w round κs work own → RegistersHeld w round opened κs work (2 * w.params.n) next
      → (now out : List ℕ) → now ≡ taken_columns w round opened κs work c
      → out ≡ fill (fill (fill now (c * places + own_at 0) (openings w.params round) (λ (o : ℕ). get_or own (32 * c + o) 0))
      (c * places + running_at 0 0) w.params.n (λ (j : ℕ). get_or next (16 * c + j) 0))
      (c * places + running_at 1 0) w.params.n (λ (j : ℕ). get_or next (16 * c + 8 + j) 0)
      → out ≡ taken_column w round opened c (get_or κs c 0) (taken_columns w round opened κs work c)
  column-taken κs work own next c h held registers now out e f =
      let kept : column now c ≡ column work c = rw e (column-kept κs work c) in
      rw (← e)
      (taken_is w round opened c (get_or κs c 0) now own next out
      (λ o l. rw kept (held c h o l))
      (λ j l. rw kept (first j l))
      (λ j l. rw kept (second j l)) f)
    where
      first : (j : ℕ) → j < w.params.n → get_or next (16 * c + j) 0 ≡ running_on w round opened (get_or κs c 0) (column work c) 0 j
      first j l =
          let which : 2 * j % 2 ≡ 0 = omega arith in
          let half : 2 * j / 2 ≡ j = omega arith in
          let at : 8 * 0 + j ≡ j = omega arith in
          rw (which, half, at) at (registers c (2 * j) h (omega arith))

      second : (j : ℕ) → j < w.params.n → get_or next (16 * c + 8 + j) 0 ≡ running_on w round opened (get_or κs c 0) (column work c) 1 j
      second j l =
          let which : (2 * j + 1) % 2 ≡ 1 = omega arith in
          let half : (2 * j + 1) / 2 ≡ j = omega arith in
          let at : 16 * c + (8 * 1 + j) ≡ 16 * c + 8 + j = omega arith in
          rw (which, half, at) at (registers c (2 * j + 1) h (omega arith))

-- ---- Whose masked numbers a round looks at

-- round 1 opens nothing that depends on them
pub held_first : (T : Terms) (m₁ m₂ : ℕ → ℕ) (round : ℕ) (κs work own : List ℕ) → round ≡ 1
    → HeldAll (public_of T m₁) round κs work own → HeldAll (public_of T m₂) round κs work own
unfolding opening open_input
held_first T m₁ m₂ round κs work own one held c h o l =
    held c h o l ∙ ap (value T.params.scale.modulus (get_or κs c 0) (column work c)) (opening_first one o)
  where
    opening_first : round ≡ 1 → (o : ℕ) → opening (public_of T m₁) round o ≡ opening (public_of T m₂) round o
    opening_first e o = rw e

-- ---- The whole slice

module _ (T : Terms) (round : ℕ) (opened κs work after : List ℕ) where
  abbrev numbers : ℕ → ℕ
  numbers o = get_or opened o 0

  pub work_first : (out : List ℕ) → round ≡ 1
      → after ≡ taken_columns (public_of T numbers) round numbers κs work (length κs)
      → out ≡ fill after 1376 T.params.n (λ (j : ℕ). get_or opened (0 + j) 0)
      → out ≡ taken_work T round numbers κs work
  unfolding taken_work
  work_first out one e f =
      rw (eq-eqb round 1 one) (f ∙ from_start after opened 1376 T.params.n ∙ ap (λ (l : List ℕ). fill l 1376 T.params.n numbers) e)

  pub work_later : round ≢ 1
      → after ≡ taken_columns (public_of T (masked_in work)) round numbers κs work (length κs)
      → after ≡ taken_work T round numbers κs work
  unfolding taken_work
  work_later not e = rw (ne_eqb round 1 not) e
