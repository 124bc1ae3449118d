-- Round 6 on a plain column: what each zero check checks, what it opens, and what it settles.
use mathlib.Core.Path.{◌≡◌, refl, sym, ap, ◌∙◌}
use mathlib.Core.Bool.{Bool, true, false, cond, ◌&&◌}
use mathlib.Core.List.{List, [], ◌∷◌}
use Prim.Native.Nat.{ℕ, zero, suc, ◌+◌, ◌-◌, ◌*◌, ◌/◌, ◌%◌, ◌≤◌, ◌<◌}
use native.Mathlib.Omega.{arith}
use native.Mathlib.Nat.{mod-eq_of_lt, one-mul, add-mod-mod}
use lib.Dec.{eqb}
use lib.ListN.{length, get_or}
use Rattle.lists.specs.Answers.{bit}
use Rattle.lists.specs.Lists.{every}
use Rattle.lists.proofs.Indicators.{eq_one, eq_zero}
use Rattle.field.specs.Field.{sub}
use Rattle.field.specs.Sums.{sum_to}
use Rattle.field.specs.Forms.{Registers, value}
use Rattle.field.proofs.Sums.{sum-most, sum-front}
use Rattle.field.proofs.Differences.{less_is}
use Rattle.settings.specs.Settings.{Params, params_with}
use Rattle.settings.specs.Sets.{Scale}
use Rattle.rounding.specs.Rounds.{nonzero_count, gap, check_opens, check_result, inside_result}
use Rattle.settings.specs.Theorems.{Lawful}
use Rattle.rounding.proofs.ZeroCheck.{index_below}
use Rattle.book.specs.Book.{group_k, group_gap, group_at}
use Rattle.settings.specs.Sizes.{groups}
use Rattle.slice.specs.Layout.{running_at}
use Rattle.steps.specs.Steps.{Public, public_of, inside_form, insides, checked, open_check, check_entry}
use Rattle.column.specs.Clear.{clear_running, clear_checked}
use Rattle.column.proofs.Clear.{terms_with, terms_for, five-below, high_second}
use Rattle.column.proofs.Gates.{Held}

-- ---- a zero check of any group

-- the gap of the groups, from those of both kinds
pub group-gaps : (p : Params) → Lawful p.scale → p.scale.modulus % (p.n + 1) ≤ gap p.scale.modulus p.n → p.scale.modulus % (group_k p + 1) ≤ group_gap p
group-gaps p ok h = go (eqb p.kind 0)
  where
    go : (b : Bool) → p.scale.modulus % (cond b 5 p.n + 1) ≤ gap p.scale.modulus (cond b 5 p.n)
    go true = ok.checks
    go false = h

module _ {p : Params} (ok : Lawful p.scale) (bound : ℕ) (masked : ℕ → ℕ) {v : Registers} {d : ℕ → ℕ} (book : Held p v d)
    (gaps : p.scale.modulus % (p.n + 1) ≤ gap p.scale.modulus p.n) (g : ℕ) (here : g < groups p) where
  abbrev w : Public
  w = public_of (terms_for p bound) masked

  pub check-opens : (x : ℕ) → value p.scale.modulus 1 v (checked w g) ≡ x → value p.scale.modulus 1 v (open_check w g) ≡ check_opens p.scale.modulus (group_k p) (d (group_at p g)) x
  unfolding open_check
  check-opens x e = rw (e, book.group g here) (add-mod-mod _ _ _)

  pub check_entry_lem : (x : ℕ) → x < p.scale.modulus → value p.scale.modulus 1 v (check_entry w g x) ≡ check_result p.scale.modulus (group_k p) (d (group_at p g)) x
  unfolding check_entry
  check_entry_lem x h =
      book.marks g (x / group_gap p) here
      (index_below p.scale.modulus (group_k p) (omega arith) (group-gaps p ok gaps) x h)

-- ---- what is checked

-- ys are the y of the coefficients, rs their masks
module _ (p : Scale) (ok : Lawful p) (n bound : ℕ) (masked ys rs : ℕ → ℕ) (v : Registers) where
  -- HIGH: five less the zeros and G
  checked-high : (c : ℕ) → ys c < p.modulus → rs c < p.modulus → v (running_at 1 c) ≡ clear_running (terms_with p 0 n bound) (ys c) (rs c) 5 1
      → value p.modulus 1 v (checked (public_of (terms_with p 0 n bound) masked) c) ≡ clear_checked (terms_with p 0 n bound) ys rs c
  unfolding checked clear_checked nonzero_count
  checked-high c hy hr e =
      ap (sub p.modulus (1 * 5 % p.modulus)) e
      ∙ less_is p.modulus 5 (clear_running (terms_with p 0 n bound) (ys c) (rs c) 5 1) (five-below p ok) (high_second p ok n bound (ys c) (rs c) hy hr 5)
      ∙ (unfold clear_running in refl)

  -- BOUND: N less the insides
  module _ (same : (c : ℕ) → c < n → masked c ≡ ys c) (after : (c k : ℕ) → c < n → k < 2 → v (running_at k c) ≡ clear_running (terms_with p 1 n bound) (ys c) (rs c) 5 k)
      (small : (c : ℕ) → c < n → inside_result p bound (ys c) (rs c) ≤ 1) (most : n < p.modulus) where
    abbrev inside_of : ℕ → ℕ
    inside_of c = inside_result p bound (ys c) (rs c)

    inside_is : (c : ℕ) → c < n → value p.modulus 1 v (inside_form p.modulus bound (masked c) c) ≡ inside_of c
    unfolding inside_form inside_result clear_running
    inside_is c h = rw (same c h, after c 0 h (omega arith), after c 1 h (omega arith), one-mul) (add-mod-mod _ _ _)

    insides_are : (c : ℕ) → c ≤ n → value p.modulus 1 v (insides (public_of (terms_with p 1 n bound) masked) c) ≡ sum_to c inside_of
    unfolding insides sum_to
    insides_are zero h = mod-eq_of_lt (omega arith)
    insides_are (suc c) h =
        rw (insides_are c (omega arith), inside_is c h)
        (mod-eq_of_lt (omega (arith, sum-most c inside_of (λ j l. small j (omega arith)), small c h)))

    checked-bound : (g : ℕ) → value p.modulus 1 v (checked (public_of (terms_with p 1 n bound) masked) g) ≡ clear_checked (terms_with p 1 n bound) ys rs g
    unfolding checked clear_checked
    checked-bound g =
        ap (sub p.modulus (1 * n % p.modulus)) (insides_are n (omega arith))
        ∙ less_is p.modulus n (sum_to n inside_of) most (sum-most n inside_of small)

  pub checked-is : (kind : ℕ) → kind < 2 → ((c : ℕ) → c < n → masked c ≡ ys c) → ((c k : ℕ) → c < n → k < 2 → v (running_at k c) ≡ clear_running (terms_with p kind n bound) (ys c) (rs c) 5 k)
      → ((c : ℕ) → ys c < p.modulus) → ((c : ℕ) → rs c < p.modulus) → (kind ≡ 1 → (c : ℕ) → c < n → inside_result p bound (ys c) (rs c) ≤ 1) → n < p.modulus
      → (g : ℕ) → g < groups (params_with p kind n) → value p.modulus 1 v (checked (public_of (terms_with p kind n bound) masked) g) ≡ clear_checked (terms_with p kind n bound) ys rs g
  checked-is zero h same after hy hr small most g l = checked-high g (hy g) (hr g) (after g 1 l (omega arith))
  checked-is (suc zero) h same after hy hr small most g l = checked-bound same after (small refl) most g
  checked-is (suc (suc kind)) h same after hy hr small most g l = absurd (omega arith)

-- ---- the verdict: all are inside just if as many are inside as there are

data Full (n count b : ℕ) : Type 0 where
  full : count ≡ n → b ≡ 1 → Full n count b
  short : count < n → b ≡ 0 → Full n count b

full_more : (t u : Bool) (n count : ℕ) → Full n count (bit u) → Full (suc n) (bit t + count) (bit (t && u))
unfolding bit
full_more true u n count (full e f) = full (omega arith) f
full_more true u n count (short e f) = short (omega arith) f
full_more false u n count (full e f) = short (omega arith) refl
full_more false u n count (short e f) = short (omega arith) refl

full_view : (t : ℕ → Bool) (xs : List ℕ) → Full (length xs) (sum_to (length xs) (λ j. bit (t (get_or xs j 0)))) (bit (every t xs))
unfolding every
full_view t [] = full (unfold sum_to in refl) (unfold bit in refl)
full_view t (x ∷ xs) = rw (sum-front (length xs) (λ j. bit (t (get_or (x ∷ xs) j 0)))) (full_more (t x) (every t xs) (length xs) _ (full_view t xs))

pub every-is : (t : ℕ → Bool) (xs : List ℕ) → bit (eqb (length xs - sum_to (length xs) (λ j. bit (t (get_or xs j 0)))) 0) ≡ bit (every t xs)
every-is t xs =
    let n : ℕ = length xs in
    let count : ℕ = sum_to n (λ j. bit (t (get_or xs j 0))) in
    elim (full_view t xs) [
      | full e f ↦ eq_one {a = n - count} {b = 0} (omega arith) ∙ sym f
      | short e f ↦ eq_zero {a = n - count} {b = 0} (omega arith) ∙ sym f
    ]
