-- `slice::raised_by` meets its contract: each rule's law.
use Prim.Native.Nat.{ℕ, ◌+◌, ◌%◌}
use mathlib.Core.Path.{refl, sym, ap, ap₂, ◌∙◌}
use native.Mathlib.Omega.{arith}
use Rattle.field.specs.Field.{q, sub}
use Rattle.field.proofs.Differences.{reduced_difference}
use Rattle.slice.specs.Layout.{registers}
use Rattle.slice.specs.Weights.{weigh}
use Rattle.slice.proofs.Ranges.{entry_back, carry_raised, zero-sum, top_raised, rises_length, rises_small, over_raised, below_raised}
use lib.ListN.{length}
use Rattle.slice.proofs.raised_by.Goals as goal

pub listed_sum-requires : goal.listed_sum-requires
listed_sum-requires c =
    let a = c.args in
    let fits = c.requires.n_value.1 c.in-Top.is in
    let long = ap length fits.0 ∙ rises_length a.terms.limit in
    record { places_in_bounds = omega (arith, fits, long); by_index = rises_small a.terms.limit a.rises.now (omega arith) fits.0 }

pub returns-in-Carry : goal.returns-in-Carry
returns-in-Carry c κ =
    let a = c.args in
    let r : ℕ → ℕ = λ j. registers a.column.now (a.terms.place + j) in
    rw c.in-Carry.is
    (entry_back a.terms.limit (a.terms.digit + 1) a.terms.n _ r _ c.checked_sub.ensures c.entry_at.ensures _ refl ∙ carry_raised a.terms.n a.terms.limit a.terms.digit r _ refl)

pub returns-in-Zero : goal.returns-in-Zero
returns-in-Zero c κ =
    let start = c in
    let a = start.args in
    let told = c.in-Zero.is in
    let z = start.requires.n_value.0 told in
    let above = c.zero_entry in
    let here = c.zero_entry-in-Zero in
    rw (told, z.0)
    (c.sub_mod.ensures
    ∙ ap₂ (sub q) c.register.ensures c.register-in-Zero.ensures
    ∙ reduced_difference _ _
    ∙ ap₂ (λ (x y : ℕ). sub q (x % q) (y % q))
    (sym (zero-sum a.terms.limit (a.terms.digit + 1) above.result z.1 above.ensures.0 (λ (j : ℕ). registers a.column.now (a.terms.place + j)) above.ensures.1))
    (sym (zero-sum a.terms.limit a.terms.digit here.result (omega (arith, z.1)) here.ensures.0 (λ (j : ℕ). registers a.column.now (a.terms.place + j)) here.ensures.1)))

pub returns-in-Top : goal.returns-in-Top
unfolding weigh
returns-in-Top c κ =
    let a = c.args in
    let told = c.in-Top.is in
    let fits = c.requires.n_value.1 told in
    rw told
    (c.listed_sum.ensures
    ∙ top_raised a.terms.n a.terms.limit a.terms.digit (λ (j : ℕ). registers a.column.now (a.terms.place + j)) a.rises.now fits.1 fits.2 (omega arith) fits.0)

pub returns-in-Over : goal.returns-in-Over
returns-in-Over c κ =
    let a = c.args in
    let r : ℕ → ℕ = λ j. registers a.column.now (a.terms.place + j) in
    rw c.in-Over.is
    (entry_back a.terms.limit a.terms.digit a.terms.n _ r _ c.checked_sub-in-Over.ensures c.entry_at-in-Over.ensures _ refl ∙ over_raised a.terms.n a.terms.limit a.terms.digit r _ refl)

pub returns-in-Below : goal.returns-in-Below
returns-in-Below c κ =
    let a = c.args in
    rw c.in-Below.is
    (c.entry_at-in-Below.ensures ∙ below_raised a.terms.n a.terms.limit a.terms.digit (λ (j : ℕ). registers a.column.now (a.terms.place + j)))
