-- `slice::weighted_sum` meets its contract: each rule's law.
use Prim.Native.Nat.{ℕ, ◌+◌, ◌%◌}
use mathlib.Core.Path.{sym, ap, ◌∙◌}
use native.Mathlib.Omega.{arith}
use Rattle.field.specs.Field.{q}
use Rattle.slice.specs.Layout.{registers}
use Rattle.slice.specs.Weights.{weigh}
use Rattle.slice.proofs.Ranges.{carry-sum, zero-sum, over-sum, below-sum, top_listed, tops_small}
use Rattle.settings.proofs.Sets.{top-length}
use lib.ListN.{length}
use Rattle.slice.proofs.weighted_sum.Goals as goal

pub listed_sum-requires : goal.listed_sum-requires
listed_sum-requires c =
    let a = c.args in
    let fits = c.requires.n_value.1 c.in-Top.is in
    let long = ap length fits.0 ∙ top-length a.terms.limit in
    record { places_in_bounds = omega (arith, fits, long); by_index = λ i h. omega (arith, tops_small a.terms.limit a.tops.now (omega arith) fits.0 i h) }

pub returns-in-Carry : goal.returns-in-Carry
returns-in-Carry c κ =
    let a = c.args in
    rw c.in-Carry.is
    (c.part_sum.ensures ∙ rw c.saturating_sub.ensures (ap (λ (x : ℕ). x % q)
    (sym (carry-sum a.terms.n a.terms.limit a.terms.digit (λ (j : ℕ). registers a.column.now (a.terms.place + j))))))

pub returns-in-Zero : goal.returns-in-Zero
returns-in-Zero c κ =
    let a = c.args in
    let told = c.in-Zero.is in
    let z = c.requires.n_value.0 told in
    let entry = c.zero_entry in
    rw (told, z.0)
    (ap (λ (x : ℕ). x % q) (c.register.ensures ∙ sym (zero-sum a.terms.limit a.terms.digit entry.result z.1 entry.ensures.0
    (λ (j : ℕ). registers a.column.now (a.terms.place + j)) entry.ensures.1)))

pub returns-in-Top : goal.returns-in-Top
unfolding weigh
returns-in-Top c κ =
    let a = c.args in
    let told = c.in-Top.is in
    let fits = c.requires.n_value.1 told in
    rw told
    (c.listed_sum.ensures ∙ ap (λ (x : ℕ). x % q)
    (top_listed a.terms.n a.terms.limit a.terms.digit (λ (j : ℕ). registers a.column.now (a.terms.place + j)) a.tops.now fits.1 fits.2 fits.0))

pub returns-in-Over : goal.returns-in-Over
returns-in-Over c κ =
    let a = c.args in
    rw c.in-Over.is
    (c.part_sum-in-Over.ensures ∙ rw c.saturating_sub-in-Over.ensures (ap (λ (x : ℕ). x % q)
    (sym (over-sum a.terms.n a.terms.limit a.terms.digit (λ (j : ℕ). registers a.column.now (a.terms.place + j))))))

pub returns-in-Below : goal.returns-in-Below
returns-in-Below c κ =
    let a = c.args in
    rw c.in-Below.is
    (c.part_sum-in-Below.ensures ∙ rw c.min.ensures (ap (λ (x : ℕ). x % q)
    (sym (below-sum a.terms.n a.terms.limit a.terms.digit (λ (j : ℕ). registers a.column.now (a.terms.place + j))))))
