-- `column::first_registers` meets its contract. Assumes nothing.
use Rattle.column.proofs.Contexts.{terms_register}
use Rattle.steps.specs.Work.{running_on}
use Rattle.column.proofs.Tables.{slots_more}
use Rattle.column.specs.Held.{slot}
use Rattle.steps.specs.Context.{public_by}
use mathlib.Core.List.{[]}
use Rattle.slice.specs.Layout.{column}
use Rattle.field.specs.Forms.{Form, value}
use Rattle.field.specs.Field.{q}
use Rattle.lists.specs.Lists.{fill_by}
use Rattle.steps.proofs.Contexts.{place_in, count_most}
use Rattle.steps.proofs.Gates.{listed}
use Rattle.settings.specs.Sets.{top_digits}
use Prim.Native.Nat.{ℕ, ◌≤◌, ◌%◌, ◌/◌}
use mathlib.Core.Path.{◌≡◌, ap, ◌∙◌}
use native.Mathlib.Omega.{arith}
use lib.ListN.{get_or}
use Rattle.steps.specs.Gates.{Listed, sum_form}
use Rattle.std.proofs.Common.{rules}
use Rattle.column.proofs.first_registers.Goals as goal

pub offset_bounds-known-x : goal.offset_bounds-known-x
offset_bounds-known-x c =
    let a = c.args in
    let at = c.loop-g in
    let p = c.requires in
    omega (arith, place_in a.known.settings.shape at.g (omega arith), count_most a.known.settings.shape p.ready.0.shape.most, c.split_place-x.ensures)

pub bounds-known-x : goal.bounds-known-x
bounds-known-x c =
    let a = c.args in
    let at = c.loop-g in
    let p = c.requires in
    omega (arith, place_in a.known.settings.shape at.g (omega arith), count_most a.known.settings.shape p.ready.0.shape.most, c.split_place-x.ensures)

pub terms_of-terms-requires : goal.terms_of-terms-requires
terms_of-terms-requires c =
    let a = c.args in
    let at = c.loop-g in
    let p = c.requires in
    let known = a.known in
    let in_count = place_in known.settings.shape at.g (omega arith) in
    record { shape_ready = p.ready.0.shape; g_bound = (omega arith, omega arith, p.ready.1 c.split_place-x.result _ (rw c.split_place-x.ensures in_count) (omega arith)) }

pub into_columns-requires-clause-takes : goal.into_columns-requires-clause-takes
into_columns-requires-clause-takes c =
    let known = c.args.known in
    let terms-of = c.terms_of-terms in
    let never : 4 ≤ 0 → ⊥ = λ last. omega (arith, last) in
    let list : Listed top_digits terms-of.result [] = rw terms-of.ensures.0 (listed top_digits known.settings.shape _ 0 [] (λ kind last. absurd (never last))) in
    λ f h. search rules

pub loop-g-preserved : goal.loop-g-preserved
loop-g-preserved c =
    let sums = λ (κ : ℕ → ℕ). c.into_columns.ensures (λ f. value q (κ f) (column c.args.work.now f) (sum_form c.terms_of-terms.result 0)) (λ f x m post.
    let sum : x ≡ value q 0 (column c.args.work.now f) (sum_form c.terms_of-terms.result 0) = search rules in sum) in
    let at = c.loop-g in
    let split-place = c.split_place-x in
    let terms-of = c.terms_of-terms in
    let p = c.requires in
    let a = c.args in
    let known = a.known in
    let g = at.g in
    λ masked opened κs long made.
    let κ : ℕ → ℕ = λ d. get_or κs d 0 in
    let is = terms_register known masked made g split-place.result (omega arith) split-place.ensures (omega (arith, p.round_value.0)) (omega (arith, p.round_value.0))
    terms-of.result opened terms-of.ensures.0 in
    λ d k h l.
    slots_more (λ (d k : ℕ). running_on (public_by known.settings masked) 1 opened (κ d) (column a.work.now d) (k % 2) (k / 2)) at.next a.columns g _
    (omega (arith, p.ready.0.shape.most)) (omega (arith, p.round_value, at.auto.next))
    (sums κ ∙ ap (λ (form : Form). fill_by 16 at.next (slot g) a.columns (λ (d : ℕ). value q (κ d) (column a.work.now d) form)) is)
    (λ d k h l. at.invariant masked opened κs long made d k (omega arith) l) d k (omega arith) l

pub returns : goal.returns
returns c = λ masked opened κs long made d k h l. c.loop-g.invariant masked opened κs long made d k h (omega arith)
