-- `column::prepare_gates` meets its contract. Assumes nothing.
use Rattle.column.proofs.Contexts.{gate_u, gate_v}
use Rattle.column.proofs.Tables.{openings_more}
use Rattle.slice.specs.Layout.{column}
use Rattle.field.specs.Forms.{value}
use Rattle.field.specs.Field.{q}
use Rattle.steps.proofs.Contexts.{place_in, count_most}
use Rattle.steps.proofs.Gates.{listed}
use Rattle.slice.specs.Weights.{top_rises}
use Rattle.column.specs.Choice.{column_at}
use Rattle.column.specs.Held.{opening_in}
use Rattle.steps.specs.Context.{public_by}
use Prim.Native.Nat.{ℕ, ◌≤◌, ◌-◌, ◌+◌, ◌*◌}
use mathlib.Core.Path.{◌≡◌, refl, ap, ◌∙◌}
use native.Mathlib.Omega.{arith}
use borrow.Author.Tests.{eq-eqb}
use lib.ListN.{get_or}
use Rattle.steps.specs.Gates.{Listed, open_u, open_v}
use Rattle.std.proofs.Common.{rules}
use Rattle.column.proofs.prepare_gates.Goals as goal

pub offset_bounds-known-x : goal.offset_bounds-known-x
offset_bounds-known-x c =
    let a = c.args in
    let at = c.loop-g in
    let p = c.requires in
    omega (arith, place_in a.known.settings.shape at.g (omega arith), count_most a.known.settings.shape p.ready.0.shape.most, c.split_place-x.ensures)

pub bounds-known-x : goal.bounds-known-x
bounds-known-x c =
    let a = c.args in
    let at = c.loop-g in
    let p = c.requires in
    omega (arith, place_in a.known.settings.shape at.g (omega arith), count_most a.known.settings.shape p.ready.0.shape.most, c.split_place-x.ensures)

pub gate_of-gate-requires : goal.gate_of-gate-requires
gate_of-gate-requires c =
    let a = c.args in
    let at = c.loop-g in
    let p = c.requires in
    let known = a.known in
    let in_count = place_in known.settings.shape at.g (omega arith) in
    record {
      shape_ready = p.ready.0.shape;
      g_bound = (omega arith, omega arith, omega arith, p.ready.1 c.split_place-x.result _ (rw c.split_place-x.ensures in_count) (omega arith));
    }

pub into_columns-requires-in-loop-g-clause-takes : goal.into_columns-requires-in-loop-g-clause-takes
into_columns-requires-in-loop-g-clause-takes c =
    let gate-of = c.gate_of-gate in
    let p = c.requires in
    let known = c.args.known in
    let fifth : 4 ≤ known.round - 1 → known.round ≡ 5 = λ last. omega (arith, last, p.round) in
    let list : Listed top_rises gate-of.result.terms c.args.rises.now = rw gate-of.ensures.0 (listed top_rises known.settings.shape _ (known.round - 1) _ (λ kind last. p.ready.2 (rw (eq-eqb _ _ kind, eq-eqb _ _ (fifth last)) refl))) in
    λ f h. search rules

pub loop-g-preserved : goal.loop-g-preserved
loop-g-preserved c =
    let at = c.loop-g in
    let p = c.requires in
    let split-place = c.split_place-x in
    let gate-of = c.gate_of-gate in
    let a = c.args in
    let known = a.known in
    let g = at.g in
    let later : 2 ≤ known.round = p.round.0 in
    let skip = a.columns.choice.skip in
    λ masked made.
    let w = public_by known.settings masked in
    let F : ℕ → ℕ → ℕ = λ d o. opening_in w known.round a.columns.weights.now a.columns.work.now (column_at skip d) o in
    let u = gate_u known masked made g split-place.result (omega arith) split-place.ensures later p.round.1 gate-of.result gate-of.ensures.0 in
    let v = gate_v known masked made g split-place.result (omega arith) split-place.ensures later p.round.1 gate-of.result gate-of.ensures.0 in
    let one = openings_more F at.out a.columns.choice.count (2 * g) _
    (omega (arith, p.ready.0.shape.most)) (omega (arith, p.out_long, at.auto.out))
    (c.into_columns.ensures (λ f. F f (2 * g)) (λ f x h post.
    let is : x ≡ value q (get_or a.columns.weights.now (column_at skip f) 0) (column a.columns.work.now (column_at skip f)) (open_u gate-of.result) = search rules in
    is ∙ ap (value q (get_or a.columns.weights.now (column_at skip f) 0) (column a.columns.work.now (column_at skip f))) u)) (at.invariant masked made) in
    let two = openings_more F c.into_columns.new.out a.columns.choice.count (2 * g + 1) _
    (omega (arith, p.ready.0.shape.most)) (omega (arith, p.out_long, at.auto.out, c.into_columns.auto.out))
    (c.into_columns-in-loop-g.ensures (λ f. F f (2 * g + 1)) (λ f x h post.
    let is : x ≡ value q (get_or a.columns.weights.now (column_at skip f) 0) (column a.columns.work.now (column_at skip f)) (open_v gate-of.result) = search rules in
    is ∙ ap (value q (get_or a.columns.weights.now (column_at skip f) 0) (column a.columns.work.now (column_at skip f))) v)) one in
    λ d o h l. two d o h (omega arith)

pub returns : goal.returns
returns c = λ masked made d o h l. c.loop-g.invariant masked made d o h (omega arith)
