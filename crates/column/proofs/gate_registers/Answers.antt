-- `column::gate_registers` meets its contract. Assumes nothing.
use Rattle.column.proofs.Contexts.{gate_held, gate_register}
use Rattle.steps.specs.Work.{running_on}
use Rattle.column.proofs.Tables.{slots_more}
use Rattle.steps.specs.Context.{public_by}
use Rattle.slice.specs.Layout.{column}
use Rattle.steps.proofs.Contexts.{place_in, count_most}
use Rattle.steps.proofs.Gates.{listed}
use Rattle.settings.specs.Sets.{top_digits}
use Prim.Native.Nat.{ℕ, ◌≤◌, ◌-◌, ◌%◌, ◌/◌}
use mathlib.Core.Path.{◌≡◌, refl}
use native.Mathlib.Omega.{arith}
use borrow.Author.Tests.{eq-eqb}
use lib.ListN.{length, get_or}
use Rattle.column.proofs.gate_registers.Goals as goal

pub offset_bounds-known-x : goal.offset_bounds-known-x
offset_bounds-known-x c =
    let a = c.args in
    let at = c.loop-g in
    let p = c.requires in
    omega (arith, place_in a.known.settings.shape at.g (omega arith), count_most a.known.settings.shape p.ready.0.shape.most, c.split_place-x.ensures)

pub bounds-known-x : goal.bounds-known-x
bounds-known-x c =
    let a = c.args in
    let at = c.loop-g in
    let p = c.requires in
    omega (arith, place_in a.known.settings.shape at.g (omega arith), count_most a.known.settings.shape p.ready.0.shape.most, c.split_place-x.ensures)

pub gate_of-gate-requires : goal.gate_of-gate-requires
gate_of-gate-requires c =
    let a = c.args in
    let at = c.loop-g in
    let p = c.requires in
    let known = a.known in
    let in_count = place_in known.settings.shape at.g (omega arith) in
    record {
      shape_ready = p.ready.0.shape;
      g_bound = (
        omega arith,
        omega (arith, p.round),
        omega (arith, p.round),
        p.ready.1 c.split_place-x.result _ (rw c.split_place-x.ensures in_count)
            (omega (arith, p.round)),
      );
    }

pub results_into-requires : goal.results_into-requires
results_into-requires c =
    let at = c.loop-g in
    let p = c.requires in
    let split-place = c.split_place-x in
    let a = c.args in
    let known = a.known in
    let g = at.g in
    let fifth : 4 ≤ known.round - 1 → known.round ≡ 5 = λ last. omega (arith, last, p.round) in
    record {
      gate_fits = (
        c.gate_of-gate.ensures.1,
        rw c.gate_of-gate.ensures.0
            (listed top_digits known.settings.shape _ (known.round - 1) _ (λ kind last. p.ready.2 (rw (eq-eqb _ _ kind, eq-eqb _ _ (fifth last)) refl))),
      );
      next_long = omega (arith, p.long, at.auto.next);
      opened_long = rw c.gate_of-gate.ensures.0 (omega (arith, p.long));
      by_index = λ d h.
          gate_held known g split-place.result split-place.ensures c.gate_of-gate.result c.gate_of-gate.ensures.0 _ _ a.numbers.own.now d
          (p.gates_held d g h (omega arith));
    }

pub loop-g-preserved : goal.loop-g-preserved
loop-g-preserved c =
    let at = c.loop-g in
    let p = c.requires in
    let split-place = c.split_place-x in
    let gate-of = c.gate_of-gate in
    let results-into = c.results_into in
    let a = c.args in
    let known = a.known in
    let g = at.g in
    let opened : ℕ → ℕ = λ (o : ℕ). get_or a.numbers.opened.now o 0 in
    let later : 2 ≤ known.round = p.round.0 in
    λ masked made.
    slots_more (λ (d k : ℕ). running_on (public_by known.settings masked) known.round opened (get_or a.numbers.weights.now d 0) (column a.numbers.work.now d) (k % 2) (k / 2)) at.next
    (length a.numbers.weights.now) g _
    (omega (arith, p.ready.0.shape.most)) (omega (arith, p.long, at.auto.next))
    (gate_register known masked made g split-place.result (omega arith) split-place.ensures later p.round.1 gate-of.result gate-of.ensures.0
    (length a.numbers.weights.now) (λ (d : ℕ). get_or a.numbers.weights.now d 0) (λ (d : ℕ). column a.numbers.work.now d) opened at.next _ results-into.ensures)
    (at.invariant masked made)

pub returns : goal.returns
returns c = λ masked made d k h l. c.loop-g.invariant masked made d k h (omega arith)
