-- `column::registers_into` meets its contract. Assumes nothing.
use Rattle.column.proofs.Contexts.{settled, held_below, gates_held}
use Rattle.steps.proofs.Contexts.{looks_middle, splits_below}
use Rattle.steps.proofs.Bounds.{open_first, open_middle}
use Rattle.slice.specs.Layout.{masked_in}
use Rattle.settings.specs.Settings.{params_of}
use borrow.Author.Tests.{ne_eqb}
use lib.ListN.{get_or}
use mathlib.Core.Path.{refl}
use Prim.Native.Nat.{ℕ, ◌+◌}
use native.Mathlib.Omega.{arith}
use Rattle.column.proofs.registers_into.Goals as goal

pub context_of-seen-requires : goal.context_of-seen-requires
context_of-seen-requires c =
    let p = c.requires in
    let a = c.args in
    record { ready = p.ready; n_in_bounds = omega (arith, open_first (params_of a.known.settings.shape) a.known.round c.if-round-eq1.true, p.long) }

pub first_registers-requires : goal.first_registers-requires
first_registers-requires c =
    let p = c.requires in
    let if1 = c.if-round-eq1 in
    let a = c.args in
    let made = c.context_of-seen.ensures in record {
      ready = (
        rw made.settings_kept p.ready,
        splits_below a.known.settings (a.known.round + 1) (λ (j : ℕ). get_or a.numbers.opened.now j 0) c.context_of-seen.result p.ready.shape.sets a.numbers.fitting.opened_below
            (looks_middle a.known.settings.shape.kind (a.known.round + 1) (omega (arith, if1.true)) (omega (arith, if1.true))) made,
      );
      round_value = (omega (arith, made.round_kept, if1.true), omega (arith, p.long), omega (arith, a.numbers.fitting.columns_long));
    }

pub returns-then-round-eq1 : goal.returns-then-round-eq1
returns-then-round-eq1 c = let a = c.args in
    let made = c.context_of-seen.ensures in
    let numbers : ℕ → ℕ = λ (o : ℕ). get_or a.numbers.opened.now o 0 in
    rw c.if-round-eq1.true
    (rw made.settings_kept at (c.first_registers.ensures numbers numbers a.numbers.weights.now refl (settled made)))

pub digit_registers-requires : goal.digit_registers-requires
digit_registers-requires c =
    let p = c.requires in
    let if1 = c.if-round-eq1 in
    let a = c.args in
    let known = a.known in
    let made = p.context_of in
    record {
      ready = (p.ready, held_below a.numbers.work.now p.round.1 known.settings known.round known p.ready.shape.sets (omega (arith, if1.false, p.round)) c.if-round-le5.true made);
      round = (omega (arith, if1.false, p.round), c.if-round-le5.true);
      long = (omega (arith, p.long), omega (arith, open_middle (params_of known.settings.shape) known.round if1.false c.if-round-le5.true, p.long));
      gates_held = gates_held known (masked_in a.numbers.work.now) a.numbers.weights.now a.numbers.work.now a.numbers.own.now made (omega (arith, if1.false, p.round)) c.if-round-le5.true p.held_all;
    }

pub returns-then-round-le5 : goal.returns-then-round-le5
returns-then-round-le5 c =
    let if1 = c.if-round-eq1 in
    let digit-registers = c.digit_registers in
    let p = c.requires in
    let a = c.args in
    rw (ne_eqb a.known.round 1 if1.false) (digit-registers.ensures (masked_in a.numbers.work.now) p.context_of)

pub returns : goal.returns
returns c = let a = c.args in
    rw (ne_eqb a.known.round 1 c.if-round-eq1.false) (c.late_registers.ensures (masked_in a.numbers.work.now))
