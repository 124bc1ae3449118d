-- `column::prepare` meets its contract. Assumes nothing.
use Rattle.column.proofs.Contexts.{held_below}
use Rattle.steps.proofs.Bounds.{open_middle, open_one}
use Rattle.slice.specs.Layout.{masked_in}
use Rattle.settings.specs.Settings.{params_of}
use native.Mathlib.Omega.{arith}
use Rattle.column.proofs.prepare.Goals as goal

pub prepare_digits-requires : goal.prepare_digits-requires
prepare_digits-requires c =
    let p = c.requires in
    let if1 = c.if-round-eq1 in
    let a = c.args in
    let known = a.known in
    record {
      ready = (p.ready, held_below a.columns.work.now p.round.1 known.settings known.round known p.ready.shape.sets (omega (arith, if1.false, p.round)) c.if-round-le5.true p.context_of);
      out_long = p.out_long;
      round = (omega (arith, if1.false, p.round), c.if-round-le5.true);
    }

pub returns-then-round-le5 : goal.returns-then-round-le5
returns-then-round-le5 c =
    let if1 = c.if-round-eq1 in
    let if2 = c.if-round-le5 in
    let prepare-digits = c.prepare_digits in
    let p = c.requires in
    let a = c.args in
    let known = a.known in
    rw (open_middle (params_of known.settings.shape) known.round if1.false if2.true) (prepare-digits.ensures (masked_in a.columns.work.now) p.context_of)

pub returns-then-round-eq6 : goal.returns-then-round-eq6
returns-then-round-eq6 c =
    let if1 = c.if-round-eq1 in
    let if4 = c.if-round-eq6 in
    let if3 = c.if-known-eq0 in
    let prepare-insides = c.prepare_insides in
    let p = c.requires in
    let a = c.args in
    let known = a.known in
    rw (open_one (params_of known.settings.shape) known.round if1.false (omega (arith, if4.true)) if3.false)
    (prepare-insides.ensures (masked_in a.columns.work.now) p.context_of)
