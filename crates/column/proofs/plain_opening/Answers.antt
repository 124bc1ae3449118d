-- `column::plain_opening` meets its contract. Assumes nothing.
use Rattle.column.proofs.Contexts.{check-high}
use Rattle.steps.specs.Context.{public_by}
use Rattle.slice.specs.Layout.{running_at, registers}
use Rattle.field.specs.Forms.{value, reg}
use Rattle.field.specs.Field.{q}
use mathlib.Core.Path.{ap, ◌∙◌}
use Rattle.steps.specs.Steps.{opening}
use Rattle.settings.specs.Settings.{params_of}
use Rattle.steps.proofs.Bounds.{open_first, open_late}
use borrow.Author.Tests.{eq-eqb, ne_eqb, lt-leb}
use native.Mathlib.Omega.{arith}
use Rattle.column.proofs.plain_opening.Goals as goal

pub open_input-requires : goal.open_input-requires
open_input-requires c = record { ready = c.requires.ready; coefficient = omega (arith, open_first (params_of c.args.settings.shape) c.args.round c.if-round-eq1.true) }

pub returns-then-round-eq1 : goal.returns-then-round-eq1
unfolding opening
returns-then-round-eq1 c = λ masked. rw (eq-eqb _ _ c.if-round-eq1.true, ← c.column_of-column.ensures) (c.open_input.ensures masked)

pub overflow_add-o : goal.overflow_add-o
overflow_add-o c =
    let a = c.args in
    let p = c.requires in
    omega (arith, open_late (params_of a.settings.shape) a.round c.if-round-eq1.false (p.lt_round.0 c.if-round-eq1.false) p.ready.shape.some)

pub register-zeros-requires : goal.register-zeros-requires
register-zeros-requires c =
    let a = c.args in
    let p = c.requires in
    omega (arith, open_late (params_of a.settings.shape) a.round c.if-round-eq1.false (p.lt_round.0 c.if-round-eq1.false) p.ready.shape.some)

pub open_check-requires : goal.open_check-requires
open_check-requires c =
    let p = c.requires in
    let a = c.args in
    let if1 = c.if-round-eq1 in
    record { shape_ready = p.ready.shape; group_in = omega (arith, open_late (params_of a.settings.shape) a.round if1.false (p.lt_round.0 if1.false) p.ready.shape.some) }

pub returns-then-round-eq6 : goal.returns-then-round-eq6
returns-then-round-eq6 c = λ masked.
    let a = c.args in
    rw (← c.column_of-column.ensures)
    (c.open_check.ensures (reg (running_at 1 a.o)) c.register-zeros.ensures
    ∙ ap (value q a.col.weight (registers c.column_of-column.result.now))
    (check-high (public_by a.settings masked) a.round a.o c.if-round-eq6.true (c.requires.lt_round.1 c.if-round-eq6.true)))

pub overflow_add-o-2 : goal.overflow_add-o-2
overflow_add-o-2 c =
    let a = c.args in
    let p = c.requires in
    omega (arith, open_late (params_of a.settings.shape) a.round c.if-round-eq1.false (p.lt_round.0 c.if-round-eq1.false) p.ready.shape.some)

pub register-requires : goal.register-requires
register-requires c =
    let a = c.args in
    let p = c.requires in
    omega (arith, open_late (params_of a.settings.shape) a.round c.if-round-eq1.false (p.lt_round.0 c.if-round-eq1.false) p.ready.shape.some)

pub returns : goal.returns
unfolding opening
returns c =
    let if1 = c.if-round-eq1 in
    let a = c.args in
    let p = c.requires in
    λ masked. rw (ne_eqb _ _ if1.false, lt-leb a.round 5 (p.lt_round.0 if1.false), ne_eqb _ _ c.if-round-eq6.false, ← c.column_of-column.ensures) c.register.ensures
