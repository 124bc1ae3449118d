-- `column::take_work` meets its contract. Assumes nothing.
use Rattle.column.proofs.Written.{held_first, work_first, work_later}
use Rattle.steps.proofs.Bounds.{open_first}
use Rattle.slice.specs.Layout.{masked_in}
use Rattle.settings.specs.Settings.{params_of, terms_of}
use borrow.Author.Tests.{eq-eqb, ne_eqb}
use lib.ListN.{get_or}
use Prim.Native.Nat.{ℕ}
use native.Mathlib.Omega.{arith}
use Rattle.column.proofs.take_work.Goals as goal

pub copy_numbers-requires : goal.copy_numbers-requires
copy_numbers-requires c =
    let a = c.args in
    let if1 = c.if-round-eq1 in
    let p = c.requires in
    let put-columns = c.put_columns in
    omega (arith, open_first (params_of a.known.settings.shape) a.known.round if1.true, p.le_round, p.weights_in_bounds.1, p.ready.shape.most, put-columns.auto)

pub returns-then-round-eq1 : goal.returns-then-round-eq1
returns-then-round-eq1 c =
    let if1 = c.if-round-eq1 in
    let put-columns = c.put_columns in
    let p = c.requires in
    let registers-into = c.registers_into in
    let copy-numbers = c.copy_numbers in
    let a = c.args in
    let known = a.known in
    let T = terms_of known.settings in
    let numbers : ℕ → ℕ = λ (o : ℕ). get_or a.opened.now o 0 in
    let one = if1.true in
    work_first T known.round a.opened.now a.weights.now a.work.now put-columns.new.work _ one
    (put-columns.ensures numbers numbers (held_first T (masked_in a.work.now) numbers known.round a.weights.now a.work.now a.own.now one p.held_all)
    (rw (eq-eqb known.round 1 one) at registers-into.ensures))
    copy-numbers.ensures

pub returns-else-round-eq1 : goal.returns-else-round-eq1
returns-else-round-eq1 c =
    let put-columns = c.put_columns in
    let p = c.requires in
    let registers-into = c.registers_into in
    let a = c.args in
    let known = a.known in
    let T = terms_of known.settings in
    let numbers : ℕ → ℕ = λ (o : ℕ). get_or a.opened.now o 0 in
    let not = c.if-round-eq1.false in
    work_later T known.round a.opened.now a.weights.now a.work.now put-columns.new.work not
    (put-columns.ensures (masked_in a.work.now) numbers p.held_all (rw (ne_eqb known.round 1 not) at registers-into.ensures))
