-- `column::late_register` meets its contract. Assumes nothing.
use Rattle.steps.specs.Steps.{running, after_check}
use Rattle.settings.specs.Settings.{params_of}
use Rattle.steps.proofs.Bounds.{check_in}
use borrow.Author.Tests.{eq-eqb, ne_eqb, lt-leb}
use native.Mathlib.Omega.{arith}
use mathlib.Core.Path.{◌≡◌}
use Prim.Native.Nat.{◌/◌, ◌%◌}
use Rattle.column.proofs.late_register.Goals as goal

pub returns-then-round-ne6 : goal.returns-then-round-ne6
unfolding running
returns-then-round-ne6 c =
    let a = c.args in
    λ masked κ. rw (ne_eqb a.round 1 (omega arith), lt-leb a.round 5 (omega arith), ne_eqb _ _ c.if-round-ne6.true, ← c.column_of-column.ensures) c.register-kept.ensures

pub returns-then-g-ne0 : goal.returns-then-g-ne0
unfolding running after_check
returns-then-g-ne0 c =
    let a = c.args in
    let register = c.register-kept in
    λ masked κ. rw (ne_eqb a.round 1 (omega arith), lt-leb a.round 5 (omega arith), eq-eqb _ _ c.if-round-ne6.false, ne_eqb _ _ c.if-g-ne0.true, ← c.column_of-column.ensures) register.ensures

pub after_check-requires : goal.after_check-requires
after_check-requires c =
    let p = c.requires in
    let a = c.args in
    record {
      ready = p.ready;
      coefficient = omega arith;
      opened_below = (omega (arith, check_in (params_of a.settings.shape) a.round (a.g / 2) (omega arith) (omega arith) (omega arith)), a.numbers.fitting.opened_below);
    }

pub returns : goal.returns
unfolding running
returns c =
    let a = c.args in
    let if1 = c.if-round-ne6 in
    λ masked κ. let even : a.g % 2 ≡ 0 = c.if-g-ne0.false in rw (ne_eqb a.round 1 (omega arith), lt-leb a.round 5 (omega arith), eq-eqb _ _ if1.false, even, ← c.column_of-column.ensures)
    (c.after_check.ensures masked κ)
