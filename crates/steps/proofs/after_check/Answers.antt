-- `steps::after_check` meets its contract. Assumes nothing.
use Rattle.steps.specs.Steps.{after_check}
use borrow.Author.Tests.{eq-eqb, ne_eqb}
use Rattle.steps.proofs.after_check.Goals as goal

pub returns-then-kind-eq0 : goal.returns-then-kind-eq0
unfolding after_check
returns-then-kind-eq0 c =
    let if1 = c.if-kind-eq0 in
    let check_entry_lem = c.check_entry-wrap in
    λ masked κ. rw (eq-eqb _ _ if1.true, ← c.group_of.ensures, ← check_entry_lem.ensures masked κ, ← c.register.ensures) c.sub_mod.ensures

pub returns-then-j-eq0 : goal.returns-then-j-eq0
unfolding after_check
returns-then-j-eq0 c = λ masked κ. rw (ne_eqb _ _ c.if-kind-eq0.false, eq-eqb _ _ c.if-j-eq0.true, ← c.group_of.ensures)
    (c.check_entry.ensures masked κ)

pub returns : goal.returns
unfolding after_check
returns c = λ masked κ. rw (ne_eqb _ _ c.if-kind-eq0.false, ne_eqb _ _ c.if-j-eq0.false) c.register-2.ensures
