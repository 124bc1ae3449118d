-- `steps::split_count` meets its contract.
use mathlib.Core.Path.{sym, ◌∙◌}
use native.Mathlib.Omega.{arith}
use Rattle.steps.proofs.Contexts.{count-high, count-bound, counted-all}
use Rattle.steps.proofs.split_count.Goals as goal

pub returns-then-shape-eq0 : goal.returns-then-shape-eq0
returns-then-shape-eq0 c =
    let a = c.args in
    let looks = sym c.looks_at.ensures ∙ c.if-not-looks_at.false in
    (sym (counted-all looks ∙ count-high a.shape c.if-shape-eq0.true), omega arith)

pub returns : goal.returns
returns c =
    let a = c.args in
    let looks = sym c.looks_at.ensures ∙ c.if-not-looks_at.false in
    (sym (counted-all looks ∙ count-bound a.shape c.if-shape-eq0.false), omega arith)
