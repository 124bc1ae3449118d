-- `execution::execute` meets its contract.
use mathlib.Core.Path.{sym, ◌∙◌}
use Rattle.execution.proofs.Given.{as_many, runs-given, runs-dealt}
use Rattle.execution.proofs.execute.Goals as goal

pub execute_given-requires : goal.execute_given-requires
execute_given-requires c =
    let a = c.args in
    (as_many a.terms.settings.shape a.numbers.now (sym c.books_given.ensures ∙ c.if-books_given.true), c.requires.2)

pub returns-then-books_given : goal.returns-then-books_given
returns-then-books_given c =
    let a = c.args in
    rw (runs-given a.terms a.numbers.now a.work0.now a.work1.now (sym c.books_given.ensures ∙ c.if-books_given.true)) c.execute_given.ensures

pub returns : goal.returns
returns c =
    let a = c.args in
    rw (runs-dealt a.terms a.numbers.now a.work0.now a.work1.now (sym c.books_given.ensures ∙ c.if-books_given.false)) c.execute_dealt.ensures
