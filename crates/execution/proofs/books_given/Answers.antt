-- `execution::books_given` meets its contract.
use mathlib.Core.Path.{sym, ◌∙◌}
use native.Mathlib.Omega.{arith}
use Rattle.execution.proofs.Whole.{book-most}
use Rattle.execution.proofs.Given.{refused_some, refused_none, none-given, lengths_tell, left_long}
use Rattle.execution.proofs.books_given.Goals as goal

pub returns-then-is_err : goal.returns-then-is_err
returns-then-is_err c = none-given c.args.shape c.args.numbers.now _ c.ask_shape.ensures (refused_some c.ask_shape.result (sym c.is_err.ensures.value ∙ c.if-is_err.true))

pub overflow_mul-result : goal.overflow_mul-result
overflow_mul-result c = omega (arith, c.book_size.ensures, book-most c.args.shape)

pub returns : goal.returns
returns c =
    let a = c.args in
    let cut = c.cuts_of-cuts.ensures in
    lengths_tell a.shape a.numbers.now _ _ _ c.ask_shape.ensures (refused_none c.ask_shape.result (sym c.is_err.ensures.value ∙ c.if-is_err.false))
    (left_long a.shape a.numbers.now _ _ cut.phone_is cut.draw_is) c.book_size.ensures
