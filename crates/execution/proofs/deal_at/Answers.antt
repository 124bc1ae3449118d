-- `execution::deal_at` meets its contract.
use mathlib.Core.Path.{sym, ap, ◌∙◌}
use native.Mathlib.Omega.{arith}
use lib.Seq.{length-take-le, take_at}
use Rattle.std.specs.Prelude.{Result}
use Rattle.std.specs.Result.{result_err}
use Rattle.execution.specs.declared.CallKind.TheVariants.{Deal}
use Rattle.execution.specs.declared.Party.TheVariants.{Server}
use Rattle.execution.specs.declared.RefusedCall.{RefusedCall}
use Rattle.execution.specs.Execution.{told}
use Rattle.execution.proofs.Calls.{told-answer}
use Rattle.execution.proofs.Whole.{book-most, deals}
use Rattle.execution.proofs.deal_at.Goals as goal

pub slice_bounds-deal-end : goal.slice_bounds-deal-end
slice_bounds-deal-end c = omega (arith, c.book_size-size.ensures, book-most c.args.terms.settings.shape, c.requires.0)

pub slice_bounds-deal-end-2 : goal.slice_bounds-deal-end-2
slice_bounds-deal-end-2 c = sym (length-take-le _ _ (omega (arith, c.book_size-size.ensures, book-most c.args.terms.settings.shape, c.requires.0)))

pub slice_bounds-deal-end-3 : goal.slice_bounds-deal-end-3
slice_bounds-deal-end-3 c = omega (arith, c.book_size-size.ensures, book-most c.args.terms.settings.shape, c.requires.1)

pub slice_bounds-deal-end-4 : goal.slice_bounds-deal-end-4
slice_bounds-deal-end-4 c = sym (length-take-le _ _ (omega (arith, c.book_size-size.ensures, book-most c.args.terms.settings.shape, c.requires.1)))

pub returns : goal.returns
returns c =
    let a = c.args in
    let size = c.book_size-size.ensures in
    let deal = c.deal-dealt in
    let answer = ap (λ (x : Result (Unit {0}) RefusedCall). told (result_err x)) c.answer_at.ensures ∙ told-answer Deal Server deal.result in
    let long0 = length-take-le c.book_size-size.result a.book0.now (omega (arith, size, book-most a.terms.settings.shape, c.requires.0)) in
    let long1 = length-take-le c.book_size-size.result a.book1.now (omega (arith, size, book-most a.terms.settings.shape, c.requires.1)) in
    deals a.terms a.draw.now _ _ (long0 ∙ size) (long1 ∙ size) _ _ _ deal.ensures _ answer _ _
    (take_at deal.new.server _ _ (deal.auto.server ∙ long0 ∙ size)) (take_at deal.new.phone _ _ (deal.auto.phone ∙ long1 ∙ size))
