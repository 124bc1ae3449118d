-- `rounding::bound_verdict` meets its contract.
use borrow.Author.Rules.{rules}
use borrow.Author.Tests.{ne_eqb}
use mathlib.Core.Path.{refl, ap}
use Rattle.std.proofs.lemmas.Result.{err_from_is_err_and}
use Rattle.lists.specs.Answers.{bit}
use Rattle.field.specs.Field.{q}
use Rattle.settings.specs.Refusals.{number_of, Gives}
use Rattle.settings.proofs.Keys.{every-is}
use Rattle.settings.proofs.Refused.{number_nonzero}
use Rattle.rounding.specs.Plain.{inside, verdict}
use Rattle.rounding.specs.Calls.{verdict_call}
use Rattle.rounding.proofs.bound_verdict.Goals as goal

pub returns-in_err-ask_verdict : goal.returns-in_err-ask_verdict
unfolding verdict_call
returns-in_err-ask_verdict c =
    let p = err_from_is_err_and c.from_residual.result c.from_residual.ensures.1 in
    let e = c.in_err-ask_verdict.field-0.0 in
    rw (p.1, p.2, ← c.in_err-ask_verdict.ensures, ne_eqb (number_of e) 0 (number_nonzero e)) refl

pub returns : goal.returns
unfolding verdict_call verdict inside
returns c =
    rw (← c.in_ok-ask_verdict.ensures)
    (ap (λ b. Gives (bit b)) (every-is (inside q c.args.bound) c.args.numbers.now c.all.result (search rules)))
