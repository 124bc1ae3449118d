-- `lines::answered_by` meets its contract.
use borrow.Author.Tests.{ne_eqb}
use Rattle.std.proofs.lemmas.Result.{err_from_is_err_and}
use Rattle.settings.specs.Refusals.{number_of}
use Rattle.settings.proofs.Refused.{number_nonzero}
use Rattle.lines.specs.Run.{answered_by}
use Rattle.lines.proofs.answered_by.Goals as goal

pub returns-in_err-length : goal.returns-in_err-length
unfolding answered_by
returns-in_err-length c =
    let p = err_from_is_err_and c.from_residual.result c.from_residual.ensures.1 in
    rw (p.1, p.2, ← c.in_err-length.ensures, ne_eqb (number_of c.in_err-length.field-0.0) 0 (number_nonzero c.in_err-length.field-0.0))

pub returns : goal.returns
unfolding answered_by
returns c = rw (← c.in_ok-length.ensures)
