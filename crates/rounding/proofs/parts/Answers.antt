-- `rounding::parts` meets its contract.
use mathlib.Core.Path.{◌≡◌, refl, sym, ap, subst}
use native.Mathlib.Omega.{arith}
use borrow.Author.Tests.{lt-ltb, le-ltb}
use Rattle.lists.specs.Answers.{ask}
use Rattle.field.specs.Field.{q}
use Rattle.settings.specs.Sets.{scale_of}
use Rattle.settings.specs.Refusals.{Gives}
use Rattle.settings.proofs.Sets.{lawful}
use Rattle.rounding.specs.declared.HighLow.{HighLow}
use Rattle.rounding.specs.Plain.{joined}
use Rattle.rounding.specs.Calls.{parts_no, parts_call}
use Rattle.rounding.proofs.Decompose.{join_is}
use Rattle.rounding.proofs.parts.Goals as goal

pub returns-else-set-lt2-clause-value : goal.returns-else-set-lt2-clause-value
unfolding parts_call parts_no ask
returns-else-set-lt2-clause-value c = rw (le-ltb c.args.set 2 (omega arith)) refl

pub returns-else-w-lt-Q-clause-value : goal.returns-else-w-lt-Q-clause-value
unfolding parts_call parts_no ask
returns-else-w-lt-Q-clause-value c = rw (lt-ltb c.args.set 2 (omega arith), le-ltb c.args.w q (omega arith)) refl

pub returns-then-w-lt-Q-clause-value : goal.returns-then-w-lt-Q-clause-value
unfolding parts_call parts_no ask
returns-then-w-lt-Q-clause-value c =
    rw (lt-ltb c.args.set 2 (omega arith), lt-ltb c.args.w q (omega arith)) (ap Gives c.high_low_of.ensures)

pub returns-then-w-lt-Q-clause-join_to : goal.returns-then-w-lt-Q-clause-join_to
returns-then-w-lt-Q-clause-join_to c =
    let a = c.args in
    subst (λ (r : HighLow). joined (scale_of a.set) r ≡ a.w) (sym c.high_low_of.ensures)
    (join_is (scale_of a.set) (lawful a.set (omega arith)) a.w (omega arith))
