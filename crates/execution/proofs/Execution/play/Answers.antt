-- `execution::Execution::play` meets its contract.
use mathlib.Core.Path.{refl}
use Rattle.std.proofs.lemmas.Result.{err_from_is_err_and}
use Rattle.execution.specs.Held.{held_in}
use Rattle.execution.proofs.Whole.{server-part, phone-part, first_refused, second_refused, both_fit, plays}
use Rattle.execution.proofs.Execution.play.Goals as goal

pub returns-in_err-begin_at : goal.returns-in_err-begin_at
returns-in_err-begin_at c =
    let a = c.args in
    let cut = c.cuts_of-cuts.ensures in
    let p = err_from_is_err_and c.from_residual.result c.from_residual.ensures.1 in
    let one = rw (c.run_at.ensures, server-part a.terms.settings.shape a.numbers.now _ _ cut.phone_is cut.draw_is) at c.in_err-begin_at.ensures in
    rw (p.1, p.2) (first_refused a.terms a.numbers.now a.book0.now a.book1.now a.self.now (held_in a.server.now a.phone.now a.messages.now) _ _ _ one _ refl)

pub returns-in_err-begin_at-2 : goal.returns-in_err-begin_at-2
returns-in_err-begin_at-2 c =
    let a = c.args in
    let cut = c.cuts_of-cuts.ensures in
    let p = err_from_is_err_and c.from_residual-in_err-begin_at-2.result c.from_residual-in_err-begin_at-2.ensures.1 in
    let one = rw (c.run_at.ensures, server-part a.terms.settings.shape a.numbers.now _ _ cut.phone_is cut.draw_is) at c.in_ok-begin_at.ensures in
    let two = rw (c.run_at-2.ensures, phone-part a.terms.settings.shape a.numbers.now _ _ cut.phone_is cut.draw_is) at c.in_err-begin_at-2.ensures in
    rw (p.1, p.2) (second_refused a.terms a.numbers.now a.book0.now a.book1.now a.self.now (held_in a.server.now a.phone.now a.messages.now) _ _ _ one refl _ _ _ two _ refl)

pub run_rounds-requires : goal.run_rounds-requires
run_rounds-requires c =
    let a = c.args in
    let cut = c.cuts_of-cuts.ensures in
    let one = rw (c.run_at.ensures, server-part a.terms.settings.shape a.numbers.now _ _ cut.phone_is cut.draw_is) at c.in_ok-begin_at.ensures in
    let two = rw (c.run_at-2.ensures, phone-part a.terms.settings.shape a.numbers.now _ _ cut.phone_is cut.draw_is) at c.in_ok-begin_at-2.ensures in
    both_fit a.terms a.numbers.now a.book0.now a.book1.now a.self.now (held_in a.server.now a.phone.now a.messages.now) _ _ _ one refl _ _ _ two c.requires

pub returns : goal.returns
returns c =
    let a = c.args in
    let cut = c.cuts_of-cuts.ensures in
    let one = rw (c.run_at.ensures, server-part a.terms.settings.shape a.numbers.now _ _ cut.phone_is cut.draw_is) at c.in_ok-begin_at.ensures in
    let two = rw (c.run_at-2.ensures, phone-part a.terms.settings.shape a.numbers.now _ _ cut.phone_is cut.draw_is) at c.in_ok-begin_at-2.ensures in
    plays a.terms a.numbers.now a.book0.now a.book1.now a.self.now (held_in a.server.now a.phone.now a.messages.now) _ _ _ one refl _ _ _ two _ _ _ refl c.run_rounds.ensures
