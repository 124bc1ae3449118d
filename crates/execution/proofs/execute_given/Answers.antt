-- `execution::execute_given` meets its contract.
use Prim.Native.Nat.{ℕ, ◌+◌}
use mathlib.Core.Path.{ap}
use Rattle.execution.specs.Held.{held_in}
use Rattle.execution.proofs.Whole.{start_fits, ends-noted}
use Rattle.execution.proofs.Given.{server_half, phone_half, given-run}
use Rattle.execution.proofs.execute_given.Goals as goal

pub play-requires : goal.play-requires
play-requires c = rw c.new-x.ensures (start_fits c.args.messages.now c.requires.1)

pub returns : goal.returns
returns c =
    let a = c.args in
    let cut = c.cuts_of-first.ensures in
    let second = ap (λ (n : ℕ). c.cuts_of-first.result.draw + n) c.book_size.ensures in
    let played = rw (
      c.new-x.ensures,
      server_half a.terms.settings.shape a.numbers.now _ _ cut.phone_is cut.draw_is _ second,
      phone_half a.terms.settings.shape a.numbers.now _ _ cut.phone_is cut.draw_is _ second,
    ) at
    c.play.ensures in
    rw c.err-x.ensures.value
    (ends-noted _ _ c.play.new.self _ _ _
    (given-run a.terms a.numbers.now (held_in a.work0.now a.work1.now a.messages.now) _ c.play.new.self (held_in c.play.new.server c.play.new.phone c.play.new.messages) c.requires.1 played))
