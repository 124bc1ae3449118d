-- `column::prepare_digits` meets its contract: each branch has the length of its set's list.
use mathlib.Core.Path.{◌≡◌, ap, ◌∙◌}
use native.Mathlib.Omega.{arith}
use lib.ListN.{length}
use Rattle.settings.proofs.Sets.{top-length}
use Rattle.column.proofs.prepare_digits.Goals as goal

pub prepare_last-requires-clause-ready : goal.prepare_last-requires-clause-ready
prepare_last-requires-clause-ready c =
    let p = c.requires in
    let zero : c.args.known.settings.shape.set ≡ 0 = c.if-shape-eq0.true in
    (p.ready.0, p.ready.1, c.top_digits-tops.ensures, ap length (rw zero at c.top_digits-tops.ensures) ∙ top-length 44)

pub prepare_last-requires-2-clause-ready : goal.prepare_last-requires-2-clause-ready
prepare_last-requires-2-clause-ready c =
    let p = c.requires in
    let one : c.args.known.settings.shape.set ≡ 1 = omega (arith, p.ready.0.shape.sets, c.if-shape-eq0.false) in
    (p.ready.0, p.ready.1, c.top_digits-tops.ensures, ap length (rw one at c.top_digits-tops.ensures) ∙ top-length 16)
