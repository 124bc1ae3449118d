-- `side::kept_answer` meets its contract: the last round has as many openings as an answer has places, at most.
use Rattle.std.proofs.Common.{◌≡◌, length, arith, rules, sym}
use borrow.Author.Tests.{eq-eqb}
use lib.Seq.{length-take-le}
use Rattle.settings.specs.Settings.{params_in}
use Rattle.state.proofs.States.{front_written}
use Rattle.steps.proofs.Bounds.{open_late}
use Rattle.side.proofs.kept_answer.Goals as goal

pub slice_bounds-answer-end : goal.slice_bounds-answer-end
slice_bounds-answer-end c =
    let side = c.args.side in
    let eight : length side.answer ≡ 8 = search rules in
    omega (arith, open_late (params_in side.settings) side.round (omega arith) (omega arith) c.requires.whole.ready.shape.some, c.openings_in-count.ensures.0)

pub slice_bounds-copy_from_slice-end : goal.slice_bounds-copy_from_slice-end
slice_bounds-copy_from_slice-end c =
    let side = c.args.side in
    let eight : length side.answer ≡ 8 = search rules in
    let late = open_late (params_in side.settings) side.round (omega arith) (omega arith) c.requires.whole.ready.shape.some in
    sym (length-take-le c.openings_in-count.result side.answer (omega (arith, c.openings_in-count.ensures.0)))

pub copy_from_slice-requires : goal.copy_from_slice-requires
copy_from_slice-requires c =
    let side = c.args.side in
    let eight : length side.answer ≡ 8 = search rules in
    let late = open_late (params_in side.settings) side.round (omega arith) (omega arith) c.requires.whole.ready.shape.some in
    let n = c.openings_in-count.result in
    rw (length-take-le n side.answer (omega (arith, c.openings_in-count.ensures.0)), length-take-le n c.args.opened.now (omega arith))

pub returns-then-side-eq-ROUNDS : goal.returns-then-side-eq-ROUNDS
returns-then-side-eq-ROUNDS c =
    let side = c.args.side in
    rw (eq-eqb side.round _ c.if-side-eq-ROUNDS.true)
    (front_written c.args.opened.now _ side.answer _ _ c.openings_in-count.ensures.0 (omega arith) c.copy_from_slice.ensures.after)
