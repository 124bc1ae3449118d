-- `state::answer` meets its contract.
use Rattle.std.proofs.Common.{◌≡◌, length, arith, rules, sym, ap₂}
use Rattle.std.proofs.lemmas.Result.{err_from_is_err_and}
use borrow.Author.Tests.{ne_eqb}
use lib.Seq.{length-take-le}
use Rattle.settings.specs.Refusals.{number_of}
use Rattle.settings.proofs.Refused.{number_nonzero}
use Rattle.state.specs.State.{after_answer, answer_call}
use Rattle.state.proofs.States.{answer-ready, front_written}
use Rattle.state.proofs.answer.Goals as goal

pub returns-in_err-ask_answer : goal.returns-in_err-ask_answer
unfolding answer_call
returns-in_err-ask_answer c =
    let p = err_from_is_err_and c.from_residual.result c.from_residual.ensures.1 in
    let no = c.in_err-ask_answer.field-0.0 in
    rw (p.1, p.2, ← c.in_err-ask_answer.ensures, ne_eqb (number_of no) 0 (number_nonzero no))

-- there is room for as many numbers, and as many are kept
pub slice_bounds-copy_from_slice-end : goal.slice_bounds-copy_from_slice-end
slice_bounds-copy_from_slice-end c =
    omega (arith, (answer-ready c.args.side c.args.out.now (sym c.in_ok-ask_answer.ensures)).1)

pub slice_bounds-copy_from_slice-end-2 : goal.slice_bounds-copy_from_slice-end-2
slice_bounds-copy_from_slice-end-2 c =
    sym (length-take-le _ c.args.out.now (omega (arith, (answer-ready c.args.side c.args.out.now (sym c.in_ok-ask_answer.ensures)).1)))

pub shared_ref_as_front-kept : goal.shared_ref_as_front-kept
shared_ref_as_front-kept c =
    omega (arith, (answer-ready c.args.side c.args.out.now (sym c.in_ok-ask_answer.ensures)).0)

pub copy_from_slice-requires : goal.copy_from_slice-requires
copy_from_slice-requires c =
    let ready = answer-ready c.args.side c.args.out.now (sym c.in_ok-ask_answer.ensures) in
    let eight : length c.args.side.answer ≡ 8 = search rules in
    rw (length-take-le c.places_of-count.result c.args.out.now (omega (arith, ready.1)), length-take-le c.places_of-count.result c.args.side.answer (omega (arith, ready.0)))

pub returns : goal.returns
unfolding answer_call
returns c =
    let side = c.args.side in
    let ready = answer-ready side c.args.out.now (sym c.in_ok-ask_answer.ensures) in
    let eight : length side.answer ≡ 8 = search rules in
    let count = c.places_of-count.ensures in
    rw (← c.in_ok-ask_answer.ensures)
    (ap₂ (after_answer 0) count (front_written side.answer _ c.args.out.now _ _ count (omega (arith, ready.0)) c.copy_from_slice.ensures.after))
