-- `lines::run_in` meets its contract.
use borrow.Author.Rules.{rules}
use Prim.Native.Nat.{ℕ, ◌≤◌, ◌<◌}
use mathlib.Core.Path.{◌≡◌, ap₂, ◌∙◌}
use mathlib.Core.List.{List}
use native.Mathlib.Omega.{arith}
use lib.ListN.{length}
use Rattle.execution.specs.declared.RunTerms.{RunTerms}
use Rattle.execution.specs.Execution.{executed}
use Rattle.lines.proofs.Ends.{request_ready, shape-passes, run-gives, inputs-within, rest_zeros, cleared_again, same-room}
use Rattle.lines.proofs.run_in.Goals as goal

pub fill_run-requires : goal.fill_run-requires
fill_run-requires c =
    let a = c.args in
    record { request_value = shape-passes a.serial a.request c.requires.request_value; numbers_value = c.requires.numbers_value }

pub clear_run-requires : goal.clear_run-requires
clear_run-requires c =
    let a = c.args in
    let eight : length a.request.numbers ≡ 8 = search (rules, c.well_formed) in
    let some : a.request.count ≤ length a.request.numbers = omega (arith, eight, (request_ready a.serial a.request c.requires.request_value).shape.most) in
    let filled = c.fill_run.ensures.numbers_after in
    record { inputs_in_bounds = inputs-within a.state.now a.request some _ filled; numbers_value = rest_zeros a.state.now a.request some _ filled }

pub returns : goal.returns
returns c =
    let p = c.requires in
    let a = c.args in
    let eight : length a.request.numbers ≡ 8 = search (rules, c.well_formed) in
    let some : a.request.count ≤ length a.request.numbers = omega (arith, eight, (request_ready a.serial a.request p.request_value).shape.most) in
    let fits : a.serial < 4294967296 = omega (arith, c.ranges) in
    let filled = c.fill_run.ensures in record {
      result_value = c.answered_by.ensures
          ∙ run-gives a.state.now a.serial a.request p.request_value fits some a.work0.now a.work1.now p.room_for_run.server_work p.room_for_run.phone_work _
          (c.execute-end.ensures.server_is
          ∙ ap₂ (λ (t : RunTerms) (n : List ℕ). (executed t n a.work0.now a.work1.now).parties.observer.side) c.terms_of-terms.ensures filled.numbers_after);
      state_value = filled.value;
      numbers_unchanged = cleared_again a.state.now a.request some _ filled.numbers_after a.numbers.now _ p.numbers_value c.clear_run.ensures;
      room_for_run_2 = same-room _ _ _ _ _ _ _ _ _ _ p.room_for_run (search rules) (search rules) (search rules) (search rules) (search rules);
    }
