-- `syntax::read_words` meets its contract.
use Rattle.std.proofs.Common.{rules, arith, ℕ, ◌≡◌, refl, ap, ◌∙◌, [], length, eqb}
use Rattle.std.proofs.lemmas.List.Sorted.{answers_always}
use borrow.Author.Tests.{tests}
use lib.ListN.{length-set}
use Rattle.syntax.proofs.Words.{left_by, split_step, words_most}
use Rattle.syntax.proofs.Readings.{reading, words_more, words_stop, words-done}
use Rattle.syntax.proofs.read_words.Goals as goal

pub overflow_add-count : goal.overflow_add-count
overflow_add-count c =
    let step = c.in-Some.ensures.steps in
    let first = (step.2 (λ (b : ℕ). eqb b 32) (answers_always _ _ _ (λ f a r k q. search (rules, tests)))).1 in
    let next = split_step c.loop-word.word-iterator c.next.new.self c.in-Some.word.now step.0 step.1 first in
    omega (arith, ap length next, c.loop-word.invariant.room, words_most c.args.line.now)

pub loop-word-preserved : goal.loop-word-preserved
loop-word-preserved c =
    let loop = c.loop-word in
    let step = c.in-Some.ensures.steps in
    let first = (step.2 (λ (b : ℕ). eqb b 32) (answers_always _ _ _ (λ f a r k q. search (rules, tests)))).1 in
    let next = split_step c.loop-word.word-iterator c.next.new.self c.in-Some.word.now step.0 step.1 first in
    record {
      places = ap length c.place.ensures ∙ length-set loop.values loop.count c.in_ok-value.value ∙ loop.invariant.places;
      room = omega (arith, ap length next, loop.invariant.room);
      read = words_more loop.values loop.count c.in-Some.word.now _ _ (rw next at loop.invariant.read) c.in_ok-value.value _ c.in_ok-value.ensures c.place.ensures;
    }

pub returns-in_err-value-clause-value : goal.returns-in_err-value-clause-value
returns-in_err-value-clause-value c =
    let loop = c.loop-word in
    let step = c.in-Some.ensures.steps in
    let first = (step.2 (λ (b : ℕ). eqb b 32) (answers_always _ _ _ (λ f a r k q. search (rules, tests)))).1 in
    let next = split_step c.loop-word.word-iterator c.next.new.self c.in-Some.word.now step.0 step.1 first in
    rw c.from_residual.ensures (words_stop loop.values loop.count c.in-Some.word.now _ _ (rw next at loop.invariant.read) c.in_err-value.ensures)

pub returns-clause-value : goal.returns-clause-value
returns-clause-value c =
    let loop = c.loop-word in
    let none : left_by loop.word-iterator ≡ [] = rw c.in-None.ensures.steps.0 refl in
    words-done (reading loop.count loop.values) _ (rw none at loop.invariant.read)

pub returns-clause-count_bound : goal.returns-clause-count_bound
returns-clause-count_bound c =
    let none : left_by c.loop-word.word-iterator ≡ [] = rw c.in-None.ensures.steps.0 refl in
    omega (arith, ap length none, c.loop-word.invariant.room, words_most c.args.line.now)
