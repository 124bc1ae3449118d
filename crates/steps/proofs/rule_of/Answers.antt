-- `steps::rule_of` meets its contract.
use Rattle.lists.proofs.Questions.{tests}
use Rattle.slice.specs.Weights.{rule_of}
use Rattle.steps.proofs.rule_of.Goals as goal

pub returns-then-kind-ne0 : goal.returns-then-kind-ne0
unfolding rule_of
returns-then-kind-ne0 c = search tests

pub returns-in-true-true : goal.returns-in-true-true
unfolding rule_of
returns-in-true-true c = search tests

pub returns-in-true-false : goal.returns-in-true-false
unfolding rule_of
returns-in-true-false c = search tests

pub returns-in-false-true : goal.returns-in-false-true
unfolding rule_of
returns-in-false-true c = search tests

pub returns-in-false-false : goal.returns-in-false-false
unfolding rule_of
returns-in-false-false c = search tests
