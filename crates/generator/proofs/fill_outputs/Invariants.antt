-- `generator::fill_outputs` meets its contract.
use Rattle.std.proofs.Common.{◌≡◌, ℕ, suc, ◌%◌}
use Rattle.lists.specs.Lists.{fill}
use Rattle.field.specs.Field.{q}
use Rattle.generator.specs.Step.{stepped}
use Rattle.generator.proofs.fill_outputs.Given as goal

abbrev pub invariant-loop-x : goal.invariant-loop-x
invariant-loop-x l =
    let state = l.initial.generator.state in
    (l.generator.state ≡ stepped l.x-index state) × (l.out ≡ fill l.initial.out 0 l.x-index (λ (i : ℕ). stepped (suc i) state % q))
