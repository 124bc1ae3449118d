-- `column::results_into` meets its contract. Assumes nothing.
use Rattle.std.proofs.Common.{rules}
use Rattle.field.specs.Forms.{value}
use Rattle.field.specs.Field.{q}
use Rattle.slice.specs.Layout.{column}
use Rattle.steps.specs.Gates.{result_form}
use Prim.Native.Nat.{ℕ, ◌+◌, ◌*◌}
use lib.ListN.{get_or}
use Rattle.column.proofs.results_into.Goals as goal

pub returns : goal.returns
returns c =
    let a = c.args in
    let opened : ℕ → ℕ = λ o. get_or a.numbers.opened.now o 0 in
    let o = 4 * a.gate.j + 2 * a.gate.which in
    c.into_columns.ensures (λ d. value q (get_or a.numbers.weights.now d 0) (column a.numbers.work.now d) (result_form a.gate (opened o) (opened (o + 1)))) (λ f x h post. search rules)
