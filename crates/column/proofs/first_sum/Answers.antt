-- `column::first_sum` meets its contract.
use Rattle.column.proofs.first_sum.Goals as goal

pub returns : goal.returns
returns c = rw (← c.column_of.ensures) (c.sum_value.ensures 0)
