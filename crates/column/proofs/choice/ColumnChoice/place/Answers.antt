-- `column::choice::ColumnChoice::place` meets its contract. Assumes nothing.
use Rattle.column.proofs.Tables.{share_first, part_later}
use native.Mathlib.Omega.{arith}
use Rattle.column.proofs.choice.ColumnChoice.place.Goals as goal

pub returns-then-f-eq0 : goal.returns-then-f-eq0
returns-then-f-eq0 c = (share_first c.args.self.skip c.args.f c.if-f-eq0.true, omega arith)

pub returns : goal.returns
returns c = (part_later c.args.self.skip c.args.f c.if-f-eq0.false, omega arith)
