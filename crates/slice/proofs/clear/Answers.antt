-- `slice::clear` meets its contract.
use Rattle.std.proofs.Common.{arith}
use Rattle.slice.proofs.Parts.{cleared, cleared_last, all_cleared}
use Rattle.slice.proofs.clear.Goals as goal

pub loop-at-preserved : goal.loop-at-preserved
loop-at-preserved c = λ k h. cleared _ _ _ _ (omega arith) (omega arith) (c.fill.ensures.after (λ y e. e)) c.loop-at.invariant k (omega arith)

pub returns : goal.returns
returns c = all_cleared _ _ (omega arith) c.loop-at.invariant

pub returns-2 : goal.returns-2
returns-2 c = cleared_last _ _ _ _ (omega arith) (omega arith) (c.fill.ensures.after (λ y e. e)) (omega arith) c.loop-at.invariant
