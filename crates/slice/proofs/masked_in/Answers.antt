-- `slice::masked_in` meets its contract.
use native.Mathlib.Omega.{arith}
use Rattle.slice.proofs.Kept.{masked-is}
use Rattle.slice.proofs.masked_in.Goals as goal

pub returns : goal.returns
returns c = masked-is _ _ (omega arith) c.copy_from_slice.ensures.after
