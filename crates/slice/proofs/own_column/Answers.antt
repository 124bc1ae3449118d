-- `slice::own_column` meets its contract.
use Prim.Native.Nat.{◌+◌, ◌*◌}
use native.Mathlib.Omega.{arith}
use Rattle.slice.specs.Layout.{own_in}
use Rattle.slice.proofs.Kept.{own_is}
use Rattle.slice.proofs.Parts.{copied}
use Rattle.slice.proofs.own_column.Goals as goal

pub returns : goal.returns
returns c =
    let a = c.args in
    let at = a.column * 1536 + 1344 in
    copied a.count at (at + a.count) a.out.now a.work.now _ (own_in a.work.now a.column) (omega arith) (omega arith) (omega arith) (omega arith) c.copy_from_slice.ensures.after (λ j h. own_is a.work.now a.column j)
