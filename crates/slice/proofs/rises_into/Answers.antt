-- `slice::rises_into` meets its contract.
use mathlib.Core.Path.{◌≡◌, refl, sym, ◌∙◌}
use native.Mathlib.Omega.{arith}
use native.Mathlib.Nat.{zero-add}
use lib.ListN.{length}
use Rattle.lists.proofs.Fill.{fill_none, fill_more, whole_is}
use Rattle.slice.proofs.rises_into.Goals as goal

pub loop-d-init : goal.loop-d-init
loop-d-init c = sym (fill_none _ _ _)

pub loop-d-preserved : goal.loop-d-preserved
loop-d-preserved c = rw (fill_more, zero-add, c.loop-d.invariant)

pub returns : goal.returns
returns c =
    let e : c.loop-d.d ≡ length c.args.rises.now = omega arith in
    c.loop-d.invariant ∙ rw e (whole_is c.args.rises.now _ _ refl)
