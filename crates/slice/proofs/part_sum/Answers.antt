-- `slice::part_sum` meets its contract.
use Prim.Native.Nat.{ℕ, ◌+◌, ◌≤◌}
use mathlib.Core.Path.{◌∙◌}
use native.Mathlib.Omega.{arith}
use Rattle.slice.specs.Layout.{registers}
use Rattle.slice.proofs.Ranges.{part_none, part-next, part-done}
use Rattle.slice.proofs.part_sum.Goals as goal

pub loop-j-init : goal.loop-j-init
loop-j-init c = (omega arith, part_none _ _, omega arith)

pub loop-j-preserved : goal.loop-j-preserved
loop-j-preserved c =
    let loop = c.loop-j in
    let a = c.args in
    let past : a.from ≤ loop.j = omega arith in (
      omega arith,
      part-next a.from loop.j loop.total _ (λ (i : ℕ). registers a.column.now (a.place + i)) past loop.invariant.1 (c.from-total.ensures ∙ c.register.ensures),
      omega arith,
    )

pub returns : goal.returns
returns c =
    let a = c.args in
    let loop = c.loop-j in
    part-done a.from a.to loop.j loop.total _ (omega arith) loop.invariant.0 (omega arith) loop.invariant.1
