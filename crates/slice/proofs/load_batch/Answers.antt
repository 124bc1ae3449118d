-- `slice::load_batch` meets its contract.
use mathlib.Core.Path.{◌≡◌}
use Prim.Native.Nat.{◌-◌, ◌*◌}
use native.Mathlib.Omega.{arith}
use lib.ListN.{length, drop, length-drop}
use lib.Seq.{take_all}
use Rattle.settings.specs.Sizes.{width}
use Rattle.slice.proofs.Begun.{batch_more, batch_all}
use Rattle.slice.proofs.load_batch.Goals as goal

pub loop-c-preserved : goal.loop-c-preserved
loop-c-preserved c =
    let at = c.loop-c in
    let a = c.args in
    let part = take_all (length a.book.now - a.first * width) (drop (a.first * width) a.book.now) (omega (arith, length-drop (a.first * width) a.book.now)) in
    let load = rw part at c.load.ensures in
    batch_more a.book.now _ a.first a.n at.c at.work _ (omega arith) (omega arith) load at.invariant

pub returns : goal.returns
returns c =
    let at = c.loop-c in
    let all : at.c ≡ width = omega arith in
    batch_all _ _ _ _ at.work (omega arith) (rw all at at.invariant)
