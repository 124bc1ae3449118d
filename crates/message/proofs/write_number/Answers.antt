-- `message::write_number` meets its contract.
use Prim.Native.Nat.{ℕ, suc, ◌-◌, ◌+◌, ◌*◌, ◌/◌, ◌^◌, ◌≤◌}
use mathlib.Core.Path.{◌≡◌, sym}
use native.Mathlib.Nat.{div-one}
use native.Mathlib.Omega.{arith}
use lib.ListN.{length}
use Rattle.lists.specs.Lists.{fill}
use Rattle.lists.proofs.Fill.{fill_none}
use Rattle.message.specs.Fields.{byte_of}
use Rattle.message.proofs.Bytes.{rest_less, byte_written, bytes-all}
use Rattle.message.proofs.write_number.Goals as goal

pub loop-k-init : goal.loop-k-init
loop-k-init c =
    let n = length c.args.out.now in
    let none : n - n ≡ 0 = omega arith in
    (rw none (sym (div-one c.args.x)), rw none (sym (fill_none _ _ _)))

pub loop-k-preserved : goal.loop-k-preserved
loop-k-preserved c =
    let a = c.args in
    let n = length a.out.now in
    let at = c.loop-k in
    let m = at.k - 1 in
    let more : at.k ≡ suc m = omega arith in
    let inside : suc m ≤ n = omega (arith, at.auto.k) in
    let left : at.rest ≡ a.x / 2 ^ (8 * (n - suc m)) = rw (← more) at.invariant.0 in
    let written : at.out ≡ fill a.out.now (suc m) (n - suc m) (λ (j : ℕ). byte_of n a.x (suc m + j)) = rw (← more) at.invariant.1 in
    (rest_less a.out.now at.out n a.x at.rest m inside left, byte_written a.out.now at.out n a.x at.rest m inside left written)

pub returns : goal.returns
returns c =
    let none : c.loop-k.k ≡ 0 = omega arith in
    bytes-all _ _ _ _ (rw none at c.loop-k.invariant.1)
