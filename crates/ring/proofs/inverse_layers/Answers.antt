-- `ring::inverse_layers` meets its contract. Assumes nothing.
use Rattle.ring.proofs.Loops.{inverse_layer_is, inverse_turn, inverse_done, sizes_of, layer-size}
use Rattle.ring.proofs.Lazy.{inverse_bound}
use Prim.Native.Nat.{ℕ, suc, ◌-◌}
use Rattle.ring.specs.Layers.{lazy_inverse_low}
use mathlib.Core.Path.{◌≡◌, sym, ◌∙◌}
use native.Mathlib.Omega.{arith}
use Rattle.ring.proofs.inverse_layers.Goals as goal

pub layer-requires : goal.layer-requires
layer-requires c =
    let n : ℕ = c.loop-n.n in
    let e : 8 - n ≡ 7 - (n - 1) = omega arith in (
      sizes_of (n - 1) _ _ (omega arith) c.power-half.ensures.0 c.power.ensures.0,
      λ i. rw (c.power-half.ensures.0, ← e) (c.loop-n.invariant.1 i),
    )

pub loop-n-preserved : goal.loop-n-preserved
loop-n-preserved c =
    let n : ℕ = c.loop-n.n in
    let e : 8 - n ≡ 8 - suc (n - 1) = omega arith in
    let is = inverse_layer_is (n - 1) _ _ c.power-half.ensures.0 c.power.ensures.0 _ _ c.layer.ensures in (
      inverse_turn (n - 1) _ _ c.power-half.ensures.0 c.power.ensures.0 n _ _ _ (omega arith) c.loop-n.invariant.0 c.layer.ensures,
      inverse_bound (n - 1) (omega arith) _ _ (sym (layer-size lazy_inverse_low _ _ _ _ _ _ c.layer.ensures) ∙ omega arith) (λ i. rw (← e) (c.loop-n.invariant.1 i)) is,
    )

pub returns : goal.returns
returns c = inverse_done _ _ _ (omega arith) c.loop-n.invariant.0
