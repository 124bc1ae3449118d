-- `settings::shared_of` meets its contract.
use mathlib.Core.Path.{ap}
use Prim.Native.Nat.{ℕ, ◌*◌}
use Rattle.settings.specs.Settings.{params_of}
use Rattle.settings.proofs.Sizes.{shared-most, shared-high, shared-bound}
use native.Mathlib.Omega.{arith}
use Rattle.settings.proofs.shared_of.Goals as goal

pub returns-then-shape-eq0 : goal.returns-then-shape-eq0
returns-then-shape-eq0 c =
    let p = c.requires in
    let a = c.args.shape in
    omega (arith, ap (λ (x : ℕ). a.n * x) c.stride_of.ensures.0, shared-high (params_of a) c.if-shape-eq0.true, shared-most a p.0 p.1)

pub returns : goal.returns
returns c =
    let p = c.requires in
    let a = c.args.shape in
    omega (arith, ap (λ (x : ℕ). a.n * x) c.stride_of.ensures.0, shared-bound (params_of a) c.if-shape-eq0.false, shared-most a p.0 p.1)
