-- `ring::product` meets its contract. Assumes nothing.
use Rattle.ring.proofs.Laws.{on_the_left, product-same}
use Rattle.ring.specs.Ntt.{ntt, inverse_ntt, pointwise}
use mathlib.Core.List.{List}
use mathlib.Core.Path.{ap, ◌∙◌}
use native.Mathlib.Omega.{arith}
use Prim.Native.Nat.{ℕ}
use Rattle.ring.proofs.product.Goals as goal

pub returns : goal.returns
returns c =
    c.product_with.ensures
    ∙ ap (λ (l : List ℕ). inverse_ntt (pointwise l (ntt c.args.row.now))) c.unreduced.ensures
    ∙ ap inverse_ntt (on_the_left c.args.public.now (omega arith) c.requires.0 (ntt c.args.row.now))
    ∙ product-same c.args.public.now c.args.row.now (omega arith) (omega arith)
