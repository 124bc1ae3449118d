-- `ring::unreduced` meets its contract.
use Prim.Native.Nat.{ℕ}
use mathlib.Core.Path.{◌≡◌, sym, ap, ◌∙◌}
use native.Mathlib.Omega.{arith}
use lib.ListN.{length, get_or}
use Rattle.lists.specs.Lists.{fill, list_to}
use Rattle.lists.proofs.Fill.{fill_none, front-more}
use Rattle.ring.specs.Layers.{lazy_to}
use Rattle.ring.proofs.Ready.{copied}
use Rattle.ring.proofs.unreduced.Goals as goal

pub loop-i-init : goal.loop-i-init
loop-i-init c = sym (fill_none _ _ _)

pub loop-i-preserved : goal.loop-i-preserved
loop-i-preserved c = rw front-more (cc)

pub forward-requires : goal.forward-requires
forward-requires c = rw (copied c.args.out.now c.args.row.now _ c.loop-i.i c.told-out c.told-row (omega arith) c.loop-i.invariant) c.requires

pub returns : goal.returns
returns c = c.forward.ensures ∙ ap (lazy_to 8) (copied c.args.out.now c.args.row.now _ c.loop-i.i c.told-out c.told-row (omega arith) c.loop-i.invariant)
