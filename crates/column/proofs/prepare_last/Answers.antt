-- `column::prepare_last` meets its contract.
use mathlib.Core.Path.{◌≡◌, ap, ◌∙◌}
use native.Mathlib.Omega.{arith}
use lib.ListN.{length}
use Prim.Native.Nat.{◌+◌, ◌*◌}
use Rattle.settings.specs.Sets.{scale_of}
use Rattle.settings.proofs.Sets.{top-length, parts-range}
use Rattle.slice.proofs.Ranges.{tops_small, rises_are}
use Rattle.column.proofs.prepare_last.Goals as goal

pub rises_into-requires-clause-by_index : goal.rises_into-requires-clause-by_index
rises_into-requires-clause-by_index g c =
    let parts = (scale_of c.args.known.settings.shape.set).parts in
    tops_small parts c.args.tops.now (omega (arith, parts-range c.args.known.settings.shape.set c.requires.ready.0.shape.sets)) c.requires.ready.2

pub prepare_gates-requires-clause-ready : goal.prepare_gates-requires-clause-ready
prepare_gates-requires-clause-ready g c =
    let p = c.requires in
    let parts = (scale_of c.args.known.settings.shape.set).parts in
    let long : length c.args.tops.now ≡ 2 * parts + 2 = ap length p.ready.2 ∙ top-length parts in
    (p.ready.0, p.ready.1, λ top. c.rises_into.ensures ∙ rises_are parts _ c.args.tops.now (omega (arith, long, p.ready.3)) p.ready.2)
