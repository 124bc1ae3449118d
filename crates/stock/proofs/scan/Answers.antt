-- `stock::scan` meets its contract.
use Rattle.std.proofs.Common.{◌∙◌, sym}
use Rattle.stock.proofs.Scans.{scan_more, scan_end}
use Rattle.stock.proofs.scan.Goals as goal

pub loop-part-preserved : goal.loop-part-preserved
loop-part-preserved c =
    let i = c.loop-part.invariant in
    let s = c.in-Some.ensures.steps in
    record {
      size_is = s.0 ∙ i.size_is;
      found_is = rw c.better-found.ensures (scan_more c.args.last c.args.size _ _ _ _ s.1.0 (s.1.1 ∙ i.size_is) c.requires ∙ i.found_is);
    }

pub returns : goal.returns
returns c =
    let i = c.loop-part.invariant in
    let s = c.in-None.ensures.steps in
    sym (scan_end c.args.last c.args.size _ _ (rw i.size_is at s.1.0)) ∙ i.found_is
