-- `dealer::Dealing::deal_group` meets its contract.
use Rattle.std.proofs.Common.{◌+◌, ◌/◌, refl, sym, arith}
use Rattle.dealer.specs.Work.{DealContext, Vector}
use Rattle.dealer.specs.Runs.{context_of}
use Rattle.dealer.proofs.Steps.{group-draws, group_vector}
use Rattle.dealer.proofs.Work.{carried, at_next, wrote_then, wrote_as, cursor_as}
use Rattle.dealer.proofs.Dealing.deal_group.Goals as goal

pub deal_drawn-rho-requires : goal.deal_drawn-rho-requires
deal_drawn-rho-requires c =
    let o = context_of c.args.self.now in
    let e = c.group_at-k.ensures.0 in
    (group-draws o c.args.g _ c.requires.0 e, cursor_as o c.requires.1 (sym e))

pub deal_vector-requires : goal.deal_vector-requires
deal_vector-requires c =
    let k = c.group_at-k in
    let r = c.deal_drawn-rho in
    let size = c.group_k.result + 2 in
    let d = r.result / c.group_gap.result in (
      carried (λ (o : DealContext). Vector o (k.result + 1) size d) r.ensures.wrote.put
          (group_vector _ c.args.g _ size _ d c.requires.0 k.ensures.0 (rw c.group_k.ensures.0) r.ensures.value (rw c.group_gap.ensures.0)),
      at_next (λ (o : DealContext). k.result + 1) r.ensures.wrote refl,
    )

pub returns : goal.returns
returns c =
    let k = c.group_at-k in
    let size = c.group_k.result + 2 in
    wrote_as (wrote_then (λ (o : DealContext). k.result + 1) (λ (o : DealContext). size) c.deal_drawn-rho.ensures.wrote c.deal_vector.ensures refl) k.ensures.0
    (omega arith)
