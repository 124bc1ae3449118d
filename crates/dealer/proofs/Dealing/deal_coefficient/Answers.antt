-- `dealer::Dealing::deal_coefficient` meets its contract.
use Rattle.std.proofs.Common.{◌<◌, ◌+◌, refl}
use Rattle.settings.specs.Sizes.{groups}
use Rattle.book.specs.Book.{triple_at, group_at, group_k}
use Rattle.dealer.specs.Work.{DealContext, params_for}
use Rattle.dealer.specs.Runs.{context_of}
use Rattle.dealer.proofs.Steps.{triple_first, high-groups, high-group, high-stride, bound-stride}
use Rattle.dealer.proofs.Work.{carried, at_next, wrote_then, wrote_as}
use Rattle.dealer.proofs.Dealing.deal_coefficient.Goals as goal

pub deal_triples-requires : goal.deal_triples-requires
deal_triples-requires c =
    let j = c.args.c in
    let w = c.deal_mask.ensures in
    (carried (λ (o : DealContext). j < o.shape.n) w.put c.requires.0, at_next (λ (o : DealContext). triple_at (params_for o) j 0) w (triple_first (context_of c.args.self.now) j))

pub deal_group-requires : goal.deal_group-requires
deal_group-requires c =
    let j = c.args.c in
    let o = context_of c.args.self.now in
    let high = c.if-kind-eq0.true in
    let two = wrote_then (λ (o : DealContext). triple_at (params_for o) j 0) (λ (o : DealContext). 24) c.deal_mask.ensures c.deal_triples.ensures (triple_first o j) in (
      carried (λ (o : DealContext). j < groups (params_for o)) two.put (high-groups o j high c.requires.0),
      at_next (λ (o : DealContext). group_at (params_for o) j) two (high-group o j high),
    )

pub returns-then-kind-eq0 : goal.returns-then-kind-eq0
returns-then-kind-eq0 c =
    let j = c.args.c in
    let o = context_of c.args.self.now in
    let high = c.if-kind-eq0.true in
    let two = wrote_then (λ (o : DealContext). triple_at (params_for o) j 0) (λ (o : DealContext). 24) c.deal_mask.ensures c.deal_triples.ensures (triple_first o j) in
    wrote_as (wrote_then (λ (o : DealContext). group_at (params_for o) j) (λ (o : DealContext). group_k (params_for o) + 3) two c.deal_group.ensures (high-group o j high))
    refl (high-stride o high)

pub returns-else-kind-eq0 : goal.returns-else-kind-eq0
returns-else-kind-eq0 c =
    let j = c.args.c in
    let o = context_of c.args.self.now in
    wrote_as (wrote_then (λ (o : DealContext). triple_at (params_for o) j 0) (λ (o : DealContext). 24) c.deal_mask.ensures c.deal_triples.ensures (triple_first o j)) refl
    (bound-stride o c.if-kind-eq0.false)
