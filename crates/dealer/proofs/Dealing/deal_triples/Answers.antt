-- `dealer::Dealing::deal_triples` meets its contract.
use Rattle.std.proofs.Common.{◌<◌, refl, arith}
use Rattle.book.specs.Book.{triple_at}
use Rattle.dealer.specs.Work.{DealContext, params_for}
use Rattle.dealer.specs.Runs.{context_of}
use Rattle.dealer.proofs.Steps.{triple_step}
use Rattle.dealer.proofs.Work.{carried, at_next, wrote_none, wrote_then, wrote_as}
use Rattle.dealer.proofs.Dealing.deal_triples.Goals as goal

pub loop-t-init : goal.loop-t-init
loop-t-init c = wrote_none c.requires.1

pub deal_triple-requires : goal.deal_triple-requires
deal_triple-requires c =
    let a = c.args in
    let i = c.loop-t in (
      carried (λ (o : DealContext). a.c < o.shape.n) i.invariant.put c.requires.0,
      c.loop-t-test.true,
      at_next (λ (o : DealContext). triple_at (params_for o) a.c i.t) i.invariant (triple_step (context_of a.self.now) a.c i.t),
    )

pub loop-t-preserved : goal.loop-t-preserved
loop-t-preserved c =
    let a = c.args in
    let t = c.loop-t.t in
    wrote_as (wrote_then (λ (o : DealContext). triple_at (params_for o) a.c t) (λ (o : DealContext). 3) c.loop-t.invariant c.deal_triple.ensures
    (triple_step (context_of a.self.now) a.c t)) refl (omega arith)
