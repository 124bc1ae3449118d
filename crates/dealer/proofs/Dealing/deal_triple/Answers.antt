-- `dealer::Dealing::deal_triple` meets its contract.
use Rattle.std.proofs.Common.{◌≡◌, ◌+◌, refl, sym}
use Rattle.book.specs.Book.{drawn}
use Rattle.settings.specs.Sizes.{width}
use Rattle.dealer.specs.Work.{DealContext, params_for, Next, Draws}
use Rattle.dealer.specs.Runs.{context_of}
use Rattle.dealer.proofs.Steps.{left-draws, right-draws, next-product}
use Rattle.dealer.proofs.Work.{carried, back, at_next, wrote_then, wrote_as, cursor_as}
use Rattle.dealer.proofs.Dealing.deal_triple.Goals as goal

pub deal_drawn-a-requires : goal.deal_drawn-a-requires
deal_drawn-a-requires c =
    let p = c.requires in
    let e = c.triple_at-k.ensures.0 in
    let o = context_of c.args.self.now in
    (left-draws o c.args.c c.args.t _ p.0 p.1 e, cursor_as o p.2 (sym e))

pub deal_drawn-b-requires : goal.deal_drawn-b-requires
deal_drawn-b-requires c =
    let p = c.requires in
    let k = c.triple_at-k in
    let a = c.deal_drawn-a.ensures.wrote in
    (carried (λ (o : DealContext). Draws o (k.result + 1)) a.put (right-draws _ c.args.c c.args.t _ p.0 p.1 k.ensures.0), at_next (λ (o : DealContext). k.result + 1) a refl)

pub deal_place-requires : goal.deal_place-requires
deal_place-requires c =
    let p = c.requires in
    let k = c.triple_at-k in
    let a = c.deal_drawn-a.ensures in
    let b = c.deal_drawn-b in
    let two = wrote_then (λ (o : DealContext). k.result + 1) (λ (o : DealContext). 1) a.wrote b.ensures.wrote refl in
    let value = back (λ (o : DealContext). b.result ≡ drawn (params_for o) width o.draw (k.result + 1)) a.wrote.put b.ensures.value in
    carried (λ (o : DealContext). Next o (k.result + 2) b.new.self.next c.mul_mod.result) two.put
    (next-product _ c.args.c c.args.t _ p.0 p.1 k.ensures.0 _ _ _ _ two.next a.value value c.mul_mod.ensures)

pub returns : goal.returns
returns c =
    let k = c.triple_at-k in
    let two = wrote_then (λ (o : DealContext). k.result + 1) (λ (o : DealContext). 1) c.deal_drawn-a.ensures.wrote c.deal_drawn-b.ensures.wrote refl in
    wrote_as (wrote_then (λ (o : DealContext). k.result + 2) (λ (o : DealContext). 1) two c.deal_place.ensures refl) k.ensures.0 refl
