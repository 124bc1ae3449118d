-- `dealer::Dealing::deal_mask` meets its contract.
use Rattle.std.proofs.Common.{◌≡◌, ◌<◌, ◌∙◌, ap, refl, sym}
use Rattle.field.specs.Sums.{sum_to}
use Rattle.settings.specs.Sets.{base}
use Rattle.settings.specs.Sizes.{width}
use Rattle.rounding.specs.Digits.{split_of}
use Rattle.book.specs.Book.{drawn, mask_at, vector_at}
use Rattle.dealer.specs.Work.{DealContext, params_for}
use Rattle.dealer.specs.Runs.{context_of}
use Rattle.dealer.proofs.Steps.{mask-draws, vector_first}
use Rattle.dealer.proofs.Work.{carried, at_next, wrote_then, wrote_as, cursor_as}
use Rattle.dealer.proofs.Dealing.deal_mask.Goals as goal

pub deal_drawn-r-requires : goal.deal_drawn-r-requires
deal_drawn-r-requires c =
    let o = context_of c.args.self.now in
    let e = c.mask_at.ensures.0 in
    (mask-draws o c.args.c _ c.requires.0 e, cursor_as o c.requires.1 (sym e))

pub deal_vectors-requires : goal.deal_vectors-requires
deal_vectors-requires c =
    let j = c.args.c in
    let r = c.deal_drawn-r.ensures in
    let e = c.mask_at.ensures.0 in
    let value = c.split_number.ensures ∙ ap (split_of _) (rw e at r.value) in
    let told = carried (λ (o : DealContext). (j < o.shape.n) × (c.split_number.result ≡ split_of (params_for o).scale (drawn (params_for o) width o.draw (mask_at (params_for o) j))))
    r.wrote.put (c.requires.0, value) in
    (told.0, at_next (λ (o : DealContext). vector_at (params_for o) j 0) r.wrote (rw e (vector_first (context_of c.args.self.now) j)), told.1)

pub returns : goal.returns
returns c =
    let e = c.mask_at.ensures.0 in
    wrote_as (wrote_then (λ (o : DealContext). vector_at (params_for o) c.args.c 0) (λ (o : DealContext). sum_to 5 (base (params_for o).scale))
    c.deal_drawn-r.ensures.wrote c.deal_vectors.ensures (rw e (vector_first (context_of c.args.self.now) c.args.c))) e refl
