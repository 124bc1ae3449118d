-- `dealer::Dealing::deal_vectors` meets its contract.
use Rattle.std.proofs.Common.{◌≡◌, ◌<◌, refl, sym, arith}
use Rattle.field.specs.Sums.{sum_to}
use Rattle.settings.specs.Sets.{base}
use Rattle.settings.specs.Sizes.{width}
use Rattle.rounding.specs.Digits.{split_of}
use Rattle.book.specs.Book.{drawn, mask_at, vector_at}
use Rattle.dealer.specs.Work.{DealContext, params_for}
use Rattle.dealer.specs.Runs.{context_of}
use Rattle.dealer.proofs.Steps.{vector_step, sum_step, digit_vector}
use Rattle.dealer.proofs.Work.{carried, at_next, wrote_none, wrote_then, wrote_as, cursor_as}
use Rattle.dealer.proofs.Dealing.deal_vectors.Goals as goal

pub loop-i-init : goal.loop-i-init
unfolding sum_to
loop-i-init c = wrote_none c.requires.1

pub deal_vector-requires : goal.deal_vector-requires
deal_vector-requires c =
    let a = c.args in
    let p = c.requires in
    let i = c.loop-i in
    let k = c.vector_at in
    let told = carried (λ (o : DealContext). (a.c < o.shape.n) × (a.r ≡ split_of (params_for o).scale (drawn (params_for o) width o.draw (mask_at (params_for o) a.c))))
    i.invariant.put (p.0, p.2) in (
      digit_vector (context_of i.self) a.c i.i _ _ _ a.r told.0 (omega arith) k.ensures.0 c.base_of-size.ensures.0 told.1 refl,
      cursor_as (context_of i.self)
          (at_next (λ (o : DealContext). vector_at (params_for o) a.c i.i) i.invariant (vector_step (context_of a.self.now) a.c i.i)) (sym k.ensures.0),
    )

pub loop-i-preserved : goal.loop-i-preserved
loop-i-preserved c =
    let a = c.args in
    let i = c.loop-i.i in
    let o = context_of a.self.now in
    wrote_as (wrote_then (λ (o : DealContext). vector_at (params_for o) a.c i) (λ (o : DealContext). base (params_for o).scale i) c.loop-i.invariant
    (wrote_as c.deal_vector.ensures c.vector_at.ensures.0 c.base_of-size.ensures.0) (vector_step o a.c i)) refl (sum_step o i)
