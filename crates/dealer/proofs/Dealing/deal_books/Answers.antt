-- `dealer::Dealing::deal_books` meets its contract.
use Rattle.std.proofs.Common.{◌≡◌, ◌<◌, ◌+◌, ◌∙◌, arith, refl, sym, zero-add}
use Rattle.settings.specs.Sizes.{groups, stride}
use Rattle.book.specs.Book.{mask_at, group_at, group_k}
use Rattle.dealer.specs.Work.{DealContext, params_for}
use Rattle.dealer.specs.Runs.{context_of}
use Rattle.dealer.proofs.Steps.{mask-none, mask_step, high_end, bound-groups, bound-group, bound-end}
use Rattle.dealer.proofs.Work.{carried, at_next, wrote_none, wrote_then, wrote_as}
use Rattle.dealer.proofs.Dealing.deal_books.Goals as goal

pub loop-c-init : goal.loop-c-init
loop-c-init c = wrote_as (wrote_none c.requires) refl (mask-none (context_of c.args.self.now))

pub deal_coefficient-requires : goal.deal_coefficient-requires
deal_coefficient-requires c =
    let i = c.loop-c in
    (carried (λ (o : DealContext). i.c < o.shape.n) i.invariant.put c.loop-c-test.true, at_next (λ (o : DealContext). mask_at (params_for o) i.c) i.invariant (sym (zero-add _)))

pub loop-c-preserved : goal.loop-c-preserved
loop-c-preserved c =
    let j = c.loop-c.c in
    wrote_as (wrote_then (λ (o : DealContext). mask_at (params_for o) j) (λ (o : DealContext). stride (params_for o)) c.loop-c.invariant c.deal_coefficient.ensures (sym (zero-add _)))
    refl (sym (mask_step (context_of c.args.self.now) j))

pub deal_group-requires : goal.deal_group-requires
deal_group-requires c =
    let o = context_of c.args.self.now in
    let bound = c.if-shape-ne0.true in
    let all : c.loop-c.c ≡ o.shape.n = omega arith in
    let w = rw all at c.loop-c.invariant in (
      carried (λ (o : DealContext). 0 < groups (params_for o)) w.put (bound-groups o bound),
      at_next (λ (o : DealContext). group_at (params_for o) 0) w (bound-group o 0 bound ∙ sym (zero-add _)),
    )

pub returns-then-shape-ne0 : goal.returns-then-shape-ne0
returns-then-shape-ne0 c =
    let o = context_of c.args.self.now in
    let bound = c.if-shape-ne0.true in
    let all : c.loop-c.c ≡ o.shape.n = omega arith in
    wrote_as (wrote_then (λ (o : DealContext). group_at (params_for o) 0) (λ (o : DealContext). group_k (params_for o) + 3) (rw all at c.loop-c.invariant) c.deal_group.ensures
    (bound-group o 0 bound ∙ sym (zero-add _))) refl (bound-end o bound)

pub returns-else-shape-ne0 : goal.returns-else-shape-ne0
returns-else-shape-ne0 c =
    let o = context_of c.args.self.now in
    let all : c.loop-c.c ≡ o.shape.n = omega arith in
    wrote_as (rw all at c.loop-c.invariant) refl (high_end o c.if-shape-ne0.false)
