-- `generator::fill_outputs` meets its contract.
use Rattle.std.proofs.Common.{◌≡◌, length, refl, sym, ◌∙◌, arith}
use Rattle.lists.proofs.Fill.{fill_none, front-more, whole_is}
use Rattle.generator.specs.Step.{stepped, outputs}
use Rattle.generator.proofs.Steps.{stepped-none, stepped-more}
use Rattle.generator.proofs.fill_outputs.Goals as goal

pub loop-x-init : goal.loop-x-init
loop-x-init c = (sym (stepped-none _), sym (fill_none _ _ _))

pub loop-x-preserved : goal.loop-x-preserved
unfolding stepped
loop-x-preserved c = (rw stepped-more (cc), rw front-more (cc))

pub returns : goal.returns
unfolding outputs
returns c =
    let a = c.args in
    let i = c.loop-x in
    let e : i.x-index ≡ length a.out.now = omega arith in
    (rw e at i.invariant.0, rw e at i.invariant.1 ∙ whole_is a.out.now (length a.out.now) _ refl)
