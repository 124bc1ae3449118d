-- `lists::length_before_by_blocks` meets its contract.
use Rattle.std.proofs.Common.{arith, ℕ, sym, ap, ◌∙◌, length, length-append, length-drop}
use Rattle.lists.proofs.Bytes.{block_passed}
use Rattle.lists.proofs.length_before_by_blocks.Goals as goal

pub loop-block-preserved : goal.loop-block-preserved
loop-block-preserved c =
    let loop = c.loop-block in
    let bytes = c.args.bytes.now in
    let step = c.in-Some.ensures.steps in
    let cut = sym loop.invariant.left ∙ step.1.0 in
    let whole = step.1.1 ∙ loop.invariant.size in
    let passed = block_passed c.args.byte bytes c.in-Some.block.now _ loop.passed 32 _ loop.invariant.within cut whole (sym c.lacks.ensures ∙ c.if-not-lacks.false) loop.invariant.before in
    record {
      within = omega (arith, length-drop loop.passed bytes, ap length cut, length-append {A = ℕ}, whole);
      size = step.0 ∙ loop.invariant.size;
      left = passed.0;
      before = passed.1;
    }
