-- `lists::length_before_by_blocks` meets its contract: what is left is what stands behind the bytes that have been passed.
use Rattle.std.proofs.Common.{◌≡◌, ◌+◌, ◌≤◌, length, drop}
use Rattle.std.specs.Slice.Iter.{chunks_exact_rest, chunks_exact_size}
use Rattle.lists.specs.Lists.{length_before}
use Rattle.lists.proofs.length_before_by_blocks.Given as goal

abbrev pub invariant-loop-block : goal.invariant-loop-block
invariant-loop-block l =
    record {
      within : l.passed ≤ length l.bytes;
      size : chunks_exact_size l.block-iterator ≡ 32;
      left : chunks_exact_rest l.block-iterator ≡ drop l.passed l.bytes;
      before : l.passed + length_before l.byte (drop l.passed l.bytes) ≡ length_before l.byte l.bytes;
    }
