-- `text::feed_numbers` meets its contract.
use Rattle.std.proofs.Common.{arith}
use Rattle.text.proofs.Inputs.{bytes-more, bytes_stop, bytes-done, kept_more, kept_stop, kept-done}
use Rattle.text.proofs.feed_numbers.Goals as goal

pub returns-in_err-here-clause-value : goal.returns-in_err-here-clause-value
returns-in_err-here-clause-value c =
    let none = rw c.loop-byte.auto.numbers at c.in_err-here.ensures.value in
    rw c.from_residual.ensures (bytes_stop _ c.loop-byte.here c.args.bytes.now c.loop-byte.byte-index _ (omega arith) c.loop-byte.invariant.0 none)

pub returns-in_err-here-clause-numbers_after : goal.returns-in_err-here-clause-numbers_after
returns-in_err-here-clause-numbers_after c =
    let none = rw c.loop-byte.auto.numbers at c.in_err-here.ensures.value in
    rw c.in_err-here.ensures.numbers_after
    (kept_stop _ c.loop-byte.here c.args.bytes.now c.loop-byte.byte-index c.loop-byte.numbers _ (omega arith) c.loop-byte.invariant.1 none)

pub loop-byte-preserved : goal.loop-byte-preserved
loop-byte-preserved c =
    let loop = c.loop-byte in
    let some = rw loop.auto.numbers at c.in_ok-here.ensures.value in (
      bytes-more _ loop.here c.args.bytes.now loop.byte-index _ _ (omega arith) loop.invariant.0 some,
      kept_more _ loop.here c.args.bytes.now loop.byte-index _ loop.numbers _ _ (omega arith) loop.invariant.1 some c.in_ok-here.ensures.numbers_after,
    )

pub returns-clause-value : goal.returns-clause-value
returns-clause-value c = bytes-done _ _ c.args.bytes.now c.loop-byte.byte-index _ (omega arith) c.loop-byte.invariant.0

pub returns-clause-numbers_after : goal.returns-clause-numbers_after
returns-clause-numbers_after c = kept-done _ _ c.args.bytes.now c.loop-byte.byte-index _ _ (omega arith) c.loop-byte.invariant.1
