-- `text::feed_numbers` meets its contract.
use mathlib.Core.Path.{◌≡◌}
use lib.ListN.{length, drop}
use Rattle.text.specs.Numbers.{after_bytes, kept_over}
use Rattle.text.proofs.feed_numbers.Given as goal

abbrev pub invariant-loop-byte : goal.invariant-loop-byte
invariant-loop-byte l =
    let most = length l.initial.numbers in
    (after_bytes most l.here (drop l.byte-index l.bytes) ≡ after_bytes most l.initial.here l.bytes)
    × (kept_over most l.here (drop l.byte-index l.bytes) l.numbers ≡ kept_over most l.initial.here l.bytes l.initial.numbers)
