-- `calls::put_signed` meets its contract.
use Rattle.std.proofs.Common.{[], ◌∷◌, ◌≡◌, ap, ◌∙◌}
use Rattle.std.specs.Prelude.{nat_abs}
use Rattle.text.proofs.Puts.{puts_then}
use Rattle.desk.proofs.Signed.{read, text_below, text_above}
use Rattle.desk.proofs.calls.put_signed.Goals as goal
use Rattle.desk.proofs.calls.put_signed.Goals.{then-value-lt0, else-value-lt0}

pub returns : goal.returns
returns c =
    let v = c.args.value in
    let size : c.from-size.result ≡ nat_abs v = c.from-size.ensures ∙ c.unsigned_abs.ensures.value ∙ ap nat_abs (read v c.ranges.value) in
    elim c.if-value-lt0.branch [ then-value-lt0 w ↦ rw (text_below v c.ranges.value w.if-value-lt0.true, ← size) (puts_then (45 ∷ []) _ w.put_byte.ensures (rw w.text-is at c.put_number.ensures)) | else-value-lt0 w ↦ rw (text_above v c.ranges.value w.if-value-lt0.false, ← size) (rw w.text-is at c.put_number.ensures) ]
