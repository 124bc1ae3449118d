-- `opening::outgoing_fields` meets its contract. Assumes nothing.
use Rattle.opening.proofs.Sending.{turns_are}
use mathlib.Core.Path.{◌∙◌}
use Rattle.opening.proofs.outgoing_fields.Goals as goal

pub returns : goal.returns
returns c =
    let put-in-turn = c.put_in_turn in
    let outgoing-columns = c.outgoing_columns in
    let p = c.requires in
    let a = c.args in
    put-in-turn.ensures
    ∙ turns_are a.side a.work.now a.fields.now outgoing-columns.new.sent a.count p.count_value.0 outgoing-columns.ensures
