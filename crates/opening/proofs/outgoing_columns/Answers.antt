-- `opening::outgoing_columns` meets its contract. Assumes nothing.
use Rattle.opening.proofs.Sending.{server_held, phone_held}
use Rattle.opening.proofs.outgoing_columns.Goals as goal

pub returns-then-side-eq0 : goal.returns-then-side-eq0
returns-then-side-eq0 c =
    let context-in = c.context_in in
    let weights-of = c.weights_of-weights in
    let prepare = c.prepare in
    let if1 = c.if-side-eq0 in
    let a = c.args in
    let made = context-in.ensures in
    server_held a.side a.work.now weights-of.result prepare.new.out if1.true weights-of.ensures
    (rw (made.settings_kept, made.round_kept) at prepare.ensures)

pub returns-else-side-eq0 : goal.returns-else-side-eq0
returns-else-side-eq0 c =
    let kept-columns = c.kept_columns in
    let openings-in = c.openings_in-count in
    let p = c.requires in
    let if1 = c.if-side-eq0 in
    let a = c.args in
    phone_held a.side a.work.now a.sent.now kept-columns.new.sent openings-in.result p.whole.side2 if1.false p.whole.ready.shape.most openings-in.ensures.0
    p.work_len.2 kept-columns.ensures
