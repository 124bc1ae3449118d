-- `calls::put_draw_of` meets its contract.
use Rattle.std.proofs.Common.{ℕ, ◌≤◌, arith, sym}
use Rattle.std.proofs.lemmas.List.{length-replicate}
use lib.Seq.{length-take-le}
use Rattle.lists.proofs.Lists.{front-zeros}
use Rattle.desk.specs.Desk.{most_draw}
use Rattle.desk.proofs.Draws.{draw-most}
use Rattle.desk.proofs.calls.put_draw_of.Goals as goal

pub slice_bounds-numbers-end : goal.slice_bounds-numbers-end
slice_bounds-numbers-end c = omega (arith, c.draw_size-n.ensures, draw-most c.args.shape)

pub slice_bounds-put_draw_in-end : goal.slice_bounds-put_draw_in-end
slice_bounds-put_draw_in-end c =
    sym (length-take-le _ _ (omega (arith, c.before.before.draw_size-n.ensures, draw-most c.before.before.before.before.args.shape, length-replicate {A = ℕ} most_draw 0)))

pub returns : goal.returns
returns c =
    let size = c.draw_size-n in
    let most : size.result ≤ most_draw = omega (arith, size.ensures, draw-most c.args.shape) in
    rw (← size.ensures, ← front-zeros size.result most_draw most) c.put_draw_in.ensures
