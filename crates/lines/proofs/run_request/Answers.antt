-- `lines::run_request` meets its contract. Assumes nothing.
use Prim.Native.Nat.{ℕ, ◌+◌, ◌*◌}
use mathlib.Core.Path.{◌≡◌, ap, ◌∙◌}
use native.Mathlib.Omega.{arith}
use lib.ListN.{take, replicate}
use Rattle.lists.proofs.Lists.{front-zeros}
use Rattle.lines.proofs.Handed.{length_front}
use Rattle.lines.proofs.Ends.{request_ready, zeros_many}
use Rattle.settings.specs.Sizes.{width}
use Rattle.lines.specs.Run.{count_for, most_numbers}
use Rattle.lines.specs.Plain.{drawn_for}
use Rattle.settings.specs.declared.Settings.{Settings}
use Rattle.settings.specs.Settings.{params_in}
use Rattle.settings.specs.Sizes.{draw_length}
use Rattle.lines.proofs.run_request.Goals as goal

pub draw_length-drawn-requires : goal.draw_length-drawn-requires
draw_length-drawn-requires c =
    let a = c.args in
    let ready = request_ready a.serial a.request c.requires.request_value in
    rw c.settings_of.ensures (ready.shape.sets, ready.shape.most)

pub slice_bounds-run_in-end : goal.slice_bounds-run_in-end
slice_bounds-run_in-end c =
    let a = c.args in
    let p = c.requires in
    omega (arith, (request_ready a.serial a.request p.request_value).shape.most, c.draw_length-drawn.ensures.1, zeros_many p.lent_to_line)

pub slice_bounds-run_in-end-2 : goal.slice_bounds-run_in-end-2
slice_bounds-run_in-end-2 c =
    let a = c.args in
    let p = c.requires in
    length_front _ _ (omega (arith, (request_ready a.serial a.request p.request_value).shape.most, c.draw_length-drawn.ensures.1, zeros_many p.lent_to_line))

pub run_in-requires : goal.run_in-requires
run_in-requires c =
    let draw-length = c.draw_length-drawn in
    let p = c.requires in
    let a = c.args in
    let ready = request_ready a.serial a.request p.request_value in
    let drawn : draw-length.result ≡ drawn_for a.request = draw-length.ensures.0
    ∙ ap (λ (z : Settings). draw_length (params_in z) width) c.settings_of.ensures in
    let size : 2 * (a.request.count * width) + draw-length.result ≡ count_for a.request = omega (arith, drawn) in
    record {
      request_value = p.request_value;
      numbers_value = ap (take (2 * (a.request.count * width) + draw-length.result)) p.lent_to_line.zeros
          ∙ front-zeros (2 * (a.request.count * width) + draw-length.result) most_numbers (omega (arith, ready.shape.most, draw-length.ensures.1))
          ∙ ap (λ (n : ℕ). replicate n 0) size;
      room_for_run = p.lent_to_line.room;
    }
