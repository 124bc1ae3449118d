-- `lines::fill_run` meets its contract.
use borrow.Author.Rules.{rules}
use Prim.Native.Nat.{ℕ, ◌*◌, ◌≤◌}
use mathlib.Core.Path.{◌≡◌, sym, ap, ◌∙◌}
use native.Mathlib.Omega.{arith}
use lib.ListN.{length, length-replicate}
use Rattle.field.specs.Field.{q}
use Rattle.settings.specs.declared.Settings.{Settings}
use Rattle.settings.specs.Settings.{params_in}
use Rattle.settings.specs.Sizes.{width, draw_length}
use Rattle.settings.proofs.Ready.{ok_ready}
use Rattle.generator.specs.Step.{stepped, outputs}
use Rattle.lines.specs.Plain.{settings_of}
use Rattle.lines.specs.Run.{count_for}
use Rattle.lines.proofs.Handed.{length_front}
use Rattle.lines.proofs.Ends.{begun-is, draw-zeros, drawn_in}
use Rattle.lines.proofs.fill_run.Goals as goal

pub slice_bounds-coefficients-end : goal.slice_bounds-coefficients-end
slice_bounds-coefficients-end c =
    let a = c.args in
    let eight : length a.request.numbers ≡ 8 = search rules in
    omega (arith, eight, (ok_ready (settings_of a.request).shape c.requires.request_value).most)

pub slice_bounds-spread-end-3 : goal.slice_bounds-spread-end-3
slice_bounds-spread-end-3 c =
    let a = c.args in
    let eight : length a.request.numbers ≡ 8 = search rules in
    length_front a.request.count a.request.numbers (omega (arith, eight, (ok_ready (settings_of a.request).shape c.requires.request_value).most))

pub spread-requires : goal.spread-requires
spread-requires c =
    let a = c.args in
    let eight : length a.request.numbers ≡ 8 = search rules in
    let long : length a.numbers.now ≡ count_for a.request = ap length c.requires.numbers_value ∙ length-replicate {A = ℕ} _ 0 in
    sym (length_front (a.request.count * width) a.numbers.now (omega (arith, long)))
    ∙ ap (λ (n : ℕ). n * width)
    (length_front a.request.count a.request.numbers (omega (arith, eight, (ok_ready (settings_of a.request).shape c.requires.request_value).most)))

pub draw_run-requires : goal.draw_run-requires
draw_run-requires c =
    let a = c.args in
    let eight : length a.request.numbers ≡ 8 = search rules in
    let some : a.request.count ≤ length a.request.numbers = omega (arith, eight, (ok_ready (settings_of a.request).shape c.requires.request_value).most) in
    let shape = c.settings_of.ensures in record {
      shape_value = rw shape c.requires.request_value;
      out_value = rw shape (draw-zeros a.state a.request some _ (begun-is a.state a.request some a.numbers.now _ c.requires.numbers_value c.spread.ensures));
    }

pub returns : goal.returns
returns c =
    let a = c.args in
    let eight : length a.request.numbers ≡ 8 = search rules in
    let some : a.request.count ≤ length a.request.numbers = omega (arith, eight, (ok_ready (settings_of a.request).shape c.requires.request_value).most) in
    let shape = c.settings_of.ensures in record {
      value = c.draw_run.ensures.value ∙ ap (λ (s : Settings). stepped (draw_length (params_in s) width) a.state) shape;
      numbers_after = drawn_in a.state a.request some _ (begun-is a.state a.request some a.numbers.now _ c.requires.numbers_value c.spread.ensures) _
          (c.draw_run.ensures.out_after ∙ ap (λ (s : Settings). outputs q a.state (draw_length (params_in s) width)) shape);
    }
