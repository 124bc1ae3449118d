-- The draw of a run, and zeros again behind it.
use Prim.Native.Nat.{ℕ, ◌+◌, ◌-◌, ◌≤◌}
use mathlib.Core.Path.{◌≡◌, refl, sym, ap, ap₂, ◌∙◌}
use mathlib.Core.Bool.{true}
use mathlib.Core.List.{List, ◌++◌}
use native.Mathlib.Omega.{arith}
use borrow.Author.Tests.{eqb-true, eq-eqb}
use lib.ListN.{length, take, drop, replicate, length-replicate, replicate-append-replicate}
use Rattle.lists.specs.Answers.{ask}
use Rattle.field.specs.Field.{q}
use Rattle.settings.specs.declared.Shape.{Shape}
use Rattle.settings.specs.Settings.{params_of}
use Rattle.settings.specs.Questions.{ask_shape, shape_ok}
use Rattle.settings.specs.Sizes.{key_count, width, draw_length}
use Rattle.settings.proofs.Ready.{shape_ok_lem}
use Rattle.generator.specs.Step.{stepped, outputs}
use Rattle.generator.specs.Calls.{Drew, draw_no, draw_call}
use Rattle.generator.proofs.Steps.{stepped_zero, outputs_zero}
use Rattle.generator.proofs.Door.{drawn-all}
use Rattle.lines.proofs.Handed.{length_front}

module _ (state : ℕ) (a : Shape) (out : List ℕ) (zeros : out ≡ replicate (draw_length (params_of a) width) 0) where
  abbrev size : ℕ
  size = draw_length (params_of a) width

  out_long : length out ≡ size
  out_long = ap length zeros ∙ length-replicate {A = ℕ} size 0

  passes : shape_ok a ≡ true → draw_no key_count a out ≡ 0
  unfolding draw_no ask
  passes e = rw (eq-eqb (length out) size out_long) (eqb-true (ask_shape a 0) 0 (shape_ok_lem a ∙ e))

  -- a generator's draw
  pub drawn-run : shape_ok a ≡ true → (d : Drew) → d ≡ draw_call key_count state a out → (d.state ≡ stepped size state) × (d.out ≡ outputs q state size)
  drawn-run e d f =
      let all = f ∙ drawn-all key_count state a out (passes e) in (
        ap (λ (x : Drew). x.state) all ∙ ap (λ (n : ℕ). stepped n state) out_long,
        ap (λ (x : Drew). x.out) all ∙ ap (λ (n : ℕ). outputs q state n) out_long,
      )

  -- zeros are the draw of state 0
  pub no_draw : state ≡ 0 → (0 ≡ stepped size state) × (out ≡ outputs q state size)
  no_draw e = (rw (e, stepped_zero size) refl, rw (e, outputs_zero size) zeros)

-- zeros in front of zeros
pub cleared_front : (inputs : ℕ) (numbers cleared : List ℕ) → inputs ≤ length numbers → drop inputs numbers ≡ replicate (length numbers - inputs) 0
    → cleared ≡ replicate (length (take inputs numbers)) 0 → cleared ++ drop inputs numbers ≡ replicate (length numbers) 0
cleared_front inputs numbers cleared h e f =
    let n : inputs + (length numbers - inputs) ≡ length numbers = omega (arith, h) in
    ap₂ (λ (k l : List ℕ). k ++ l) (f ∙ ap (λ (m : ℕ). replicate m 0) (sym (length_front inputs numbers h))) e
    ∙ replicate-append-replicate {A = ℕ} inputs (length numbers - inputs) 0
    ∙ ap (λ (m : ℕ). replicate m 0) n
