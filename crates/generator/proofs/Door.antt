-- What the calls give, by what their questions say.
use mathlib.Core.Path.{◌≡◌, refl, sym, ap, ◌∙◌}
use mathlib.Core.Bool.{Bool, true, false, cond}
use mathlib.Core.List.{List}
use Prim.Native.Nat.{ℕ, ◌<◌}
use lib.Dec.{eqb}
use borrow.Author.Tests.{eqb-true, ne_eqb, lt-ltb}
use lib.ListN.{length}
use Rattle.lists.proofs.Questions.{passed}
use Rattle.field.specs.Field.{q}
use Rattle.settings.specs.declared.Shape.{Shape}
use Rattle.settings.specs.Settings.{params_of}
use Rattle.settings.specs.Sizes.{width_of, draw_length}
use Rattle.settings.proofs.Ready.{shape_rest}
use Rattle.std.specs.Prelude.{Result, Ok, Err}
use Rattle.settings.specs.Refusals.{Outcome, Gives, No, outcome}
use Rattle.settings.specs.declared.Refusal.{Refusal}
use Rattle.generator.specs.declared.Generator.{Generator}
use Rattle.generator.specs.Step.{stepped, outputs}
use Rattle.generator.specs.Calls.{Drew, seed_call, draw_no, draw_call}

module _ (k state : ℕ) (a : Shape) (out : List ℕ) where
  -- a refusal leaves the state and the lent draw as they were
  pub refusal : (code : ℕ) → code ≡ draw_no k a out → ¬ (code ≡ 0) → record { refused = code; state = state; out = out } ≡ draw_call k state a out
  unfolding draw_call
  refusal code e h = rw (← e, ne_eqb code 0 h)

  -- no question is answered no
  size : draw_no k a out ≡ 0 → length out ≡ draw_length (params_of a) (width_of k)
  unfolding draw_no
  size e = eqb-true _ _ (passed (eqb (length out) (draw_length (params_of a) (width_of k))) 4 0 (shape_rest a _ e)).0

  pub drew : (after : ℕ) (out' : List ℕ) → 0 ≡ draw_no k a out → after ≡ stepped (length out) state → out' ≡ outputs q state (length out)
      → record { refused = 0; state = after; out = out' } ≡ draw_call k state a out
  unfolding draw_call
  drew after out' e s o = rw (← e, s, o, size (sym e))

  pub drawn-all : draw_no k a out ≡ 0 → draw_call k state a out ≡ record { refused = 0; state = stepped (length out) state; out = outputs q state (length out) }
  drawn-all e = sym (drew (stepped (length out) state) (outputs q state (length out)) (sym e) refl refl)

  -- a plain state is given back by a draw that is refused, and so is the draw
  pub stays : (code after : ℕ) (out' : List ℕ) → ◌≡◌ {A = Drew} (record { refused = code; state = after; out = out' }) (draw_call k state a out) → ¬ (code ≡ 0)
      → record { refused = code; state = state; out = out' } ≡ draw_call k state a out
  unfolding draw_call
  stays code after out' e h = by (draw_no k a out) (eqb (draw_no k a out) 0) refl e
    where
      by : (n : ℕ) (b : Bool) → eqb n 0 ≡ b
          → ◌≡◌ {A = Drew} (record { refused = code; state = after; out = out' }) (cond b (record { refused = 0; state = stepped (draw_length (params_of a) (width_of k)) state; out = outputs q state (draw_length (params_of a) (width_of k)) }) (record { refused = n; state = state; out = out }))
          → ◌≡◌ {A = Drew} (record { refused = code; state = state; out = out' }) (cond b (record { refused = 0; state = stepped (draw_length (params_of a) (width_of k)) state; out = outputs q state (draw_length (params_of a) (width_of k)) }) (record { refused = n; state = state; out = out }))
      by n true z f = absurd (h (ap (λ (d : Drew). d.refused) f))
      by n false z f = rw (ap (λ (d : Drew). d.refused) f, ap (λ (d : Drew). d.out) f) refl

-- ---- a generator that is made

made_of : Outcome Generator → ℕ
made_of (Gives generator) = generator.state
made_of (No n) = 0

-- no seed but 0 is refused
pub made : (seed : ℕ) → 0 < seed → (result : Result Generator Refusal) → outcome result ≡ seed_call seed → result ≡ Ok (record { state = seed })
unfolding seed_call made_of
made seed h (Ok generator) e = ap (λ (state : ℕ). Ok (record { state = state })) (ap made_of e ∙ rw (lt-ltb 0 seed h))
made seed h (Err refusal) e = absurd (gives-no (rw (lt-ltb 0 seed h) at e))
  where
    gives-no : {generator : Generator} {n : ℕ} → No n ≡ Gives generator → ⊥
    gives-no e = cc
