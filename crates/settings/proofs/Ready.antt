-- What a call that is not refused knows of the settings that it was handed.
use mathlib.Core.Path.{◌≡◌, refl, sym, ◌∙◌}
use mathlib.Core.Logic.{◌≢◌}
use mathlib.Core.Bool.{Bool, true, false, cond, ◌&&◌}
use Prim.Native.Nat.{ℕ, ◌≤◌, ◌<◌}
use native.Mathlib.Omega.{arith}
use lib.Dec.{leb, eqb}
use borrow.Author.Tests.{ltb-true, leb-true, eqb-true, ne_eqb}
use Rattle.lists.specs.Answers.{ask}
use Rattle.lists.proofs.Questions.{passed, both_yes}
use Rattle.settings.specs.declared.Shape.{Shape}
use Rattle.settings.specs.declared.Settings.{Settings}
use Rattle.settings.specs.declared.Refusal.{Refusal}
use Rattle.settings.specs.Refusals.{number_of}
use Rattle.settings.proofs.Refused.{number_nonzero}
use Rattle.settings.specs.Questions.{is_bit, count_ok, bound_ok, shape_ok, settings_ok, ask_shape, ask_settings, ShapeReady, Ready}

-- questions 2 and 3, answered yes
pub count-ready : (n : ℕ) → count_ok n ≡ true → (1 ≤ n) × (n ≤ 8)
count-ready n e =
    let b = both_yes (leb 1 n) (leb n 8) e in
    (leb-true 1 n b.0, leb-true n 8 b.1)

pub bound-ready : (kind bound : ℕ) → bound_ok kind bound ≡ true → (bound ≤ 4190208) × (kind ≢ 0 → 1 ≤ bound)
bound-ready kind bound e = (most (eqb kind 0) e, λ h. some (eqb kind 0) (ne_eqb kind 0 h) e)
  where
    most : (b : Bool) → cond b (eqb bound 0) (leb 1 bound && leb bound 4190208) ≡ true → bound ≤ 4190208
    most true f = omega (arith, eqb-true bound 0 f)
    most false f = leb-true bound 4190208 (both_yes (leb 1 bound) (leb bound 4190208) f).1

    some : (b : Bool) → b ≡ false → cond b (eqb bound 0) (leb 1 bound && leb bound 4190208) ≡ true → 1 ≤ bound
    some b e f = leb-true 1 bound (both_yes (leb 1 bound) (leb bound 4190208) (rw e at f)).0

-- the questions after two are asked just if these are answered yes
two_pass : (a b : Bool) (rest : ℕ) → ask a 1 (ask b 2 0) ≡ 0 → ask a 1 (ask b 2 rest) ≡ rest
unfolding ask
two_pass true true rest e = refl
two_pass true false rest e = absurd (omega arith)
two_pass false b rest e = absurd (omega arith)

two_refuse : (a b : Bool) (rest : ℕ) → ask a 1 (ask b 2 0) ≢ 0 → ask a 1 (ask b 2 rest) ≡ ask a 1 (ask b 2 0)
unfolding ask
two_refuse true true rest n = absurd (n refl)
two_refuse true false rest n = refl
two_refuse false b rest n = refl

two_ok : (a b : Bool) → eqb (ask a 1 (ask b 2 0)) 0 ≡ (a && b)
unfolding ask
two_ok true true = refl
two_ok true false = refl
two_ok false b = refl

module _ (a : Shape) where
  pub shape-ready : (rest : ℕ) → ask_shape a rest ≡ 0 → ShapeReady a
  unfolding ask_shape
  shape-ready rest e =
      let one = passed (is_bit a.set && is_bit a.kind) 0 _ e in
      let bits = both_yes (is_bit a.set) (is_bit a.kind) one.0 in
      let counted = count-ready a.n (passed (count_ok a.n) 1 rest one.1).0 in
      record {
        sets = ltb-true a.set 2 bits.0;
        kinds = ltb-true a.kind 2 bits.1;
        some = counted.0;
        most = counted.1;
      }

  pub shape_rest : (rest : ℕ) → ask_shape a rest ≡ 0 → rest ≡ 0
  unfolding ask_shape
  shape_rest rest e = (passed (count_ok a.n) 1 rest (passed (is_bit a.set && is_bit a.kind) 0 _ e).1).1

  pub shape-pass : (rest : ℕ) → ask_shape a 0 ≡ 0 → ask_shape a rest ≡ rest
  unfolding ask_shape
  shape-pass rest = two_pass (is_bit a.set && is_bit a.kind) (count_ok a.n) rest

  pub shape_refuse : (rest : ℕ) → ask_shape a 0 ≢ 0 → ask_shape a rest ≡ ask_shape a 0
  unfolding ask_shape
  shape_refuse rest = two_refuse (is_bit a.set && is_bit a.kind) (count_ok a.n) rest

  -- as a function that has asked them goes on, or hands on the refusal
  pub shape_yes : (x rest : ℕ) → 0 ≡ ask_shape a 0 → x ≡ rest → x ≡ ask_shape a rest
  shape_yes x rest e h = h ∙ sym (shape-pass rest (sym e))

  pub shape_refused : (e : Refusal) (rest : ℕ) → number_of e ≡ ask_shape a 0 → number_of e ≡ ask_shape a rest
  shape_refused e rest h = h ∙ sym (shape_refuse rest (λ z. number_nonzero e (h ∙ z)))

  -- the same of any number
  pub shape_stop : (r rest : ℕ) → r ≡ ask_shape a 0 → r ≢ 0 → r ≡ ask_shape a rest
  shape_stop r rest e h = e ∙ sym (shape_refuse rest (λ z. h (e ∙ z)))

  pub shape_skip : (r x rest : ℕ) → r ≡ ask_shape a 0 → r ≡ 0 → x ≡ rest → x ≡ ask_shape a rest
  shape_skip r x rest e z h = h ∙ sym (shape-pass rest (sym e ∙ z))

  -- the two questions as one test
  pub shape_ok_lem : eqb (ask_shape a 0) 0 ≡ shape_ok a
  unfolding ask_shape shape_ok
  shape_ok_lem = two_ok (is_bit a.set && is_bit a.kind) (count_ok a.n)

  pub ok_ready : shape_ok a ≡ true → ShapeReady a
  ok_ready e = shape-ready 0 (eqb-true (ask_shape a 0) 0 (shape_ok_lem ∙ e))

module _ (number : ℕ) (s : Settings) where
  abbrev bounded : Bool
  bounded = bound_ok s.shape.kind s.bound

  pub settings-ready : (rest : ℕ) → ask_settings number s rest ≡ 0 → (number < 2) × Ready s
  unfolding ask_settings
  settings-ready rest e =
      let one = passed (is_bit number) 0 _ e in
      let shape = shape-ready s.shape _ one.1 in
      let third = passed bounded 2 rest (shape_rest s.shape _ one.1) in
      let limits = bound-ready s.shape.kind s.bound third.0 in (
        ltb-true number 2 one.0,
        record {
          shape = shape;
          bound_most = limits.0;
          bound_some = limits.1;
        },
      )

  -- a chain that goes through ends with the rest
  pub settings_rest : (rest : ℕ) → ask_settings number s rest ≡ 0 → rest ≡ 0
  unfolding ask_settings
  settings_rest rest e = (passed bounded 2 rest (shape_rest s.shape _ (passed (is_bit number) 0 _ e).1)).1

  -- the questions after these three are asked just if they are answered yes
  pub settings-pass : (rest : ℕ) → ask_settings number s 0 ≡ 0 → ask_settings number s rest ≡ rest
  unfolding ask_settings ask
  settings-pass rest e =
      let one = passed (is_bit number) 0 _ e in
      let shape = shape_rest s.shape _ one.1 in
      let third = passed bounded 2 0 shape in
      rw (one.0, third.0) (shape-pass s.shape rest (rw third.0 at one.1))

  pub settings_refuse : (rest : ℕ) → ask_settings number s 0 ≢ 0 → ask_settings number s rest ≡ ask_settings number s 0
  unfolding ask_settings ask
  settings_refuse rest n = by (is_bit number) refl bounded refl
    where
      by : (a : Bool) → is_bit number ≡ a → (b : Bool) → bounded ≡ b
          → ask a 1 (ask_shape s.shape (ask b 3 rest)) ≡ ask a 1 (ask_shape s.shape (ask b 3 0))
      by false e b f = refl
      by true e false f = refl
      by true e true f = shape_refuse s.shape rest (λ z. n (rw (e, f) z))

  pub settings_yes : (x rest : ℕ) → 0 ≡ ask_settings number s 0 → x ≡ rest → x ≡ ask_settings number s rest
  settings_yes x rest e h = h ∙ sym (settings-pass rest (sym e))

  pub settings_refused : (e : Refusal) (rest : ℕ) → number_of e ≡ ask_settings number s 0 → number_of e ≡ ask_settings number s rest
  settings_refused e rest h = h ∙ sym (settings_refuse rest (λ z. number_nonzero e (h ∙ z)))

  pub settings_stop : (r rest : ℕ) → r ≡ ask_settings number s 0 → r ≢ 0 → r ≡ ask_settings number s rest
  settings_stop r rest e h = e ∙ sym (settings_refuse rest (λ z. h (e ∙ z)))

  pub settings_skip : (r x rest : ℕ) → r ≡ ask_settings number s 0 → r ≡ 0 → x ≡ rest → x ≡ ask_settings number s rest
  settings_skip r x rest e z h = h ∙ sym (settings-pass rest (sym e ∙ z))

-- settings that pass the three questions as one test
pub settings_ok_ready : (s : Settings) → settings_ok s ≡ true → Ready s
settings_ok_ready s e =
    let both = both_yes (shape_ok s.shape) (bound_ok s.shape.kind s.bound) e in
    let limits = bound-ready s.shape.kind s.bound both.1 in
    record { shape = ok_ready s.shape both.0; bound_most = limits.0; bound_some = limits.1 }
