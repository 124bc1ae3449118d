-- Ring identities modulo q. An expression over + * - % is split in what is added and what is taken away, both plain ℕ;
-- the identity between the sums is `omega arith`'s, which multiplies products out.
use mathlib.Core.Path.{◌≡◌}
use Prim.Native.Nat.{ℕ, ◌+◌, ◌*◌, ◌-◌, ◌%◌, ◌<◌}
use native.Mathlib.Nat.{mod-lt}
use native.Mathlib.Omega.{arith}
use Rattle.field.specs.Congruence.{◌⊩◌≈◌}
use Rattle.field.proofs.Congruence.{≈_refl, ≈_eq, ≈_sym, ≈_trans, ≈_add, ≈_mod, ≈_unmod, ≈_mult, ≈_cancel, ≈-set}

-- an expression: `at t` is any number t; `less` is q - 1, the coefficient -1; `neg a` is q - a % q; `red a` is a % q
infixl 65 ◌⊕◌ ◌⊖◌
infixl 70 ◌⊗◌
pub data E : Type 0 where
  at : ℕ → E
  ◌⊕◌ ◌⊗◌ : E → E → E
  neg red : E → E
  less : E

abbrev pub ◌⊖◌ : E → E → E
a ⊖ b = a ⊕ neg b

module _ (q : ℕ) where
  abbrev pub den : E → ℕ
  den (at x) = x
  den (a ⊕ b) = den a + den b
  den (a ⊗ b) = den a * den b
  den (neg a) = q - den a % q
  den (red a) = den a % q
  den less = q - 1

-- what is added, and what is taken away
abbrev mutual
  pub up : E → ℕ
  up (at x) = x
  up (a ⊕ b) = up a + up b
  up (a ⊗ b) = up a * up b + down a * down b
  up (neg a) = down a
  up (red a) = up a
  up less = 0

  pub down : E → ℕ
  down (at x) = 0
  down (a ⊕ b) = down a + down b
  down (a ⊗ b) = up a * down b + down a * up b
  down (neg a) = up a
  down (red a) = down a
  down less = 1

module _ (q : ℕ) (pos : 0 < q) where
  neg_step : (A Na : ℕ) {Pa : ℕ} → q ⊩ A + Na ≈ Pa → q ⊩ (q - A % q) + Pa ≈ Na
  neg_step A Na h =
      let l : A % q < q = mod-lt A pos in
      grw (≈-set, ≈_sym h)
      (≈_trans (≈_add (≈_refl (q - A % q)) (≈_add (≈_unmod A) (≈_refl Na))) (≈_trans (≈_eq (omega arith)) (≈_mult Na 1)))

  mul-step : (A Na B Nb : ℕ) {Pa Pb : ℕ} → q ⊩ A + Na ≈ Pa → q ⊩ B + Nb ≈ Pb → q ⊩ A * B + (Pa * Nb + Na * Pb) ≈ Pa * Pb + Na * Nb
  mul-step A Na B Nb h k = grw (≈-set, ≈_sym h, ≈_sym k, ← h, ← k) (≈_eq (omega arith))

  sound : (e : E) → q ⊩ den q e + down e ≈ up e
  sound (at x) = ≈_eq (omega arith)
  sound (a ⊕ b) = ≈_trans (≈_eq (omega arith)) (≈_add (sound a) (sound b))
  sound (a ⊗ b) = mul-step (den q a) (down a) (den q b) (down b) (sound a) (sound b)
  sound (neg a) = neg_step (den q a) (down a) (sound a)
  sound (red a) = ≈_trans (≈_add (≈_mod (den q a)) (≈_refl (down a))) (sound a)
  sound less = ≈_trans (≈_eq (omega arith)) (≈_mult 0 1)

  pub solve : (a b : E) → up a + down b ≡ up b + down a → q ⊩ den q a ≈ den q b
  solve a b e = ≈_cancel (down a + down b)
      (≈_trans (≈_eq (omega arith)) (≈_trans (≈_add (sound a) (≈_refl (down b)))
      (≈_trans (≈_eq e) (≈_trans (≈_add (≈_sym (sound b)) (≈_refl (down a))) (≈_eq (omega arith))))))

  -- from a congruence l ≈ r in hand (several: added by ≈_add, with factors by ≈_mul): a - b = l - r
  pub solve_by : (l r : E) → q ⊩ den q l ≈ den q r → (a b : E) → (up a + up r) + (down b + down l) ≡ (up b + up l) + (down a + down r) → q ⊩ den q a ≈ den q b
  solve_by l r h a b e = ≈_cancel (den q r) (≈_trans (solve (a ⊕ r) (b ⊕ l) e) (≈_add (≈_refl (den q b)) h))
