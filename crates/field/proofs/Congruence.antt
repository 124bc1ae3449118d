-- Laws of congruence. `grw (≈-set, rules)` rewrites inside an expression by congruences, each rule once.
use mathlib.Core.Path.{◌≡◌, refl, ap, sym, ◌∙◌}
use Prim.Native.Nat.{ℕ, zero, suc, ◌+◌, ◌*◌, ◌/◌, ◌%◌, ◌<◌}
use native.Mathlib.Nat.{add-mod, mod-mod, mul_comm, mod-add-div, mod-eq_of_lt, add-mul-mod_self_left, add-mul-mod_self_right, add_right_cancel, mod-zero}
use native.Mathlib.Omega.{arith}
use Rattle.field.specs.Congruence.{◌⊩◌≈◌}

-- an inner remainder of a product does not matter
pub mod_mul_mod : (a b q : ℕ) → (a % q * b) % q ≡ (a * b) % q
mod_mul_mod a b q =
    let e : (a % q + q * (a / q)) * b ≡ a * b = ap (λ n. n * b) (mod-add-div a q) in
    let s : a * b ≡ a % q * b + q * (a / q * b) = omega (arith, e) in
    sym (ap (λ n. n % q) s ∙ add-mul-mod_self_left (a % q * b) q (a / q * b))

pub mul_mod_mod : (a b q : ℕ) → (a * (b % q)) % q ≡ (a * b) % q
mul_mod_mod a b q = ap (λ n. n % q) (mul_comm a (b % q)) ∙ mod_mul_mod b a q ∙ ap (λ n. n % q) (mul_comm b a)

module _ {q : ℕ} where
  pub ≈_refl : (a : ℕ) → q ⊩ a ≈ a
  ≈_refl a = record { path = refl }

  pub ≈_eq : {a b : ℕ} → a ≡ b → q ⊩ a ≈ b
  ≈_eq e = record { path = ap (λ n. n % q) e }

  pub ≈_sym : {a b : ℕ} → q ⊩ a ≈ b → q ⊩ b ≈ a
  ≈_sym h = record { path = sym h.path }

  pub ≈_trans : {a b c : ℕ} → q ⊩ a ≈ b → q ⊩ b ≈ c → q ⊩ a ≈ c
  ≈_trans h k = record { path = h.path ∙ k.path }

  pub ≈_add : {a b c d : ℕ} → q ⊩ a ≈ b → q ⊩ c ≈ d → q ⊩ a + c ≈ b + d
  ≈_add {a} {b} {c} {d} h k =
      let h' : a % q ≡ b % q = h.path in
      let k' : c % q ≡ d % q = k.path in
      record { path = cc (add-mod a c q, add-mod b d q) }

  pub ≈_mul : {a b c d : ℕ} → q ⊩ a ≈ b → q ⊩ c ≈ d → q ⊩ a * c ≈ b * d
  ≈_mul {a} {b} {c} {d} h k =
      let h' : a % q ≡ b % q = h.path in
      let k' : c % q ≡ d % q = k.path in
      record { path = cc (mod_mul_mod a c q, mul_mod_mod (a % q) c q, mod_mul_mod b d q, mul_mod_mod (b % q) d q) }

  pub ≈_mod : (a : ℕ) → q ⊩ a % q ≈ a
  ≈_mod a = record { path = mod-mod a q }

  -- the same for a right side: `grw (≈-set, ≈_mod, ← ≈_unmod) t`
  pub ≈_unmod : (a : ℕ) → q ⊩ a ≈ a % q
  ≈_unmod a = ≈_sym (≈_mod a)

  -- two numbers below q that are congruent are equal
  pub ≈_lt : {a b : ℕ} → q ⊩ a ≈ b → a < q → b < q → a ≡ b
  ≈_lt h l k = cc (h.path, mod-eq_of_lt l, mod-eq_of_lt k)

  -- a multiple of q may be added
  pub ≈_mult : (a k : ℕ) → q ⊩ a + k * q ≈ a
  ≈_mult a k = record { path = add-mul-mod_self_right a k q }

pub ≈_cancel : {q a b : ℕ} (c : ℕ) → q ⊩ a + c ≈ b + c → q ⊩ a ≈ b
≈_cancel {q} {a} {b} c h = go q h
  where
    go : (q : ℕ) → q ⊩ a + c ≈ b + c → q ⊩ a ≈ b
    go zero h = record { path = simp mod-zero (add_right_cancel c (simp mod-zero at h.path)) }
    go (suc p) h =
        let k : suc p ⊩ (a + c) + c * p ≈ (b + c) + c * p = ≈_add h (≈_refl (c * p)) in
        let l : a + c * suc p ≡ (a + c) + c * p = omega arith in
        let r : (b + c) + c * p ≡ b + c * suc p = omega arith in
        ≈_trans (≈_sym (≈_mult a c)) (≈_trans (≈_eq l) (≈_trans k (≈_trans (≈_eq r) (≈_mult b c))))

-- the set for grw: congruences, transitivity, reflexivity
pub ruleset ≈-set = (≈_trans, ≈_refl, ≈_add, ≈_mul)
