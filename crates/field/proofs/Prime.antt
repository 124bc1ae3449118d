-- q is prime (NoZeroDivisors). No number from 2 to 2,895 divides it, which is computed; so none below q does; and so a product that is 0
-- modulo q has a factor 0: a factor a that is neither 0 nor 1 gives way to the smaller q % a, until it is 1.
use Prim.Native.Nat.{ℕ, zero, suc, ◌+◌, ◌-◌, ◌*◌, ◌/◌, ◌%◌, ◌≤◌, ◌<◌}
use mathlib.Core.Path.{◌≡◌, refl, sym, ap, ◌∙◌}
use mathlib.Core.Logic.{◌⊎◌, inl, inr}
use mathlib.Core.Bool.{true}
use native.Mathlib.Nat.{mod-lt, mod-add-div', mul-mod_right, mul-le-mul, mod-eq_of_lt, one-mul, zero-add}
use native.Mathlib.Decide.{dec_lt}
use native.Mathlib.Omega.{arith}
use lib.Dec.{ltb}
use borrow.Author.Tests.{ltb-true}
use Rattle.lists.specs.Lists.{all_to}
use Rattle.lists.proofs.Every.{all_to-at}
use Rattle.field.specs.Field.{q}
use Rattle.field.specs.Congruence.{◌⊩◌≈◌}
use Rattle.field.specs.Theorems.{NoZeroDivisors}
use Rattle.field.proofs.Congruence.{≈_refl, ≈_eq, ≈_sym, ≈_trans, ≈_mul, ≈_mod, ≈_cancel}

-- ---- Divisors of q

-- 2, 3, .., 2,895 leave a remainder
tried : all_to 2894 (λ (i : ℕ). ltb 0 (q % (i + 2))) ≡ true
unfolding all_to
tried = refl

small : (d : ℕ) → 2 ≤ d → d < 2896 → 0 < q % d
small d l h =
    let e : d - 2 + 2 ≡ d = omega arith in
    rw e at (ltb-true 0 (q % (d - 2 + 2)) (all_to-at 2894 (λ (i : ℕ). ltb 0 (q % (i + 2))) (d - 2) tried (omega arith)))

-- of two factors of q one is below 2,896, whose square is above q
no_divisor : (d : ℕ) → 2 ≤ d → d < q → 0 < q % d
no_divisor d l h = go (dec_lt d 2896) (dec_lt 0 (q % d))
  where
    other : (c : ℕ) → 2896 ≤ d → c * d ≡ q → ⊥
    other zero b e = omega arith
    other (suc zero) b e = omega arith
    other (suc (suc c)) b e =
        elim (dec_lt (suc (suc c)) 2896) [
          | yes s ↦
              let none : q % suc (suc c) ≡ 0 = ap (λ (x : ℕ). x % suc (suc c)) (sym e) ∙ mul-mod_right (suc (suc c)) d in
              omega (arith, small (suc (suc c)) (omega arith) s)
          | no s ↦
              let most : 2896 * 2896 ≤ suc (suc c) * d = mul-le-mul {n₁ = 2896} {m₁ = 2896} {n₂ = suc (suc c)} {m₂ = d} (omega arith) (omega arith) in
              omega arith
        ]

    go : Dec (d < 2896) → Dec (0 < q % d) → 0 < q % d
    go (yes s) r = small d l s
    go (no s) (yes r) = r
    go (no s) (no r) = absurd (other (q / d) (omega arith) (omega (arith, mod-add-div' q d)))

-- ---- Products, modulo any number without divisors

module _ (p : ℕ) (prime : (d : ℕ) → 2 ≤ d → d < p → 0 < p % d) where
  -- p = (p / a) × a + p % a: where p divides a × b, it divides (p % a) × b
  smaller : (a b : ℕ) → p ⊩ a * b ≈ 0 → p ⊩ p % a * b ≈ 0
  smaller a b e =
      let parts : (p % a + p / a * a) * b ≡ p * b = ap (λ (x : ℕ). x * b) (mod-add-div' p a) in
      let whole : p % a * b + p / a * (a * b) ≡ p * b = omega (arith, parts) in
      let none : p ⊩ p / a * (a * b) ≈ p / a * 0 = ≈_mul (≈_refl (p / a)) e in
      let nothing : p / a * 0 ≡ 0 = omega arith in
      let all : p ⊩ p * b ≈ 0 = record { path = mul-mod_right p b ∙ sym (mul-mod_right p 0) ∙ ap (λ (x : ℕ). x % p) (omega arith) } in
      ≈_cancel (p / a * (a * b))
      (≈_trans (≈_eq whole) (≈_trans all (≈_sym (≈_trans (≈_eq (zero-add (p / a * (a * b)))) (≈_trans none (≈_eq nothing))))))

  -- n bounds the factor
  other-factor : (n a b : ℕ) → a ≤ n → 0 < a → a < p → p ⊩ a * b ≈ 0 → p ⊩ b ≈ 0
  other-factor zero a b l some h e = absurd (omega arith)
  other-factor (suc n) a b l some h e = go (dec_lt a 2) (other-factor n (p % a) b)
    where
      go : Dec (a < 2) → (p % a ≤ n → 0 < p % a → p % a < p → p ⊩ p % a * b ≈ 0 → p ⊩ b ≈ 0) → p ⊩ b ≈ 0
      go (yes s) ih =
          let one : a ≡ 1 = omega arith in
          ≈_trans (≈_eq (sym (one-mul b) ∙ ap (λ (x : ℕ). x * b) (sym one))) e
      go (no s) ih =
          let less : p % a < a = mod-lt p some in
          ih (omega arith) (prime a (omega arith) h) (omega arith) (smaller a b e)

  zero-factor : 0 < p → (a b : ℕ) → a * b % p ≡ 0 → (a % p ≡ 0) ⊎ (b % p ≡ 0)
  zero-factor pos a b e = go (dec_lt 0 (a % p))
    where
      none : 0 % p ≡ 0
      none = mod-eq_of_lt pos

      reduced : p ⊩ a % p * b ≈ 0
      reduced = ≈_trans (≈_mul (≈_mod a) (≈_refl b)) (record { path = e ∙ sym none })

      go : Dec (0 < a % p) → (a % p ≡ 0) ⊎ (b % p ≡ 0)
      go (yes some) = inr ((other-factor (a % p) (a % p) b (omega arith) some (mod-lt a pos) reduced).path ∙ none)
      go (no not_some) = inl (omega arith)

pub no_zero_divisors : NoZeroDivisors
no_zero_divisors = zero-factor q no_divisor (omega arith)
