-- Differences and products modulo q, and modulo any number.
use mathlib.Core.Path.{◌≡◌}
use Prim.Native.Nat.{ℕ, ◌+◌, ◌-◌, ◌*◌, ◌%◌, ◌≤◌, ◌<◌}
use native.Mathlib.Nat.{mod-eq_of_lt, one-mul, add-zero}
use native.Mathlib.Omega.{arith}
use Rattle.lists.proofs.Indicators.{bit_view, on, off}
use Rattle.field.specs.Field.{q, sub}
use Rattle.field.proofs.Division.{mod_sub}
use Rattle.field.proofs.Congruence.{≈_eq, ≈_trans, ≈_mod}
use Rattle.field.proofs.Solve.{at, ◌⊕◌, ◌⊖◌, ◌⊗◌, red, solve, solve_by}

-- what a sum has grown by
pub difference_of : (s x : ℕ) → x % q ≡ sub q ((s + x) % q) (s % q)
difference_of s x = omega arith

-- of reduced numbers
pub reduced_difference : (a b : ℕ) → sub q a b ≡ sub q (a % q) (b % q)
reduced_difference a b = omega arith

-- no more taken away than there is
pub less_is : (m k x : ℕ) → k < m → x ≤ k → sub m (1 * k % m) x ≡ k - x
less_is m k x h l = rw (one-mul k, mod-eq_of_lt {n = k} {m = m} h, mod-eq_of_lt {n = x} {m = m} (omega arith)) (mod_sub m k x h l)

-- S + x + c × (x' − x), where x = f d, x' = f (d + 1) and c is 0 or 1
pub choice_is : (m S c d : ℕ) (f : ℕ → ℕ) → 0 < m → c ≤ 1 → ((S + f d) % m + c * sub m (f (d + 1)) (f d)) % m ≡ (S + f (d + c)) % m
choice_is m S c d f pos h =
    elim (bit_view c h) [
      | off e ↦ rw (e, add-zero d) (solve m pos (red (at S ⊕ at (f d)) ⊕ at 0 ⊗ red (at (f (d + 1)) ⊖ at (f d))) (at S ⊕ at (f d)) (omega arith)).path
      | on e ↦ rw e (solve m pos (red (at S ⊕ at (f d)) ⊕ at 1 ⊗ red (at (f (d + 1)) ⊖ at (f d))) (at S ⊕ at (f (d + 1))) (omega arith)).path
    ]

-- h + u × v from u − a and v − b, with c = a × b
pub product_of_opened : (q h u v a b c : ℕ) → 0 < q → c ≡ a * b % q
    → sub q (((((h + sub q u a * v % q) % q) + sub q v b * u % q) % q + c) % q) (1 * (sub q u a * sub q v b % q) % q) ≡ (h + u * v) % q
product_of_opened q h u v a b c pos t =
    let e = red (at u ⊖ at a) in
    let f = red (at v ⊖ at b) in
    (solve_by q pos (at c) (at a ⊗ at b) (≈_trans (≈_eq t) (≈_mod (a * b)))
    (red (red (red (at h ⊕ red (e ⊗ at v)) ⊕ red (f ⊗ at u)) ⊕ at c) ⊖ red (at 1 ⊗ red (e ⊗ f)))
    (at h ⊕ at u ⊗ at v) (omega arith)).path
