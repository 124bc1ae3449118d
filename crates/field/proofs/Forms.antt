-- A linear form with public coefficients over the registers of a column, its value on a column of weight κ,
-- and what the values on two columns join to. Each step of the value is reduced, as the code reduces it.
use mathlib.Core.Path.{◌≡◌, refl, ap, ◌∙◌}
use mathlib.Core.Bool.{Bool, true, false, cond}
use Prim.Native.Nat.{ℕ, zero, suc, ◌+◌, ◌*◌, ◌-◌, ◌%◌, ◌<◌}
use native.Mathlib.Omega.{arith}
use native.Mathlib.Nat.{mod-lt, mod-eq_of_lt, add_comm}
use lib.Dec.{ltb, eqb}
use Rattle.field.specs.Congruence.{◌⊩◌≈◌}
use Rattle.field.specs.Sums.{sum_to}
use Rattle.field.specs.Forms.{Registers, Form, num, reg, sum, ◌⊞◌, ◌⊟◌, ◌⊠◌, value, Adds, Join, updated}
use Rattle.field.proofs.Congruence.{≈_refl, ≈_eq, ≈_sym, ≈_trans, ≈_add, ≈_mul, ≈_mod, ≈_unmod, ≈-set, ≈_lt, ≈_cancel}
use Rattle.field.proofs.Solve.{at, ◌⊕◌, ◌⊖◌, ◌⊗◌, red, solve_by}
use Rattle.field.proofs.Sums.{select}
use borrow.Author.Tests.{lt-ltb, le-ltb}
use Rattle.lists.specs.Answers.{bit}
use Rattle.lists.proofs.Indicators.{eq_one, eq_zero}

pub sum-join : (q m : ℕ) (r₁ r₂ v w : ℕ → ℕ) (n : ℕ) → ((j : ℕ) → Adds q m (r₁ j) (r₂ j) (v j)) → q ⊩ sum_to n (λ j. w j * r₁ j) + sum_to n (λ j. w j * r₂ j) ≈ m * sum_to n (λ j. w j * v j)
unfolding sum_to
sum-join q m r₁ r₂ v w zero h = ≈_eq (omega arith)
sum-join q m r₁ r₂ v w (suc n) h =
    ≈_trans (≈_eq (omega arith))
    (≈_trans (≈_add (sum-join q m r₁ r₂ v w n h) (≈_mul (≈_refl (w n)) (h n).total))
    (≈_eq (omega arith)))

module _ {q m : ℕ} (pos : 0 < q) where
  pub add-join : {a₁ a₂ a b₁ b₂ b : ℕ} → Adds q m a₁ a₂ a → Adds q m b₁ b₂ b → Adds q m ((a₁ + b₁) % q) ((a₂ + b₂) % q) ((a + b) % q)
  add-join {a₁} {a₂} {a} {b₁} {b₂} {b} h k =
      record {
        total = solve_by q pos (at (a₁ + a₂ + (b₁ + b₂))) (at (m * a + m * b)) (≈_add h.total k.total)
            (red (at a₁ ⊕ at b₁) ⊕ red (at a₂ ⊕ at b₂)) (at m ⊗ red (at a ⊕ at b)) (omega arith);
      }

  pub sub-join : {a₁ a₂ a b₁ b₂ b : ℕ} → Adds q m a₁ a₂ a → Adds q m b₁ b₂ b →
      Adds q m ((a₁ + (q - b₁ % q)) % q) ((a₂ + (q - b₂ % q)) % q) ((a + (q - b % q)) % q)
  sub-join {a₁} {a₂} {a} {b₁} {b₂} {b} h k =
      record {
        total = solve_by q pos (at (a₁ + a₂ + m * b)) (at (m * a + (b₁ + b₂))) (≈_add h.total (≈_sym k.total))
            (red (at a₁ ⊖ at b₁) ⊕ red (at a₂ ⊖ at b₂)) (at m ⊗ red (at a ⊖ at b)) (omega arith);
      }

  scale-join : {a₁ a₂ a : ℕ} (k : ℕ) → Adds q m a₁ a₂ a → Adds q m (k * a₁ % q) (k * a₂ % q) (k * a % q)
  scale-join {a₁} {a₂} {a} k h =
      record {
        total = solve_by q pos (at (k * (a₁ + a₂))) (at (k * (m * a))) (≈_mul (≈_refl k) h.total)
            (red (at k ⊗ at a₁) ⊕ red (at k ⊗ at a₂)) (at m ⊗ red (at k ⊗ at a)) (omega arith);
      }

  num-join : (κ₁ κ₂ k : ℕ) → q ⊩ κ₁ + κ₂ ≈ m → Adds q m (κ₁ * k % q) (κ₂ * k % q) (1 * k % q)
  num-join κ₁ κ₂ k h =
      record {
        total = solve_by q pos (at ((κ₁ + κ₂) * k)) (at (m * k)) (≈_mul h (≈_refl k))
            (red (at κ₁ ⊗ at k) ⊕ red (at κ₂ ⊗ at k)) (at m ⊗ red (at 1 ⊗ at k)) (omega arith);
      }

  red_join : {a₁ a₂ a : ℕ} → Adds q m a₁ a₂ a → Adds q m (a₁ % q) (a₂ % q) (a % q)
  red_join h = record { total = grw (≈-set, ≈_mod, ≈_mod, ← ≈_unmod) h.total }

-- T1: the values of a form on two columns add to m times its value on the plain column
pub join-value : {q m κ₁ κ₂ : ℕ} {r₁ r₂ v : Registers} → 0 < q → Join q m κ₁ κ₂ r₁ r₂ v → (f : Form) →
    Adds q m (value q κ₁ r₁ f) (value q κ₂ r₂ f) (value q 1 v f)
join-value {κ₁ = κ₁} {κ₂ = κ₂} pos j (num k) = num-join pos κ₁ κ₂ k j.weight
join-value pos j (reg i) = j.numbers i
join-value {q} {m} {r₁ = r₁} {r₂ = r₂} {v = v} pos j (sum n p w) =
    red_join pos (record { total = sum-join q m (λ i. r₁ (p + i)) (λ i. r₂ (p + i)) (λ i. v (p + i)) w n (λ i. j.numbers (p + i)) })
join-value pos j (f ⊞ g) = add-join pos (join-value pos j f) (join-value pos j g)
join-value pos j (f ⊟ g) = sub-join pos (join-value pos j f) (join-value pos j g)
join-value pos j (k ⊠ f) = scale-join pos k (join-value pos j f)

-- the value is below q, where the registers are
pub value-below : (q κ : ℕ) (r : Registers) → 0 < q → ((i : ℕ) → r i < q) → (f : Form) → value q κ r f < q
value-below q κ r pos h (num n) = mod-lt _ pos
value-below q κ r pos h (reg i) = h i
value-below q κ r pos h (sum n place weight) = mod-lt _ pos
value-below q κ r pos h (f ⊞ g) = mod-lt _ pos
value-below q κ r pos h (f ⊟ g) = mod-lt _ pos
value-below q κ r pos h (n ⊠ f) = mod-lt _ pos

cond-join : {q m a₁ a₂ a b₁ b₂ b : ℕ} (t : Bool) → Adds q m a₁ a₂ a → Adds q m b₁ b₂ b → Adds q m (cond t a₁ b₁) (cond t a₂ b₂) (cond t a b)
cond-join true h k = h
cond-join false h k = k

-- T1 for an update
pub join-put : {q m κ₁ κ₂ : ℕ} {r₁ r₂ v : Registers} (a n : ℕ) (f₁ f₂ f : ℕ → ℕ) → Join q m κ₁ κ₂ r₁ r₂ v → ((i : ℕ) → Adds q m (f₁ i) (f₂ i) (f i)) →
    Join q m κ₁ κ₂ (updated r₁ a n f₁) (updated r₂ a n f₂) (updated v a n f)
join-put a n f₁ f₂ f j h =
    record { weight = j.weight; numbers = λ i. cond-join (ltb i a) (j.numbers i) (cond-join (ltb i (a + n)) (h (i - a)) (j.numbers i)) }

-- ---- values, registers and shares

-- a sum against a vector that is 1 at d and 0 elsewhere
pub unit-sum : (q : ℕ) (v : Registers) (n place d : ℕ) (f : ℕ → ℕ) → d < n → ((j : ℕ) → j < n → v (place + j) ≡ bit (eqb j d)) → f d < q → value q 1 v (sum n place f) ≡ f d
unit-sum q v n place d f l h b =
    ap (λ (x : ℕ). x % q) (select n d f (λ j. v (place + j)) l (h d l ∙ eq_one {a = d} {b = d} refl) (λ j m ne. h j m ∙ eq_zero ne))
    ∙ mod-eq_of_lt b

-- registers outside a run stay
pub updated-before : (r : Registers) (a n : ℕ) (f : ℕ → ℕ) (i : ℕ) → i < a → updated r a n f i ≡ r i
updated-before r a n f i h = rw (lt-ltb i a h)

pub updated-at : (r : Registers) (a n : ℕ) (f : ℕ → ℕ) (k : ℕ) → k < n → updated r a n f (a + k) ≡ f k
updated-at r a n f k h =
    let m : a + k - a ≡ k = omega arith in
    rw (le-ltb (a + k) a (omega arith), lt-ltb (a + k) (a + n) (omega arith), m)

-- the two shares in the other order
pub adds-swap : {q m a b c : ℕ} → Adds q m a b c → Adds q m b a c
adds-swap {a = a} {b = b} h = record { total = rw (add_comm b a) h.total }

-- what is missing to the same total is the same
pub missing_same : (m f a b b' v : ℕ) → Adds m f a b v → Adds m f a b' v → b < m → b' < m → b ≡ b'
missing_same m f a b b' v h h' l l' =
    ≈_lt
    (≈_cancel a (≈_trans (≈_eq (add_comm b a)) (≈_trans h.total (≈_trans (≈_sym h'.total) (≈_eq (add_comm a b'))))))
    l l'
