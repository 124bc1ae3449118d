-- Tests as numbers: what `bit (ltb a b)`, `bit (leb a b)` and `bit (eqb a b)` say, as views that carry the number.
-- `elim (lt_view a b) [ lt_is p e ↦ .. | lt_no p e ↦ .. ]` tells the cases; omega reads p and e, in a product `rw e`.
use mathlib.Core.Path.{◌≡◌, refl, sym, ◌∙◌}
use mathlib.Core.Logic.{◌≢◌}
use mathlib.Core.Bool.{Bool, true, false, not}
use Prim.Native.Nat.{ℕ, ◌≤◌, ◌<◌}
use native.Mathlib.Omega.{arith}
use lib.Dec.{T, leb, ltb, eqb, ltb→lt, nltb→le, leb→le, nleb→lt, eqb→eq, eqb_refl}
use Rattle.lists.specs.Answers.{bit}

-- ---- views

pub data Lt (a b i : ℕ) : Type 0 where
  lt_is : a < b → i ≡ 1 → Lt a b i
  lt_no : b ≤ a → i ≡ 0 → Lt a b i

pub data Le (a b i : ℕ) : Type 0 where
  le_is : a ≤ b → i ≡ 1 → Le a b i
  le_no : b < a → i ≡ 0 → Le a b i

pub data Eq (a b i : ℕ) : Type 0 where
  eq_is : a ≡ b → i ≡ 1 → Eq a b i
  eq_lt : a < b → i ≡ 0 → Eq a b i
  eq_gt : b < a → i ≡ 0 → Eq a b i

-- which of two numbers is less, with both indicators
pub data Tri (a b l e : ℕ) : Type 0 where
  tri_lt : a < b → l ≡ 1 → e ≡ 0 → Tri a b l e
  tri_eq : a ≡ b → l ≡ 0 → e ≡ 1 → Tri a b l e
  tri_gt : b < a → l ≡ 0 → e ≡ 0 → Tri a b l e

-- a number that is 0 or 1
pub data Bit (c : ℕ) : Type 0 where
  off : c ≡ 0 → Bit c
  on : c ≡ 1 → Bit c

lt_go : (a b : ℕ) (t : Bool) → (T t → a < b) → (T (not t) → b ≤ a) → Lt a b (bit t)
unfolding bit
lt_go a b true f g = lt_is (f tt) refl
lt_go a b false f g = lt_no (g tt) refl

pub lt_view : (a b : ℕ) → Lt a b (bit (ltb a b))
lt_view a b = lt_go a b (ltb a b) (ltb→lt a b) (nltb→le a b)

le_go : (a b : ℕ) (t : Bool) → (T t → a ≤ b) → (T (not t) → b < a) → Le a b (bit t)
unfolding bit
le_go a b true f g = le_is (f tt) refl
le_go a b false f g = le_no (g tt) refl

pub le_view : (a b : ℕ) → Le a b (bit (leb a b))
le_view a b = le_go a b (leb a b) (leb→le a b) (nleb→lt a b)

eq_off : (a b i : ℕ) → Le a b i → ¬ (a ≡ b) → Eq a b 0
eq_off a b i (le_is p e) n = eq_lt (omega arith) refl
eq_off a b i (le_no p e) n = eq_gt p refl

eq_go : (a b : ℕ) (t : Bool) → (T t → a ≡ b) → (a ≡ b → T t) → Eq a b (bit t)
unfolding bit
eq_go a b true f g = eq_is (f tt) refl
eq_go a b false f g = eq_off a b (bit (leb a b)) (le_view a b) g

eqb_of : (a b : ℕ) → a ≡ b → T (eqb a b)
eqb_of a b e = rw e (eqb_refl b)

pub eq_view : (a b : ℕ) → Eq a b (bit (eqb a b))
eq_view a b = eq_go a b (eqb a b) (eqb→eq a b) (eqb_of a b)

-- ---- a known outcome

pub lt_one : {a b : ℕ} → a < b → bit (ltb a b) ≡ 1
lt_one {a} {b} h = elim (lt_view a b) [ lt_is p e ↦ e | lt_no p e ↦ omega arith ]

pub lt_zero : {a b : ℕ} → b ≤ a → bit (ltb a b) ≡ 0
lt_zero {a} {b} h = elim (lt_view a b) [ lt_is p e ↦ omega arith | lt_no p e ↦ e ]

pub eq_one : {a b : ℕ} → a ≡ b → bit (eqb a b) ≡ 1
eq_one {a} {b} h = elim (eq_view a b) [ eq_is p e ↦ e | eq_lt p e ↦ omega arith | eq_gt p e ↦ omega arith ]

pub eq_zero : {a b : ℕ} → a ≢ b → bit (eqb a b) ≡ 0
eq_zero {a} {b} h = elim (eq_view a b) [ eq_is p e ↦ absurd (h p) | eq_lt p e ↦ e | eq_gt p e ↦ e ]

pub tri_view : (a b : ℕ) → Tri a b (bit (ltb a b)) (bit (eqb a b))
tri_view a b =
    elim (eq_view a b) [
      | eq_is p e ↦ tri_eq p (lt_zero {a = a} {b = b} (omega arith)) e
      | eq_lt p e ↦ tri_lt p (lt_one p) e
      | eq_gt p e ↦ tri_gt p (lt_zero {a = a} {b = b} (omega arith)) e
    ]

-- ---- an indicator is 0 or 1

pub bit_le : (t : Bool) → bit t ≤ 1
unfolding bit
bit_le true = omega arith
bit_le false = omega arith

pub bit_view : (c : ℕ) → c ≤ 1 → Bit c
bit_view c h = elim (lt_view c 1) [ lt_is p e ↦ off (omega arith) | lt_no p e ↦ on (omega arith) ]

-- ---- two tests that say the same

pub lt_same : (a b c d : ℕ) → (a < b → c < d) → (b ≤ a → d ≤ c) → bit (ltb a b) ≡ bit (ltb c d)
lt_same a b c d f g =
    elim (lt_view a b) [ lt_is p e ↦ e ∙ sym (lt_one (f p)) | lt_no p e ↦ e ∙ sym (lt_zero (g p)) ]

pub eq_same : (a b c d : ℕ) → (a ≡ b → c ≡ d) → (c ≡ d → a ≡ b) → bit (eqb a b) ≡ bit (eqb c d)
eq_same a b c d f g =
    elim (eq_view a b) [
      | eq_is p e ↦ e ∙ sym (eq_one (f p))
      | eq_lt p e ↦ e ∙ sym (eq_zero (λ h. let k = g h in omega arith))
      | eq_gt p e ↦ e ∙ sym (eq_zero (λ h. let k = g h in omega arith))
    ]

pub eq_swap : (a b : ℕ) → bit (eqb a b) ≡ bit (eqb b a)
eq_swap a b = eq_same a b b a sym sym
