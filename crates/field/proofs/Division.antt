-- Quotients and remainders by a number that is no numeral, as records that omega reads, and remainders of numbers below 2m.
use mathlib.Core.Path.{◌≡◌, sym, ap, ◌∙◌}
use Prim.Native.Nat.{ℕ, ◌+◌, ◌-◌, ◌*◌, ◌/◌, ◌%◌, ◌≤◌, ◌<◌}
use native.Mathlib.Nat.{mod-lt, div-add-mod', mod-eq_of_lt, mod-add-mod, add-mod_right}
use native.Mathlib.Decide.{dec_lt}
use native.Mathlib.Omega.{arith}
use lib.Arith.{digits_div, digits_mod}

-- k is the quotient and l the remainder of x by b
pub record Split (x b k l : ℕ) : Type 0 where
  pub parts : x ≡ k * b + l
  pub small : l < b

pub split : (x : ℕ) {b : ℕ} → 0 < b → Split x b (x / b) (x % b)
split x {b} h = record { parts = sym (div-add-mod' x b); small = mod-lt x h }

pub split_div : {x b k l : ℕ} → Split x b k l → x / b ≡ k
split_div {b = b} {k = k} h = ap (λ (z : ℕ). z / b) h.parts ∙ digits_div k h.small

pub split_mod : {x b k l : ℕ} → Split x b k l → x % b ≡ l
split_mod {b = b} {k = k} h = ap (λ (z : ℕ). z % b) h.parts ∙ digits_mod k h.small

-- w is the remainder by m of x, which is below 2m
pub data Mod (x m w : ℕ) : Type 0 where
  mod_same : x < m → w ≡ x → Mod x m w
  mod_less : m ≤ x → w + m ≡ x → Mod x m w

pub mod_view : (x m : ℕ) → x < m + m → Mod x m (x % m)
mod_view x m h = go (dec_lt x m)
  where
    go : Dec (x < m) → Mod x m (x % m)
    go (yes p) = mod_same p (mod-eq_of_lt p)
    go (no p) =
        let c : Split x m 1 (x - m) = record { parts = omega arith; small = omega arith } in
        let f : x % m ≡ x - m = split_mod c in
        mod_less (omega arith) (omega arith)

-- a property of such a remainder, by the two cases
pub mod_elim : (x m : ℕ) (P : ℕ → Type 0) → x < m + m → ((x < m → P x) × ((w : ℕ) → w < m → w + m ≡ x → P w)) → P (x % m)
mod_elim x m P l h = elim (mod_view x m l) [ mod_same p e ↦ rw e (h.0 p) | mod_less p e ↦ h.1 (x % m) (omega arith) e ]

-- a number masked by r and unmasked
pub unmask : (m x r : ℕ) → r ≤ m → ((x + (m - r)) % m + r) % m ≡ x % m
unmask m x r h =
    let e : x + (m - r) + r ≡ x + m = omega arith in
    rw (mod-add-mod, e) (add-mod_right x m)

-- k - x modulo m where nothing is lost
pub mod_sub : (m k x : ℕ) → k < m → x ≤ k → (k + (m - x)) % m ≡ k - x
mod_sub m k x h l = mod_elim (k + (m - x)) m (λ w. w ≡ k - x) (omega arith) (omega arith)
