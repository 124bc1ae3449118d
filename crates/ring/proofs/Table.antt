-- Rules of the factors and the roots, each proved by a test that is computed at every place.
use mathlib.Core.Path.{◌≡◌, refl, ap, ◌∙◌}
use mathlib.Core.List.{List}
use mathlib.Core.Bool.{Bool, true, ◌&&◌}
use Prim.Native.Nat.{ℕ, ◌+◌, ◌*◌, ◌-◌, ◌%◌, ◌^◌, ◌<◌}
use native.Mathlib.Nat.{mod-lt}
use native.Mathlib.Omega.{arith}
use lib.Dec.{eqb}
use lib.ListN.{get_or}
use borrow.Author.Tests.{eqb-true}
use Rattle.lists.specs.Lists.{all_to}
use Rattle.lists.proofs.Lists.{get_d_list_to}
use Rattle.lists.proofs.Every.{all_to-at}
use Rattle.lists.proofs.Questions.{both_yes}
use Rattle.field.specs.Field.{q}
use Rattle.field.specs.Congruence.{◌⊩◌≈◌}
use Rattle.ring.specs.Factors.{reversed, factor, factor_list, root}
use Rattle.ring.specs.Layers.{forward_factor, inverse_factor}

pub factor-below : (i : ℕ) → factor i < q
unfolding factor
factor-below i = mod-lt _ (omega arith)

-- the rule carried from the list to an entry
pub entry : (list : List ℕ) (i : ℕ) → list ≡ factor_list → i < 256 → (get_or list i 0 ≡ factor i) × (get_or list i 0 < q)
unfolding factor_list
entry list i e h =
    let at = ap (λ l. get_or l i 0) e ∙ get_d_list_to 256 factor i 0 h in
    (at, rw at (factor-below i))

-- ---- X^256 is −1 at each root

minus : ℕ → Bool
minus i = eqb (root i ^ 256 % q) (q - 1)

pub root_minus : (i : ℕ) → i < 256 → q ⊩ root i ^ 256 ≈ q - 1
unfolding all_to minus root reversed
root_minus i h = record { path = eqb-true _ _ (all_to-at 256 minus i refl h) }

-- ---- in layer k the two factors of block b are inverse to each other

mirror : ℕ → ℕ → Bool
mirror k b = eqb (inverse_factor (2 ^ k) b * forward_factor (2 ^ k) b % q) 1

mirrors : ℕ → Bool
mirrors k = all_to (2 ^ k) (mirror k)

pub factors_inverse : (k b : ℕ) → k < 8 → b < 2 ^ k → q ⊩ inverse_factor (2 ^ k) b * forward_factor (2 ^ k) b ≈ 1
unfolding all_to mirror mirrors inverse_factor forward_factor factor reversed
factors_inverse k b h l = record { path = eqb-true _ _ (all_to-at (2 ^ k) (mirror k) b (all_to-at 8 mirrors k refl h) l) }

-- ---- the roots of block b in layer k: half of them have the factor as their power, half its negative

low_power : ℕ → ℕ → ℕ → Bool
low_power k b j = eqb (root (b * (2 * 2 ^ (7 - k)) + j) ^ 2 ^ (7 - k) % q) (forward_factor (2 ^ k) b % q)

high_power : ℕ → ℕ → ℕ → Bool
high_power k b j = eqb ((root (b * (2 * 2 ^ (7 - k)) + j + 2 ^ (7 - k)) ^ 2 ^ (7 - k) + forward_factor (2 ^ k) b) % q) 0

powers : ℕ → ℕ → ℕ → Bool
powers k b j = low_power k b j && high_power k b j

blocks : ℕ → ℕ → Bool
blocks k b = all_to (2 ^ (7 - k)) (powers k b)

layers : ℕ → Bool
layers k = all_to (2 ^ k) (blocks k)

tested : all_to 8 layers ≡ true
unfolding all_to layers blocks powers low_power high_power root forward_factor factor reversed
tested = refl

at : (k b j : ℕ) → k < 8 → b < 2 ^ k → j < 2 ^ (7 - k) → powers k b j ≡ true
unfolding layers blocks
at k b j h l m = all_to-at (2 ^ (7 - k)) (powers k b) j (all_to-at (2 ^ k) (blocks k) b (all_to-at 8 layers k tested h) l) m

pub root-low : (k b j : ℕ) → k < 8 → b < 2 ^ k → j < 2 ^ (7 - k) → q ⊩ root (b * (2 * 2 ^ (7 - k)) + j) ^ 2 ^ (7 - k) ≈ forward_factor (2 ^ k) b
unfolding powers low_power
root-low k b j h l m = record { path = eqb-true _ _ (both_yes (low_power k b j) (high_power k b j) (at k b j h l m)).0 }

pub root-high : (k b j : ℕ) → k < 8 → b < 2 ^ k → j < 2 ^ (7 - k) → q ⊩ root (b * (2 * 2 ^ (7 - k)) + j + 2 ^ (7 - k)) ^ 2 ^ (7 - k) + forward_factor (2 ^ k) b ≈ 0
unfolding powers high_power
root-high k b j h l m = record { path = eqb-true _ _ (both_yes (low_power k b j) (high_power k b j) (at k b j h l m)).1 }
