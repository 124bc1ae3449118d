-- What holds of the constants of both sets.
use mathlib.Core.Path.{◌≡◌, refl}
use mathlib.Core.Bool.{Bool, true, false, cond, ◌&&◌}
use mathlib.Core.List.{List}
use Prim.Native.Nat.{ℕ, zero, suc, ◌+◌, ◌-◌, ◌*◌, ◌≤◌, ◌<◌}
use native.Mathlib.Omega.{arith}
use lib.Dec.{leb, ltb}
use lib.ListN.{length, get_or}
use borrow.Author.Tests.{leb-true}
use Rattle.lists.specs.Lists.{all_to}
use Rattle.lists.proofs.Lists.{length-list_from, get_d_list_to}
use Rattle.lists.proofs.Questions.{both_yes}
use Rattle.lists.proofs.Every.{all_to-at}
use Rattle.settings.specs.Sets.{scale_of, base, top, top_digits}
use Rattle.settings.specs.Theorems.{Lawful}

-- both sets are lawful: the bases multiply to α, s × α = q − 1, and so on
pub lawful : (set : ℕ) → set < 2 → Lawful (scale_of set)
lawful zero h = omega arith
lawful (suc zero) h = omega arith
lawful (suc (suc set)) h = absurd (omega arith)

-- is the number from a to b?
within : ℕ → ℕ → ℕ → Bool
within a b x = leb a x && leb x b

within-is : (a b x : ℕ) → within a b x ≡ true → (a ≤ x) × (x ≤ b)
unfolding within
within-is a b x e =
    let y = both_yes (leb a x) (leb x b) e in
    (leb-true a x y.0, leb-true x b y.1)

-- the tables' ranges, by one test over each table
pub base-range : (set digit : ℕ) → set < 2 → digit < 5 → (1 ≤ base (scale_of set) digit) × (base (scale_of set) digit ≤ 45)
unfolding within all_to
base-range set digit hs hd =
    within-is 1 45 (base (scale_of set) digit)
    (all_to-at 5 (λ (d : ℕ). within 1 45 (base (scale_of set) d)) digit
    (all_to-at 2 (λ (s : ℕ). all_to 5 (λ (d : ℕ). within 1 45 (base (scale_of s) d))) set refl hs) hd)

pub alpha-range : (set : ℕ) → set < 2 → (2 ≤ (scale_of set).alpha) × ((scale_of set).alpha ≤ 523776)
unfolding within all_to
alpha-range set h = within-is 2 523776 (scale_of set).alpha (all_to-at 2 (λ (s : ℕ). within 2 523776 (scale_of s).alpha) set refl h)

pub parts-range : (set : ℕ) → set < 2 → (1 ≤ (scale_of set).parts) × ((scale_of set).parts ≤ 44)
unfolding within all_to
parts-range set h = within-is 1 44 (scale_of set).parts (all_to-at 2 (λ (s : ℕ). within 1 44 (scale_of s).parts) set refl h)

-- a list that passed the test of the rule: how long it is, and each entry
pub top-length : (s : ℕ) → length (top_digits s) ≡ 2 * s + 2
unfolding top_digits
top-length s = length-list_from 0 (2 * s + 2) (top s)

pub top_entry : (list : List ℕ) (s d : ℕ) → list ≡ top_digits s → d ≤ 2 * s + 1 → get_or list d 0 ≡ top s d
unfolding top_digits
top_entry list s d e h = rw e (get_d_list_to (2 * s + 2) (top s) d 0 (omega arith))

pub top_le : (s d : ℕ) → top s d ≤ d
unfolding top
top_le s d = go (ltb d s)
  where
    go : (b : Bool) → cond b d (d - s) ≤ d
    go true = omega arith
    go false = omega arith
