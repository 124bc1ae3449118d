-- Bounds that the functions need: places in a column, digits, thresholds, indices, and how many openings a round has.
use mathlib.Core.Path.{◌≡◌, refl, sym, ap, ◌∙◌}
use mathlib.Core.Logic.{◌≢◌}
use mathlib.Core.Bool.{Bool, true, false, cond, ◌&&◌}
use Prim.Native.Nat.{ℕ, zero, suc, ◌+◌, ◌-◌, ◌*◌, ◌/◌, ◌%◌, ◌≤◌, ◌<◌}
use native.Mathlib.Nat.{mul-le-mul_left, mul-le-mul_right, le-div_iff_mul-le}
use native.Mathlib.Decide.{dec_lt}
use native.Mathlib.Omega.{arith}
use lib.Dec.{eqb, leb, ltb}
use borrow.Author.Tests.{leb-true, ltb-true, eqb-true, ne_eqb, eq-eqb, le-leb, lt-leb, lt-ltb, le-ltb}
use Rattle.lists.specs.Lists.{all_to}
use Rattle.lists.proofs.Every.{all_to-at}
use Rattle.lists.proofs.Questions.{both_yes}
use Rattle.field.specs.Field.{q}
use Rattle.field.specs.Sums.{sum_to}
use Rattle.field.proofs.Division.{Split, split}
use Rattle.settings.specs.declared.Shape.{Shape}
use Rattle.settings.specs.Settings.{Params, params_of}
use Rattle.settings.specs.Sets.{scale_of, base}
use Rattle.rounding.specs.Rounds.{gap, threshold}
use Rattle.settings.proofs.Sets.{base-range}
use Rattle.settings.specs.Sizes.{openings, stride}
use Rattle.book.specs.Book.{group_k, vector_at}
use Rattle.steps.specs.Steps.{limit_of, group_of}
use Rattle.slice.specs.Weights.{rule_of}
use Rattle.slice.specs.declared.Rule.{Rule}
use Rattle.slice.specs.declared.Rule.TheVariants.{Carry, Zero, Top, Over, Below}

-- ---- Places

-- a digit's vector ends within the book (whatever N is)
fits : ℕ → ℕ → ℕ → ℕ → Bool
fits set kind c i = leb (vector_at (record { scale = scale_of set; kind = kind; n = 0 }) c i + base (scale_of set) i) 1320

-- one test over all sets, kinds, coefficients and digits
pub vector_room : (a : Shape) (c i : ℕ) → a.set < 2 → a.kind < 2 → c < 8 → i < 5 → vector_at (params_of a) c i + base (scale_of a.set) i ≤ 1320
unfolding fits all_to vector_at stride sum_to
vector_room a c i hs hk hc hi =
    leb-true _ _
    (all_to-at 5 (fits a.set a.kind c) i
    (all_to-at 8 (λ (d : ℕ). all_to 5 (fits a.set a.kind d)) c
    (all_to-at 2 (λ (k : ℕ). all_to 8 (λ (d : ℕ). all_to 5 (fits a.set k d))) a.kind
    (all_to-at 2 (λ (s : ℕ). all_to 2 (λ (k : ℕ). all_to 8 (λ (d : ℕ). all_to 5 (fits s k d)))) a.set refl hs) hk) hc) hi)

-- ---- Digits

-- the limit of a rule
pub limit-range : (set i : ℕ) → set < 2 → i < 5 → (1 ≤ limit_of (scale_of set) i) × (limit_of (scale_of set) i ≤ 45)
unfolding limit_of
limit-range set i hs hi = go (dec_lt i 4)
  where
    parts : (set : ℕ) → set < 2 → (1 ≤ (scale_of set).parts) × ((scale_of set).parts ≤ 45)
    parts zero h = (omega arith, omega arith)
    parts (suc zero) h = (omega arith, omega arith)
    parts (suc (suc set)) h = absurd (omega arith)

    go : Dec (i < 4) → (1 ≤ cond (ltb i 4) (base (scale_of set) i) (scale_of set).parts) × (cond (ltb i 4) (base (scale_of set) i) (scale_of set).parts ≤ 45)
    go (yes p) = rw (lt-ltb i 4 p) (base-range set i hs hi)
    go (no p) = rw (le-ltb i 4 (omega arith)) (parts set hs)

-- ---- Which digits have a rule: of HIGH, Carry and Zero those below the top, Top and Over the top digit

has : Rule → Bool → ℕ → Bool
has Carry high i = ltb i 4
has Zero high i = ltb i 4
has Top high i = high && leb 4 i
has Over high i = leb 4 i
has Below high i = true

rule_has : (kind i k : ℕ) → has (rule_of kind i k) (eqb kind 0) i ≡ true
unfolding rule_of has
rule_has kind i k = go (eqb kind 0) (eqb k 0) (dec_lt i 4)
  where
    go : (high b : Bool) → Dec (i < 4) → has (cond high (cond (ltb i 4) (cond b Carry Zero) (cond b Top Over)) Below) high i ≡ true
    go true true (yes h) = rw (lt-ltb i 4 h) (lt-ltb i 4 h)
    go true false (yes h) = rw (lt-ltb i 4 h) (lt-ltb i 4 h)
    go true true (no h) = rw (le-ltb i 4 (omega arith)) (le-leb 4 i (omega arith))
    go true false (no h) = rw (le-ltb i 4 (omega arith)) (le-leb 4 i (omega arith))
    go false b h = refl

rule_is : (kind i k : ℕ) (rule : Rule) → rule_of kind i k ≡ rule → has rule (eqb kind 0) i ≡ true
rule_is kind i k rule e = ap (λ (x : Rule). has x (eqb kind 0) i) (sym e) ∙ rule_has kind i k

pub zero-low : (kind i k : ℕ) → rule_of kind i k ≡ Zero → i < 4
unfolding has
zero-low kind i k e = ltb-true i 4 (rule_is kind i k Zero e)

pub top-last : (kind i k : ℕ) → rule_of kind i k ≡ Top → (kind ≡ 0) × (4 ≤ i)
unfolding has
top-last kind i k e =
    let both = both_yes (eqb kind 0) (leb 4 i) (rule_is kind i k Top e) in
    (eqb-true kind 0 both.0, leb-true 4 i both.1)

-- a threshold is below q
pub threshold-below : (bound k y : ℕ) → threshold q bound k y < q
unfolding threshold
threshold-below bound k y = go (eqb k 0)
  where
    go : (b : Bool) → cond b ((2 * bound - 1 + (q - y % q)) % q) ((0 + (q - y % q)) % q) < q
    go true = omega arith
    go false = omega arith

-- ---- The zero check's index

pub group_k_most : (p : Params) → p.n ≤ 8 → group_k p ≤ 8
group_k_most p h = go (eqb p.kind 0)
  where
    go : (b : Bool) → cond b 5 p.n ≤ 8
    go true = omega arith
    go false = h

gap-least : (k : ℕ) → k ≤ 8 → 931157 ≤ gap q k
gap-least k h =
    let l : k + 1 ≤ 9 = omega arith in
    let m : 931157 * (k + 1) ≤ 931157 * 9 = mul-le-mul_left 931157 l in
    (le-div_iff_mul-le {k = k + 1} (omega arith)).1 (omega arith)

-- a number below q, divided by the gap
pub index_small : (x k : ℕ) → x < q → k ≤ 8 → x / gap q k ≤ 9
index_small x k h l =
    let g : 931157 ≤ gap q k = gap-least k l in
    let c = split x {b = gap q k} (omega arith) in
    let m : 10 * 931157 ≤ 10 * gap q k = mul-le-mul_left 10 g in
    go c (dec_lt 9 (x / gap q k))
  where
    go : Split x (gap q k) (x / gap q k) (x % gap q k) → Dec (9 < x / gap q k) → x / gap q k ≤ 9
    go c (yes p) =
        let m : 10 * 931157 ≤ 10 * gap q k = mul-le-mul_left 10 (gap-least k l) in
        let n : 10 * gap q k ≤ x / gap q k * gap q k = mul-le-mul_right (gap q k) p in
        omega arith
    go c (no p) = omega arith

-- ---- How many openings a round has

module _ (p : Params) (round : ℕ) where
  pub open_first : round ≡ 1 → openings p round ≡ p.n
  unfolding openings
  open_first h = rw (eq-eqb round 1 h)

  pub open_middle : round ≢ 1 → round ≤ 5 → openings p round ≡ 4 * p.n
  unfolding openings
  open_middle h k = rw (ne_eqb round 1 h, le-leb round 5 k)

  pub open_one : round ≢ 1 → 5 < round → p.kind ≢ 0 → openings p round ≡ 1
  unfolding openings
  open_one h k l = rw (ne_eqb round 1 h, lt-leb round 5 k, ne_eqb p.kind 0 l)

  pub open_late : round ≢ 1 → 5 < round → 1 ≤ p.n → openings p round ≤ p.n
  unfolding openings
  open_late h k l = rw (ne_eqb round 1 h, lt-leb round 5 k) (go (eqb p.kind 0))
    where
      go : (b : Bool) → cond b p.n 1 ≤ p.n
      go true = omega arith
      go false = l

  -- a coefficient's zero check is one of the openings
  pub check_in : (c : ℕ) → round ≢ 1 → 5 < round → c < p.n → group_of p.kind c < openings p round
  unfolding openings group_of
  check_in c h k l = rw (ne_eqb round 1 h, lt-leb round 5 k) (go (eqb p.kind 0))
    where
      go : (b : Bool) → cond b c 0 < cond b p.n 1
      go true = l
      go false = omega arith
