-- The closed form of the plain run, digit after digit: what a gate adds to the running registers. No column is looked at.
use mathlib.Core.Path.{◌≡◌, refl, sym, ap, ◌∙◌}
use mathlib.Core.Bool.{Bool, true, false, cond, ◌&&◌}
use Prim.Native.Nat.{ℕ, zero, suc, ◌+◌, ◌-◌, ◌*◌, ◌/◌, ◌%◌, ◌≤◌, ◌<◌}
use native.Mathlib.Omega.{arith}
use native.Mathlib.Decide.{dec_lt}
use native.Mathlib.Nat.{mod-eq_of_lt, mod-lt, mul-le-mul_left, add-zero, zero-add}
use lib.Dec.{eqb, leb, ltb}
use borrow.Author.Tests.{lt-ltb, le-ltb, le-leb, lt-leb}
use Rattle.lists.specs.Answers.{bit}
use Rattle.lists.proofs.Indicators.{bit_le, lt_zero}
use Rattle.field.specs.Field.{sub}
use Rattle.field.specs.Sums.{sum_to}
use Rattle.field.proofs.Differences.{choice_is}
use Rattle.settings.specs.Settings.{Params, Terms, params_with}
use Rattle.settings.specs.Sets.{Scale, base}
use Rattle.rounding.specs.Digits.{digit}
use Rattle.rounding.specs.Rounds.{top, over, unit, carry_into, zero_digit, top_sum, threshold}
use Rattle.settings.specs.Theorems.{Lawful}
use Rattle.rounding.proofs.Radix.{carry_le, carry-none, carry-next, zero_is, digit_below}
use Rattle.rounding.proofs.BoundResult.{compare-is}
use Rattle.slice.specs.Weights.{weigh, rule_of}
use Rattle.slice.specs.declared.Rule.TheVariants.{Carry, Zero, Top, Over, Below}
use Rattle.steps.specs.Steps.{looked_at, limit_of}
use Rattle.column.specs.Clear.{clear_running, clear_factor}

-- terms by their parts
abbrev pub terms_with : Scale → ℕ → ℕ → ℕ → Terms
terms_with scale kind n bound = record { params = params_with scale kind n; bound = bound }

abbrev pub terms_for : Params → ℕ → Terms
terms_for p bound = record { params = p; bound = bound }

-- ---- sizes

module _ (p : Scale) (ok : Lawful p) where
  pub parts_below : p.parts + 1 < p.modulus
  parts_below =
      let k = ok.even in
      let h : 2 ≤ p.alpha = omega (arith, ok) in
      omega (arith, ok, mul-le-mul_left p.parts h)

  pub five-below : 5 < p.modulus
  five-below = let k = parts_below in omega (arith, ok)

top-most : (s x : ℕ) → x ≤ s + s + 1 → top s x ≤ s + 1
unfolding top
top-most s x h = go (dec_lt x s)
  where
    go : Dec (x < s) → cond (ltb x s) x (x - s) ≤ s + 1
    go (yes l) = rw (lt-ltb x s l) (omega arith)
    go (no l) = rw (le-ltb x s (omega arith)) (omega arith)

pub looked_below : (p : Scale) (kind bound k y : ℕ) → y < p.modulus → looked_at p.modulus kind bound k y < p.modulus
unfolding looked_at threshold
looked_below p kind bound k y h = go (eqb kind 0) (eqb k 0)
  where
    go : (a b : Bool) → cond a y (cond b (sub p.modulus (2 * bound - 1) y) (sub p.modulus 0 y)) < p.modulus
    go true b = h
    go false true = mod-lt (2 * bound - 1 + (p.modulus - y % p.modulus)) (omega arith)
    go false false = mod-lt (0 + (p.modulus - y % p.modulus)) (omega arith)

module _ (p : Scale) (ok : Lawful p) where
  -- an indicator is below the modulus
  pub bit_below : (b : Bool) → bit b < p.modulus
  bit_below b = omega (arith, five-below p ok, bit_le b)

  -- a weight that is used is below the modulus: d and j are digits i of numbers below it
  pub weight-below : (kind i k d j : ℕ) → i < 5 → d ≤ base p i → j < base p i → weigh (rule_of kind i k) (limit_of p i) d j < p.modulus
  unfolding rule_of limit_of weigh
  weight-below kind i k d j h hd hj = go (eqb kind 0) (eqb k 0) (dec_lt i 4)
    where
      go : (a b : Bool) → Dec (i < 4) → weigh (cond a (cond (ltb i 4) (cond b Carry Zero) (cond b Top Over)) Below) (cond (ltb i 4) (base p i) p.parts) d j < p.modulus
      go false b l = bit_below _
      go true true (yes l) = rw (lt-ltb i 4 l) (bit_below _)
      go true false (yes l) = rw (lt-ltb i 4 l) (bit_below _)
      go true false (no l) = rw (le-ltb i 4 (omega arith)) (bit_below _)
      go true true (no l) =
          let e : i ≡ 4 = omega arith in
          let f : base p i ≡ p.parts + 1 = rw e ok.last in
          rw (le-ltb i 4 (omega arith)) (omega (arith, top-most p.parts (j + d) (omega arith), parts_below p ok))

-- ---- HIGH: a carry chooses between the sums without and with it

module _ (p : Scale) (ok : Lawful p) (n bound y r : ℕ) (hy : y < p.modulus) (hr : r < p.modulus) where
  -- the weight of digit i for gate k, where the public digit is x
  abbrev weighed : ℕ → ℕ → ℕ → ℕ
  weighed i k x = weigh (rule_of 0 i k) (limit_of p i) x (digit p r i)

  abbrev high : ℕ → ℕ → ℕ
  high i k = clear_running (terms_with p 0 n bound) y r i k

  -- what is already in register k when digit i is taken
  abbrev kept : ℕ → ℕ → ℕ
  kept i k = cond (eqb k 1) (high i 1) 0

  high-carry : (i : ℕ) → i ≤ 4 → high i 0 ≡ carry_into p y r i
  unfolding clear_running
  high-carry i h = rw (le-leb i 4 h)

  -- register k after digit i: the weight of the digit with its carry is added
  pub high-next : (i k : ℕ) → i < 5 → k < 2 → high (suc i) k ≡ kept i k + weighed i k (digit p y i + carry_into p y r i)
  unfolding clear_running rule_of limit_of weigh sum_to
  high-next i k h l = go k (dec_lt i 4) l
    where
      go : (k : ℕ) → Dec (i < 4) → k < 2 → high (suc i) k ≡ kept i k + weighed i k (digit p y i + carry_into p y r i)
      go zero (yes a) l = rw (le-leb (suc i) 4 a) (carry-next p ok y r i a ∙ sym (zero-add _))
      go (suc zero) (yes a) l =
          rw (le-leb (suc i) 4 a, le-leb i 4 (omega arith)) (ap (λ (x : ℕ). sum_to i (zero_digit p y r) + x) (zero_is p ok y r i a))
      go zero (no a) l = let e : i ≡ 4 = omega arith in rw e (sym (zero-add _))
      go (suc zero) (no a) l = let e : i ≡ 4 = omega arith in rw e refl
      go (suc (suc k)) a l = absurd (omega arith)

  kept-none : (k : ℕ) → k < 2 → kept 0 k ≡ 0
  unfolding clear_running sum_to
  kept-none zero l = refl
  kept-none (suc zero) l = refl
  kept-none (suc (suc k)) l = absurd (omega arith)

  zeros-most : (i : ℕ) → sum_to i (zero_digit p y r) ≤ i
  unfolding sum_to zero_digit
  zeros-most zero = omega arith
  zeros-most (suc i) = omega (arith, zeros-most i, bit_le (eqb ((y + r) / unit p i % base p i) 0))

  pub high_second : (i : ℕ) → high i 1 ≤ 5
  unfolding clear_running
  high_second i = go (dec_lt i 5)
    where
      go : Dec (i < 5) → cond (leb i 4) (sum_to i (zero_digit p y r)) (sum_to 4 (zero_digit p y r) + over p.parts (top_sum p y r)) ≤ 5
      go (yes a) = rw (le-leb i 4 (omega arith)) (omega (arith, zeros-most i))
      go (no a) = rw (lt-leb i 4 (omega arith)) (omega (arith, zeros-most 4, bit_le (ltb p.parts (top_sum p y r))))

  high_below : (i k : ℕ) → i < 5 → k < 2 → high (suc i) k < p.modulus
  high_below i zero h l =
      rw (high-next i 0 h l, zero-add (weighed i 0 (digit p y i + carry_into p y r i)))
      (weight-below p ok 0 i 0 _ _ h (omega (arith, digit_below p ok y i hy h, carry_le p ok y r i (omega arith))) (digit_below p ok r i hr h))
  high_below i (suc zero) h l = omega (arith, high_second (suc i), five-below p ok)
  high_below i (suc (suc k)) h l = absurd (omega arith)

  -- a gate: register k, and the carry times the difference of the sums with and without it
  high_gate : (i k : ℕ) → i < 5 → k < 2
      → ((kept i k + weighed i k (digit p y i)) % p.modulus + high i 0 * sub p.modulus (weighed i k (digit p y i + 1)) (weighed i k (digit p y i))) % p.modulus ≡ high (suc i) k
  high_gate i k h l =
      let pos : 0 < p.modulus = omega arith in
      rw (high-carry i (omega arith))
      (choice_is p.modulus (kept i k) (carry_into p y r i) (digit p y i) (weighed i k) pos (carry_le p ok y r i (omega arith))
      ∙ ap (λ (x : ℕ). x % p.modulus) (sym (high-next i k h l)) ∙ mod-eq_of_lt (high_below i k h l))

  -- ---- BOUND: one digit more is compared

  abbrev below : ℕ → ℕ → ℕ
  below i k = clear_running (terms_with p 1 n bound) y r i k

  abbrev limit : ℕ → ℕ
  limit k = threshold p.modulus bound k y

  bound-next : (i k : ℕ) → i < 5 → below (suc i) k ≡ bit (ltb (digit p r i) (digit p (limit k) i)) + bit (eqb (digit p r i) (digit p (limit k) i)) * below i k
  unfolding clear_running
  bound-next i k h = compare-is p ok r (limit k) i hr (unfold looked_at in looked_below p 1 bound k y hy) h

  bound-below : (i k : ℕ) → below i k ≤ 1
  unfolding clear_running
  bound-below i k = bit_le (ltb (r % unit p i) (limit k % unit p i))

  bound-none : (k : ℕ) → below 0 k ≡ 0
  unfolding clear_running unit
  bound-none k = lt_zero {a = r % 1} {b = limit k % 1} (omega arith)

-- ---- both kinds

module _ (p : Scale) (n bound y r kind i k : ℕ) where
  -- the weight of digit i for gate k, "without carry"
  abbrev pub plain_weight : ℕ
  plain_weight = weigh (rule_of kind i k) (limit_of p i) (digit p (looked_at p.modulus kind bound k y) i) (digit p r i)

  -- the addend of that gate
  abbrev pub clear_addend : ℕ
  clear_addend = cond (eqb kind 0 && eqb k 1) ((clear_running (terms_with p kind n bound) y r i 1 + plain_weight) % p.modulus) plain_weight

module _ {p : Scale} (ok : Lawful p) (n bound y r : ℕ) (hy : y < p.modulus) (hr : r < p.modulus) where
  -- round 1
  pub first_clear : (kind k : ℕ) → kind < 2 → k < 2 → plain_weight p n bound y r kind 0 k ≡ clear_running (terms_with p kind n bound) y r 1 k
  unfolding looked_at rule_of weigh
  first_clear zero k h l =
      sym (high-next p ok n bound y r hy hr 0 k (omega arith) l ∙ rw (kept-none p ok n bound y r hy hr k l, carry-none p ok y r, add-zero (digit p y 0)) (zero-add _))
  first_clear (suc zero) k h l =
      sym (bound-next p ok n bound y r hy hr 0 k (omega arith) ∙ rw (bound-none p ok n bound y r hy hr k) (omega arith))
  first_clear (suc (suc kind)) k h l = absurd (omega arith)

  -- rounds 2 to 5
  pub gate_clear : (kind i k : ℕ) → kind < 2 → i < 5 → k < 2
      → (clear_addend p n bound y r kind i k + clear_factor (terms_with p kind n bound) y r i k 0 * clear_factor (terms_with p kind n bound) y r i k 1) % p.modulus
      ≡ clear_running (terms_with p kind n bound) y r (suc i) k
  unfolding looked_at clear_factor rule_of weigh
  gate_clear zero i zero h a l =
      let x : ℕ = plain_weight p n bound y r 0 i 0 in
      let b : x < p.modulus = weight-below p ok 0 i 0 (digit p y i) (digit p r i) a (omega (arith, digit_below p ok y i hy a)) (digit_below p ok r i hr a) in
      let e : (0 + x) % p.modulus ≡ x = ap (λ (z : ℕ). z % p.modulus) (zero-add x) ∙ mod-eq_of_lt b in
      ap (λ (z : ℕ). (z + clear_factor (terms_with p 0 n bound) y r i 0 0 * clear_factor (terms_with p 0 n bound) y r i 0 1) % p.modulus) (sym e) ∙ high_gate p ok n bound y r hy hr i 0 a l
  gate_clear zero i (suc zero) h a l = high_gate p ok n bound y r hy hr i 1 a l
  gate_clear zero i (suc (suc k)) h a l = absurd (omega arith)
  gate_clear (suc zero) i k h a l =
      ap (λ (x : ℕ). x % p.modulus) (sym (bound-next p ok n bound y r hy hr i k a))
      ∙ mod-eq_of_lt (omega (arith, bound-below p ok n bound y r hy hr (suc i) k, five-below p ok))
  gate_clear (suc (suc kind)) i k h a l = absurd (omega arith)
