-- What the forms of rounds 1 to 5 are worth on a plain column that holds the book: one law for all gates.
use mathlib.Core.Path.{◌≡◌, ap, ◌∙◌}
use mathlib.Core.Bool.{Bool, true, false, cond, ◌&&◌}
use mathlib.Core.List.{List}
use Prim.Native.Nat.{ℕ, zero, suc, ◌+◌, ◌-◌, ◌*◌, ◌/◌, ◌%◌, ◌≤◌, ◌<◌}
use native.Mathlib.Omega.{arith}
use native.Mathlib.Nat.{add-zero, one-mul, add-mod-mod, mod-add-mod}
use lib.Dec.{eqb}
use Rattle.lists.specs.Answers.{bit}
use Rattle.lists.proofs.Indicators.{eq_swap}
use Rattle.field.specs.Field.{sub}
use Rattle.field.specs.Forms.{Registers, reg, ◌⊞◌, ◌⊟◌, value}
use Rattle.field.proofs.Forms.{unit-sum}
use Rattle.field.proofs.Differences.{product_of_opened}
use Rattle.settings.specs.Settings.{Params}
use Rattle.settings.specs.Sets.{base}
use Rattle.rounding.specs.Digits.{digit}
use Rattle.settings.specs.Theorems.{Lawful}
use Rattle.rounding.proofs.Radix.{digit_below}
use Rattle.book.specs.Book.{group_k, group_gap, mask_at, vector_at, triple_at, group_at, drawn, book_value}
use Rattle.settings.specs.Sizes.{shared, groups}
use Rattle.book.proofs.Places.{places}
use Rattle.book.proofs.Books.{values}
use Rattle.slice.specs.Layout.{input_at, running_at}
use Rattle.slice.specs.Weights.{weigh, rule_of}
use Rattle.steps.specs.Steps.{Public, public_of, looked_at, limit_of, vector_sum, addend, factor_u, factor_v, shift_of, open_input, open_factor, gate_result}
use Rattle.column.specs.Clear.{clear_running, clear_factor}
use Rattle.column.proofs.Clear.{terms_for, looked_below, weight-below, plain_weight, clear_addend, gate_clear}

-- ---- what a plain column holds of the book; d k is the number drawn for place k

pub record Held (p : Params) (v : Registers) (d : ℕ → ℕ) : Type 0 where
  pub mask : (c : ℕ) → c < p.n → v (mask_at p c) ≡ d (mask_at p c)
  pub vector : (c i j : ℕ) → c < p.n → i < 5 → j < base p.scale i → v (vector_at p c i + j) ≡ bit (eqb j (digit p.scale (d (mask_at p c)) i))
  pub factor : (c t part : ℕ) → c < p.n → t < 8 → part < 2 → v (triple_at p c t + part) ≡ d (triple_at p c t + part)
  pub product : (c t : ℕ) → c < p.n → t < 8 → v (triple_at p c t + 2) ≡ v (triple_at p c t + 0) * v (triple_at p c t + 1) % p.scale.modulus
  pub group : (g : ℕ) → g < groups p → v (group_at p g) ≡ d (group_at p g)
  pub marks : (g j : ℕ) → g < groups p → j < group_k p + 2 → v (group_at p g + 1 + j) ≡ bit (eqb j (d (group_at p g) / group_gap p))

-- so does every column with the book's values in front
pub held : (p : Params) (width : ℕ) (draw : List ℕ) (v : Registers) → ((k : ℕ) → k < shared p → v k ≡ book_value p width draw k)
    → Held p v (drawn p width draw)
held p width draw v same =
    let at = places p in
    let is = values p width draw in
    record {
      mask = λ c h. same _ (at.of_mask c h).0 ∙ is.of_mask c h;
      vector = λ c i j h k l. same _ (at.of_vector c i j h k l).0 ∙ is.of_vector c i j h k l ∙ rw (is.of_mask c h);
      factor = two;
      product = λ c t h k. let z : triple_at p c t + 0 ≡ triple_at p c t = add-zero _ in
          same _ (at.of_product c t h k).0 ∙ is.of_product c t h k ∙ rw (z, same _ (at.of_left c t h k).0, same _ (at.of_right c t h k).0);
      group = λ g h. same _ (at.of_group g h).0 ∙ is.of_group g h;
      marks = λ g j h k. same _ (at.of_group_place g j h k).0 ∙ is.of_group_place g j h k ∙ rw (is.of_group g h);
    }
  where
    two : (c t part : ℕ) → c < p.n → t < 8 → part < 2 → v (triple_at p c t + part) ≡ drawn p width draw (triple_at p c t + part)
    two c t zero h k l = rw (add-zero (triple_at p c t)) (same _ ((places p).of_left c t h k).0 ∙ (values p width draw).of_left c t h k)
    two c t (suc zero) h k l = same _ ((places p).of_right c t h k).0 ∙ (values p width draw).of_right c t h k
    two c t (suc (suc part)) h k l = absurd (omega arith)

-- ---- a sum against a vector, and a gate whose factors were opened

-- round 1 opens the input, shifted and masked
pub input_is : {p : Params} (bound : ℕ) (masked : ℕ → ℕ) {v : Registers} {d : ℕ → ℕ} → Held p v d → (c : ℕ) → c < p.n
    → value p.scale.modulus 1 v (open_input (public_of (terms_for p bound) masked) c) ≡ sub p.scale.modulus (v (input_at c) + shift_of (terms_for p bound)) (d (mask_at p c))
unfolding open_input
input_is bound masked book c here = rw (book.mask c here, one-mul, add-mod-mod, mod-add-mod)

-- ---- one coefficient, on a column that holds the book and the running registers before digit i

module _ {p : Params} (ok : Lawful p.scale) (bound : ℕ) (masked : ℕ → ℕ) {v : Registers} {d : ℕ → ℕ} (book : Held p v d)
    (c : ℕ) (here : c < p.n) (hy : masked c < p.scale.modulus) (hr : d (mask_at p c) < p.scale.modulus) where
  abbrev w : Public
  w = public_of (terms_for p bound) masked

  abbrev y : ℕ
  y = masked c

  abbrev r : ℕ
  r = d (mask_at p c)

  -- the public digit, and it is below its base
  abbrev seen : ℕ → ℕ → ℕ
  seen i k = digit p.scale (looked_at p.scale.modulus p.kind bound k y) i

  seen_below : (i k : ℕ) → i < 5 → seen i k < base p.scale i
  seen_below i k h = digit_below p.scale ok (looked_at p.scale.modulus p.kind bound k y) i (looked_below p.scale p.kind bound k y hy) h

  pub sum-weight : (i k up : ℕ) → i < 5 → up ≤ 1 → value p.scale.modulus 1 v (vector_sum w c i k up) ≡ weigh (rule_of p.kind i k) (limit_of p.scale i) (seen i k + up) (digit p.scale r i)
  unfolding vector_sum
  sum-weight i k up h l =
      unit-sum p.scale.modulus v (base p.scale i) (vector_at p c i) (digit p.scale r i)
      (weigh (rule_of p.kind i k) (limit_of p.scale i) (seen i k + up)) (digit_below p.scale ok r i hr h)
      (λ j b. book.vector c i j here h b)
      (weight-below p.scale ok p.kind i k (seen i k + up) (digit p.scale r i) h (omega (arith, seen_below i k h)) (digit_below p.scale ok r i hr h))

  pub sum_plain : (i k : ℕ) → i < 5 → value p.scale.modulus 1 v (vector_sum w c i k 0) ≡ plain_weight p.scale p.n bound y r p.kind i k
  sum_plain i k h = sum-weight i k 0 h (omega arith) ∙ ap (λ (x : ℕ). weigh (rule_of p.kind i k) (limit_of p.scale i) x (digit p.scale r i)) (add-zero (seen i k))

  module _ (i : ℕ) (some : 1 ≤ i) (most : i < 5) (before : (k : ℕ) → k < 2 → v (running_at k c) ≡ clear_running (terms_for p bound) y r i k) where
    u_is : (k : ℕ) → value p.scale.modulus 1 v (factor_u w c i k) ≡ clear_factor (terms_for p bound) y r i k 0
    unfolding factor_u clear_factor
    u_is k = go (eqb p.kind 0)
      where
        go : (b : Bool) → value p.scale.modulus 1 v (cond b (reg (running_at 0 c)) (reg (vector_at p c i + seen i k)))
            ≡ cond b (clear_running (terms_for p bound) y r i 0) (bit (eqb (digit p.scale r i) (seen i k)))
        go true = before 0 (omega arith)
        go false = book.vector c i (seen i k) here most (seen_below i k most) ∙ eq_swap (seen i k) (digit p.scale r i)

    v-is : (k : ℕ) → k < 2 → value p.scale.modulus 1 v (factor_v w c i k) ≡ clear_factor (terms_for p bound) y r i k 1
    unfolding factor_v clear_factor
    v-is k l = go (eqb p.kind 0)
      where
        go : (b : Bool) → value p.scale.modulus 1 v (cond b (vector_sum w c i k 1 ⊟ vector_sum w c i k 0) (reg (running_at k c)))
            ≡ cond b (sub p.scale.modulus (weigh (rule_of p.kind i k) (limit_of p.scale i) (seen i k + 1) (digit p.scale r i))
            (plain_weight p.scale p.n bound y r p.kind i k)) (clear_running (terms_for p bound) y r i k)
        go true = rw (sum-weight i k 1 most (omega arith), sum_plain i k most)
        go false = before k l

    addend-is : (k : ℕ) → value p.scale.modulus 1 v (addend w c i k) ≡ clear_addend p.scale p.n bound y r p.kind i k
    unfolding addend
    addend-is k = go (eqb p.kind 0 && eqb k 1)
      where
        go : (b : Bool) → value p.scale.modulus 1 v (cond b (reg (running_at 1 c) ⊞ vector_sum w c i k 0) (vector_sum w c i k 0))
            ≡ cond b ((clear_running (terms_for p bound) y r i 1 + plain_weight p.scale p.n bound y r p.kind i k) % p.scale.modulus) (plain_weight p.scale p.n bound y r p.kind i k)
        go true = rw (before 1 (omega arith), sum_plain i k most)
        go false = sum_plain i k most

    -- what is opened: a factor less the triple's number
    pub factor-is : (k part : ℕ) → k < 2 → part < 2
        → value p.scale.modulus 1 v (open_factor w c i k part) ≡ sub p.scale.modulus (clear_factor (terms_for p bound) y r i k part) (d (triple_at p c (2 * (i - 1) + k) + part))
    unfolding open_factor
    factor-is k zero l m = rw (u_is k, book.factor c (2 * (i - 1) + k) 0 here (omega arith) m)
    factor-is k (suc zero) l m = rw (v-is k l, book.factor c (2 * (i - 1) + k) 1 here (omega arith) m)
    factor-is k (suc (suc part)) l m = absurd (omega arith)

    -- a gate with its opened factors gives the running register after digit i
    pub gate_next : (kinds : p.kind < 2) (k : ℕ) → k < 2
        → value p.scale.modulus 1 v (gate_result w c i k (value p.scale.modulus 1 v (open_factor w c i k 0)) (value p.scale.modulus 1 v (open_factor w c i k 1)))
        ≡ clear_running (terms_for p bound) y r (suc i) k
    unfolding gate_result open_factor
    gate_next kinds k l =
        let t : ℕ = triple_at p c (2 * (i - 1) + k) in
        product_of_opened p.scale.modulus (value p.scale.modulus 1 v (addend w c i k)) (value p.scale.modulus 1 v (factor_u w c i k)) (value p.scale.modulus 1 v (factor_v w c i k))
        (v (t + 0)) (v (t + 1)) (v (t + 2)) (omega arith) (book.product c (2 * (i - 1) + k) here (omega arith))
        ∙ (rw (addend-is k, u_is k, v-is k l) (gate_clear ok p.n bound y r hy hr p.kind i k kinds most l))
