-- Sums that go through the entries of weight 1 alone, and sums by a list of weights.
use mathlib.Core.Path.{◌≡◌, refl, ap, ap₂, ◌∙◌}
use mathlib.Core.Bool.{cond}
use mathlib.Core.List.{List}
use mathlib.Core.Logic.{◌⊎◌, inl, inr, ◌≢◌}
use Prim.Native.Nat.{ℕ, suc, ◌+◌, ◌*◌, ◌-◌, ◌%◌, ◌≤◌, ◌<◌, min}
use native.Mathlib.Omega.{arith}
use native.Mathlib.Decide.{dec_lt, dec_le}
use lib.Dec.{leb, ltb}
use lib.ListN.{length, get_or}
use Rattle.std.specs.Prelude.{Option, None, Some, MatchOption, SomeIff}
use borrow.Author.Tests.{lt-ltb, le-ltb, le-leb, lt-leb, ne_eqb}
use Rattle.lists.specs.Answers.{bit}
use Rattle.lists.specs.Lists.{list_to}
use Rattle.lists.proofs.Lists.{length-list_from, get_d_list_to, list_to_cong}
use Rattle.field.specs.Field.{q, sub}
use Rattle.field.specs.Sums.{sum_to}
use Rattle.field.proofs.Division.{mod_elim}
use Rattle.field.proofs.Sums.{sum_cong, sum_one, sum_from, sum_below, sum_raised, sum_risen}
use Rattle.field.proofs.Differences.{difference_of}
use Rattle.settings.specs.Sets.{top_digits}
use Rattle.settings.proofs.Sets.{top-length, top_entry, top_le}
use Rattle.rounding.specs.Rounds.{top}
use Rattle.slice.specs.Weights.{weigh, top_rises}
use Rattle.slice.specs.declared.Rule.{Rule}
use Rattle.slice.specs.declared.Rule.TheVariants.{Carry, Zero, Over, Below}

-- ---- the loop

pub part_none : (a : ℕ) (f : ℕ → ℕ) → 0 ≡ sum_to (a - a) f
unfolding sum_to
part_none a f = let e : a - a ≡ 0 = omega arith in rw e refl

pub part-next : (from j total x : ℕ) (f : ℕ → ℕ) → from ≤ j → total ≡ sum_to (j - from) (λ i. f (from + i)) → x ≡ f j → total + x ≡ sum_to (j + 1 - from) (λ i. f (from + i))
unfolding sum_to
part-next from j total x f h e p =
    let next : j + 1 - from ≡ suc (j - from) = omega arith in
    let here : from + (j - from) ≡ j = omega arith in
    rw (next, here, e, p) refl

pub part-done : (from to j total : ℕ) (f : ℕ → ℕ) → from ≤ j → j - from ≤ to - from → to ≤ j → total ≡ sum_to (j - from) f → total % q ≡ sum_to (to - from) f % q
part-done from to j total f a b c e =
    let same : j - from ≡ to - from = omega arith in
    rw (e, same) refl

-- ---- the rules

module _ (n b d : ℕ) (r : ℕ → ℕ) where
  pub carry-sum : sum_to n (λ j. weigh Carry b d j * r j) ≡ sum_to (n - (b - d)) (λ j. r (b - d + j))
  unfolding weigh bit
  carry-sum = sum_from n (b - d) (λ j. weigh Carry b d j) r (λ j h. rw (lt-leb b (j + d) (omega arith)) refl) (λ j h. rw (le-leb b (j + d) (omega arith)) refl)

  pub over-sum : sum_to n (λ j. weigh Over b d j * r j) ≡ sum_to (n - (b + 1 - d)) (λ j. r (b + 1 - d + j))
  unfolding weigh bit
  over-sum = sum_from n (b + 1 - d) (λ j. weigh Over b d j) r (λ j h. rw (le-ltb b (j + d) (omega arith)) refl) (λ j h. rw (lt-ltb b (j + d) (omega arith)) refl)

  pub below-sum : sum_to n (λ j. weigh Below b d j * r j) ≡ sum_to (min d n - 0) (λ j. r (0 + j))
  unfolding weigh bit
  below-sum = sum_below n d (λ j. weigh Below b d j) r (λ j h. rw (lt-ltb j d h) refl) (λ j h. rw (le-ltb j d h) refl)

-- the one entry of weight 1
module _ (b d z : ℕ) (small : d ≤ b) (inside : z < b) where
  hit : (z + d ≡ 0) ⊎ (z + d ≡ b) → (z + d) % b ≡ 0
  hit (inl e) = mod_elim (z + d) b (λ (w : ℕ). w ≡ 0) (omega arith) ((λ l. e), (λ w l p. omega arith))
  hit (inr e) = mod_elim (z + d) b (λ (w : ℕ). w ≡ 0) (omega arith) ((λ l. omega arith), (λ w l p. omega arith))

  missed : (z + d ≡ 0) ⊎ (z + d ≡ b) → (j : ℕ) → j < b → j ≢ z → (j + d) % b ≡ 0 → ⊥
  missed (inl e) j l ne = mod_elim (j + d) b (λ (w : ℕ). w ≡ 0 → ⊥) (omega arith) ((λ h p. ne (omega arith)), (λ w h s p. omega arith))
  missed (inr e) j l ne = mod_elim (j + d) b (λ (w : ℕ). w ≡ 0 → ⊥) (omega arith) ((λ h p. omega arith), (λ w h s p. ne (omega arith)))

  pub zero-sum : (r : ℕ → ℕ) → (z + d ≡ 0) ⊎ (z + d ≡ b) → sum_to b (λ j. weigh Zero b d j * r j) ≡ r z
  unfolding weigh bit
  zero-sum r e =
      sum_one b z (λ j. weigh Zero b d j * r j) inside (λ j l ne. rw (ne_eqb ((j + d) % b) 0 (missed e j l ne)) (omega arith))
      ∙ rw (hit e) (omega arith)

-- ---- a digit one higher

-- the entry x with x + d = b, if there is one
pub entry_back : (b d n x : ℕ) (r : ℕ → ℕ) (o : Option ℕ) → SomeIff o (d ≤ b) (b - d) → MatchOption o (x ≡ 0) (λ at. x ≡ cond (ltb at n) (r at) 0 % q)
    → (at : ℕ) → at ≡ cond (leb d b) (b - d) n → x ≡ cond (ltb at n) (r at) 0 % q
entry_back b d n x r o back is at e = go o (dec_le d b) back is
  where
    go : (o : Option ℕ) → Dec (d ≤ b) → SomeIff o (d ≤ b) (b - d) → MatchOption o (x ≡ 0) (λ y. x ≡ cond (ltb y n) (r y) 0 % q) → x ≡ cond (ltb at n) (r at) 0 % q
    go None (yes h) back is = absurd (back h)
    go None (no h) back is = rw (e, lt-leb d b (omega arith), le-ltb n n (omega arith)) is
    go (Some y) (yes h) back is = rw (e, le-leb d b h) (rw back.1 at is)
    go (Some y) (no h) back is = absurd (h back.0)

module _ (n b d : ℕ) (r : ℕ → ℕ) where
  abbrev total : Rule → ℕ → ℕ
  total rule x = sum_to n (λ j. weigh rule b x j * r j)

  by_one : (rule : Rule) (at : ℕ) → ((j : ℕ) → j < n → j ≢ at → weigh rule b (d + 1) j ≡ weigh rule b d j) → (at < n → weigh rule b (d + 1) at ≡ weigh rule b d at + 1)
      → cond (ltb at n) (r at) 0 % q ≡ sub q (total rule (d + 1) % q) (total rule d % q)
  by_one rule at same more =
      difference_of (total rule d) (cond (ltb at n) (r at) 0)
      ∙ rw (sum_raised n at (weigh rule b d) (weigh rule b (d + 1)) r same more) refl

  pub carry_raised : (at : ℕ) → at ≡ cond (leb (d + 1) b) (b - (d + 1)) n → cond (ltb at n) (r at) 0 % q ≡ sub q (total Carry (d + 1) % q) (total Carry d % q)
  unfolding weigh bit
  carry_raised at e = by_one Carry at same more
    where
      equal : (j : ℕ) → j + (d + 1) ≢ b → Dec (b ≤ j + d) → bit (leb b (j + (d + 1))) ≡ bit (leb b (j + d))
      equal j ne (yes h) = rw (le-leb b (j + d) h, le-leb b (j + (d + 1)) (omega arith)) refl
      equal j ne (no h) = rw (lt-leb b (j + d) (omega arith), lt-leb b (j + (d + 1)) (omega (arith, ne))) refl

      other : Dec (d + 1 ≤ b) → (j : ℕ) → j ≢ at → j + (d + 1) ≢ b
      other (yes h) j ne p = ne (omega (arith, rw (le-leb (d + 1) b h) at e))
      other (no h) j ne p = omega arith

      same : (j : ℕ) → j < n → j ≢ at → weigh Carry b (d + 1) j ≡ weigh Carry b d j
      same j l ne = equal j (other (dec_le (d + 1) b) j ne) (dec_le b (j + d))

      here : Dec (d + 1 ≤ b) → at < n → at + (d + 1) ≡ b
      here (yes h) l = omega (arith, rw (le-leb (d + 1) b h) at e)
      here (no h) l = omega (arith, rw (lt-leb (d + 1) b (omega arith)) at e)

      more : at < n → weigh Carry b (d + 1) at ≡ weigh Carry b d at + 1
      more l =
          let p = here (dec_le (d + 1) b) l in
          rw (le-leb b (at + (d + 1)) (omega arith), lt-leb b (at + d) (omega arith)) refl

  pub over_raised : (at : ℕ) → at ≡ cond (leb d b) (b - d) n → cond (ltb at n) (r at) 0 % q ≡ sub q (total Over (d + 1) % q) (total Over d % q)
  unfolding weigh bit
  over_raised at e = by_one Over at same more
    where
      equal : (j : ℕ) → j + d ≢ b → Dec (b < j + d) → bit (ltb b (j + (d + 1))) ≡ bit (ltb b (j + d))
      equal j ne (yes h) = rw (lt-ltb b (j + d) h, lt-ltb b (j + (d + 1)) (omega arith)) refl
      equal j ne (no h) = rw (le-ltb b (j + d) (omega arith), le-ltb b (j + (d + 1)) (omega (arith, ne))) refl

      other : Dec (d ≤ b) → (j : ℕ) → j ≢ at → j + d ≢ b
      other (yes h) j ne p = ne (omega (arith, rw (le-leb d b h) at e))
      other (no h) j ne p = omega arith

      same : (j : ℕ) → j < n → j ≢ at → weigh Over b (d + 1) j ≡ weigh Over b d j
      same j l ne = equal j (other (dec_le d b) j ne) (dec_lt b (j + d))

      here : Dec (d ≤ b) → at < n → at + d ≡ b
      here (yes h) l = omega (arith, rw (le-leb d b h) at e)
      here (no h) l = omega (arith, rw (lt-leb d b (omega arith)) at e)

      more : at < n → weigh Over b (d + 1) at ≡ weigh Over b d at + 1
      more l =
          let p = here (dec_le d b) l in
          rw (lt-ltb b (at + (d + 1)) (omega arith), le-ltb b (at + d) (omega arith)) refl

  pub below_raised : cond (ltb d n) (r d) 0 % q ≡ sub q (total Below (d + 1) % q) (total Below d % q)
  unfolding weigh bit
  below_raised = by_one Below d same (λ l. rw (lt-ltb d (d + 1) (omega arith), le-ltb d d (omega arith)) refl)
    where
      equal : (j : ℕ) → j ≢ d → Dec (j < d) → bit (ltb j (d + 1)) ≡ bit (ltb j d)
      equal j ne (yes h) = rw (lt-ltb j d h, lt-ltb j (d + 1) (omega arith)) refl
      equal j ne (no h) = rw (le-ltb j d (omega arith), le-ltb j (d + 1) (omega (arith, ne))) refl

      same : (j : ℕ) → j < n → j ≢ d → weigh Below b (d + 1) j ≡ weigh Below b d j
      same j l ne = equal j ne (dec_lt j d)

-- ---- weights from a list: t(d) for F, its growth for F' − F

module _ (n s d : ℕ) (r : ℕ → ℕ) (list : List ℕ) (room : n ≤ s + 1) (most : d ≤ s) where
  pub top_listed : list ≡ top_digits s → sum_to n (λ x. get_or list (x + d) 0 * r x) ≡ sum_to n (λ x. top s (x + d) * r x)
  top_listed e = sum_cong n _ _ (λ x l. ap (λ (t : ℕ). t * r x) (top_entry list s (x + d) e (omega arith)))

  risen : list ≡ top_rises s → sum_to n (λ x. get_or list (x + d) 0 * r x) ≡ sum_to n (λ x. (top s (x + (d + 1)) + q - top s (x + d)) * r x)
  unfolding top_rises
  risen e =
      sum_cong n _ _
      (λ x l.
      let same : x + d + 1 ≡ x + (d + 1) = omega arith in
      ap (λ (t : ℕ). t * r x)
      (rw e (get_d_list_to (2 * s + 1) (λ (k : ℕ). top s (k + 1) + q - top s k) (x + d) 0 (omega arith)) ∙ ap (λ (k : ℕ). top s k + q - top s (x + d)) same))

  pub top_raised : s ≤ 45 → list ≡ top_rises s
      → sum_to n (λ x. get_or list (x + d) 0 * r x) % q ≡ sub q (sum_to n (λ x. top s (x + (d + 1)) * r x) % q) (sum_to n (λ x. top s (x + d) * r x) % q)
  top_raised small e =
      ap (λ (x : ℕ). x % q) (risen e)
      ∙ difference_of low _
      ∙ ap (λ (x : ℕ). sub q x (low % q))
      (ap (λ (x : ℕ). x % q) (sum_risen n q (λ j. top s (j + d)) (λ j. top s (j + (d + 1))) r (λ j l. omega (arith, top_le s (j + d)))) ∙ omega arith)
    where
      low : ℕ
      low = sum_to n (λ j. top s (j + d) * r j)

-- how long the lists are, and that no entry is large
pub rises_length : (s : ℕ) → length (top_rises s) ≡ 2 * s + 1
unfolding top_rises
rises_length s = length-list_from 0 (2 * s + 1) (λ (d : ℕ). top s (d + 1) + q - top s d)

pub tops_small : (s : ℕ) (list : List ℕ) → s ≤ 45 → list ≡ top_digits s → (i : ℕ) → i < length list → get_or list i 0 ≤ q
tops_small s list small e i h =
    let l = ap length e ∙ top-length s in
    omega (arith, top_entry list s i e (omega arith), top_le s i, l)

pub rises_small : (s : ℕ) (list : List ℕ) → s ≤ 45 → list ≡ top_rises s → (i : ℕ) → i < length list → get_or list i 0 < 16777216
unfolding top_rises
rises_small s list small e i h =
    let l = ap length e ∙ rises_length s in
    let t : get_or list i 0 ≡ top s (i + 1) + q - top s i = rw e (get_d_list_to (2 * s + 1) (λ (d : ℕ). top s (d + 1) + q - top s d) i 0 (omega arith)) in
    rw t (omega (arith, top_le s (i + 1), l))

-- the growth of a list of t(d)
pub rises_are : (s n : ℕ) (list : List ℕ) → n ≡ 2 * s + 1 → list ≡ top_digits s → list_to n (λ (d : ℕ). get_or list (d + 1) 0 + q - get_or list d 0) ≡ top_rises s
unfolding top_rises
rises_are s n list long e =
    rw long
    (list_to_cong (2 * s + 1) _ _ (λ d h. ap₂ (λ (x y : ℕ). x + q - y) (top_entry list s (d + 1) e (omega arith)) (top_entry list s d e (omega arith))))
