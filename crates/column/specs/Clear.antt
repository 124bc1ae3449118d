-- The plain run in closed form: each running register and each opened number, from the coefficients and the drawn numbers.
-- y is the number that round 1 opens for a coefficient, r its mask.
use Rattle.std.specs.Prelude.{ℕ, ◌+◌, ◌*◌, ◌-◌, ◌/◌, ◌%◌, cond, List, eqb, leb, get_or}
use Rattle.lists.specs.Answers.{bit}
use Rattle.field.specs.Field.{add, sub}
use Rattle.field.specs.Sums.{sum_to}
use Rattle.settings.specs.Sets.{Scale}
use Rattle.settings.specs.Settings.{Terms}
use Rattle.rounding.specs.Digits.{digit}
use Rattle.rounding.specs.Rounds.{carry_into, zero_digit, top_sum, top, over, nonzero_count, threshold, below_up_to, inside_result}
use Rattle.book.specs.Book.{group_gap, mask_at, triple_at, group_at, drawn}
use Rattle.slice.specs.Weights.{weigh, rule_of}
use Rattle.steps.specs.Steps.{looked_at, limit_of, shift_of}

module _ (T : Terms) where
  abbrev scale : Scale
  scale = T.params.scale

  abbrev kind : ℕ
  kind = T.params.kind

  -- the running register of a gate after so many rounds, 1 to 5.
  -- HIGH: the carry, at last F; the zeros so far, at last with G. BOUND: are the lowest digits of r below those of the threshold?
  unfoldable pub clear_running : ℕ → ℕ → ℕ → ℕ → ℕ
  clear_running y r rounds which =
      cond (eqb kind 0)
      (cond (eqb which 0)
      (cond (leb rounds 4) (carry_into scale y r rounds) (top scale.parts (top_sum scale y r)))
      (cond (leb rounds 4) (sum_to rounds (zero_digit scale y r)) (sum_to 4 (zero_digit scale y r) + over scale.parts (top_sum scale y r))))
      (below_up_to scale r (threshold scale.modulus T.bound which y) rounds)

  -- u (part 0) and v (part 1) of a gate of digit i, 1 to 4
  unfoldable pub clear_factor : ℕ → ℕ → ℕ → ℕ → ℕ → ℕ
  clear_factor y r i which part =
      let x = digit scale r i in
      let d = digit scale (looked_at scale.modulus kind T.bound which y) i in
      cond (eqb kind 0)
      (cond (eqb part 0)
      (clear_running y r i 0)
      (sub scale.modulus (weigh (rule_of kind i which) (limit_of scale i) (d + 1) x) (weigh (rule_of kind i which) (limit_of scale i) d x)))
      (cond (eqb part 0)
      (bit (eqb x d))
      (clear_running y r i which))

  -- the n of zero check g, from all the y and r
  unfoldable pub clear_checked : (ℕ → ℕ) → (ℕ → ℕ) → ℕ → ℕ
  clear_checked ys rs g =
      cond (eqb kind 0) (nonzero_count scale (ys g) (rs g)) (T.params.n - sum_to T.params.n (λ (j : ℕ). inside_result scale T.bound (ys j) (rs j)))

module _ (T : Terms) (width : ℕ) (draw secret : List ℕ) where
  -- r and y of coefficient j
  unfoldable pub mask_of : ℕ → ℕ
  mask_of j = drawn T.params width draw (mask_at T.params j)

  unfoldable pub masked_of : ℕ → ℕ
  masked_of j = sub T.params.scale.modulus (get_or secret j 0 + shift_of T) (mask_of j)

  -- opening o of rounds 1 to 6
  unfoldable pub clear_opened : ℕ → ℕ → ℕ
  clear_opened round o =
      cond (eqb round 1) (masked_of o)
      (cond (leb round 5)
      (sub T.params.scale.modulus (clear_factor T (masked_of (o / 4)) (mask_of (o / 4)) (round - 1) (o / 2 % 2) (o % 2))
      (drawn T.params width draw (triple_at T.params (o / 4) (2 * (round - 2) + o / 2 % 2) + o % 2)))
      (add T.params.scale.modulus (drawn T.params width draw (group_at T.params o)) (group_gap T.params * clear_checked T masked_of mask_of o)))
