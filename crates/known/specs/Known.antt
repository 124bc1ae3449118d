-- "Known results (★ proved)": one table, each row checked against the meanings by computing it.
use Rattle.std.specs.Prelude.{ℕ, ◌-◌, ◌≡◌, refl, List, [], ◌∷◌, map, ℤ, pos, negsuc}
use Rattle.lists.specs.Answers.{bit}
use Rattle.lists.specs.Lists.{every}
use Rattle.field.specs.Field.{q, sub}
use Rattle.field.specs.Sums.{sum_to}
use Rattle.settings.specs.Sets.{scale_of}
use Rattle.rounding.specs.Plain.{high_of_shifted, low_part, high_low_of, inside, verdict}
use Rattle.rounding.specs.Digits.{digits_of}
use Rattle.rounding.specs.Rounds.{unit, carry_into, zero_digit, top_sum, top, nonzero_count, gap, check_opens, check_result, wrap_of, high_result}

-- a row: what is asked, and what is known of it
pub data Row : Type 0 where
  -- high and low part of a number in a set
  parts : (set w high : ℕ) (low : ℤ) → Row
  -- HIGH in a set, of w' with the mask r: y, round 5's top digit with its carry, C, and the result
  run : (set w' r y topDigit C result : ℕ) → Row
  -- the zero check of n with K and ρ: g, the opened number and the result
  check : (K n ρ g opened result : ℕ) → Row
  -- the verdict on one number with the bound B
  bound : (b x result : ℕ) → Row

-- the row with its results worked out by the meanings
unfoldable pub worked : Row → Row
worked (parts set w _ _) =
    let both = high_low_of (scale_of set) w in
    parts set w both.high both.low
worked (run set w' r _ _ _ _) =
    let p = scale_of set in
    let y = sub q w' r in
    run set w' r y (top_sum p y r) (wrap_of p 0 y r) (high_result p 0 y r)
worked (check K n ρ _ _ _) = check K n ρ (gap q K) (check_opens q K ρ n) (check_result q K ρ (check_opens q K ρ n))
worked (bound b x _) = bound b x (verdict q b (x ∷ []))

unfoldable pub known_results : List Row
known_results =
    -- "Set 0 high parts: 95,232 gives 0; 95,233 gives 1; 8,285,184 gives 43; 8,285,185 gives 0, low −95,232; q − 1 gives 0, low −1";
    -- with the low parts that 01 leaves out (request Two: "takes the pair")
    parts 0 95232 0 (pos 95232)
    ∷ parts 0 95233 1 (negsuc 95230)
    ∷ parts 0 8285184 43 (pos 95232)
    ∷ parts 0 8285185 0 (negsuc 95231)
    ∷ parts 0 (q - 1) 0 (negsuc 0)
    -- "Set 1: 261,888 gives 0; 261,889 gives 1; 8,118,528 gives 15; 8,118,529 gives 0"
    ∷ parts 1 261888 0 (pos 261888)
    ∷ parts 1 261889 1 (negsuc 261886)
    ∷ parts 1 8118528 15 (pos 261888)
    ∷ parts 1 8118529 0 (negsuc 261887)
    -- "Set 0, w' = q − 2, r = q − 1: y = q − 1, top digit 88, C = 1, result 43"
    ∷ run 0 (q - 2) (q - 1) (q - 1) 88 1 43
    -- "K = 5: g = 1,396,736; n = 5, ρ = q − 1 opens 6,983,679, result 0"
    ∷ check 5 5 (q - 1) 1396736 6983679 0
    -- "B = 4,190,208: 4,190,207 passes, 4,190,208 and 4,190,209 fail, 4,190,210 passes"
    ∷ bound 4190208 4190207 1
    ∷ bound 4190208 4190208 0
    ∷ bound 4190208 4190209 0
    ∷ bound 4190208 4190210 1
    ∷ []

pub known_results_lem : map worked known_results ≡ known_results
unfolding worked known_results bit every sum_to high_of_shifted low_part inside verdict digits_of unit carry_into zero_digit top nonzero_count
known_results_lem = refl
