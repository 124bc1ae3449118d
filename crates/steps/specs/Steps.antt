-- The steps of the seven rounds on one column, as linear forms with public coefficients: what is opened, and what the
-- running registers become. j is a coefficient, i a digit, which the first (0) or second (1) gate and running register.
use Rattle.std.specs.Prelude.{ℕ, zero, suc, ◌+◌, ◌-◌, ◌*◌, ◌/◌, ◌%◌, cond, ◌&&◌, eqb, leb, ltb}
use Rattle.lists.specs.Answers.{bit}
use Rattle.field.specs.Forms.{Form, num, reg, sum, ◌⊞◌, ◌⊟◌, ◌⊠◌}
use Rattle.settings.specs.Sets.{Scale, base}
use Rattle.settings.specs.Settings.{Params, Terms}
use Rattle.rounding.specs.Digits.{digit}
use Rattle.rounding.specs.Rounds.{threshold}
use Rattle.book.specs.Book.{group_k, group_gap, mask_at, vector_at, triple_at, group_at}
use Rattle.slice.specs.Layout.{input_at, running_at}
use Rattle.slice.specs.Weights.{weigh, rule_of}

-- what both sides know of a run: scale, kind, N, B, and the y that round 1 opened
pub record Public : Type 0 where
  pub params : Params
  pub bound : ℕ
  pub masked : ℕ → ℕ

abbrev pub public_of : Terms → (ℕ → ℕ) → Public
public_of T masked = record { params = T.params; bound = T.bound; masked = masked }

-- its settings
abbrev pub terms_in : Public → Terms
terms_in w = record { params = w.params; bound = w.bound }

-- the number whose digits a gate looks at: y for HIGH; for BOUND the threshold hi (which = 0) or lo
unfoldable pub looked_at : ℕ → ℕ → ℕ → ℕ → ℕ → ℕ
looked_at m kind bound which y = cond (eqb kind 0) y (threshold m bound which y)

-- its digit i
abbrev pub digit_of : Public → ℕ → ℕ → ℕ → ℕ
digit_of w j i which = digit w.params.scale (looked_at w.params.scale.modulus w.params.kind w.bound which (w.masked j)) i

-- the limit of a rule: the digit's base, for digit 4 s
unfoldable pub limit_of : Scale → ℕ → ℕ
limit_of p i = cond (ltb i 4) (base p i) p.parts

-- ---- Gates: addend + u × v

-- A, Z, F, G, or the sum below Ti; with up = 1 "the same with yi + 1"
unfoldable pub vector_sum : Public → ℕ → ℕ → ℕ → ℕ → Form
vector_sum w j i which up =
    sum (base w.params.scale i) (vector_at w.params j i)
    (weigh (rule_of w.params.kind i which) (limit_of w.params.scale i) (digit_of w j i which + up))

-- HIGH: "Next carry = A + ci × (A' − A); zi = Z + ci × (Z' − Z)", F and G "chosen by c4 in the same way"; the z's and G are
-- added up in the second register. BOUND: "(sum of digit i's vector below Ti) + (entry at Ti) × (result so far), the entry as u"
unfoldable pub addend : Public → ℕ → ℕ → ℕ → Form
addend w j i which = cond (eqb w.params.kind 0 && eqb which 1) (reg (running_at 1 j) ⊞ vector_sum w j i which 0) (vector_sum w j i which 0)

unfoldable pub factor_u : Public → ℕ → ℕ → ℕ → Form
factor_u w j i which = cond (eqb w.params.kind 0) (reg (running_at 0 j)) (reg (vector_at w.params j i + digit_of w j i which))

unfoldable pub factor_v : Public → ℕ → ℕ → ℕ → Form
factor_v w j i which = cond (eqb w.params.kind 0) (vector_sum w j i which 1 ⊟ vector_sum w j i which 0) (reg (running_at which j))

-- "Products use triples in the order named": the place of a; b and a × b follow
abbrev pub triple_of : Public → ℕ → ℕ → ℕ → ℕ
triple_of w j i which = triple_at w.params j (2 * (i - 1) + which)

-- ---- What is opened

-- the public number that round 1 adds: α/2 − 1, or B − 1
unfoldable pub shift_of : Terms → ℕ
shift_of T = cond (eqb T.params.kind 0) (T.params.scale.alpha / 2 - 1) (T.bound - 1)

-- "Round 1 opens y = (w' − r), or (v + B − 1 − r) for BOUND"
unfoldable pub open_input : Public → ℕ → Form
open_input w j = reg (input_at j) ⊞ num (shift_of (terms_in w)) ⊟ reg (mask_at w.params j)

-- "Product of u and v: open u − a, then v − b": part 0, part 1
unfoldable pub open_factor : Public → ℕ → ℕ → ℕ → ℕ → Form
open_factor w j i which part = cond (eqb part 0) (factor_u w j i which) (factor_v w j i which) ⊟ reg (triple_of w j i which + part)

-- "A coefficient is inside by hi's result − lo's result, + 1 if hi < lo"
unfoldable pub inside_form : ℕ → ℕ → ℕ → ℕ → Form
inside_form m bound y j = reg (running_at 0 j) ⊟ reg (running_at 1 j) ⊞ num (bit (ltb (threshold m bound 0 y) (threshold m bound 1 y)))

-- the sum of the insides of the first coefficients
unfoldable pub insides : Public → ℕ → Form
insides w zero = num 0
insides w (suc j) = insides w j ⊞ inside_form w.params.scale.modulus w.bound (w.masked j) j

-- "Round 6 zero-checks 5 − (z0 + z1 + z2 + z3 + G)", or "N − the sum of insides"
unfoldable pub checked : Public → ℕ → Form
checked w g = num (group_k w.params) ⊟ cond (eqb w.params.kind 0) (reg (running_at 1 g)) (insides w w.params.n)

-- "Zero check of n, 0 to K: open ρ + g × n", of group g
unfoldable pub open_check : Public → ℕ → Form
open_check w g =
    reg (group_at w.params g) ⊞ group_gap w.params ⊠ checked w g

-- opening o of a round. Rounds 2 to 5: "coefficient by coefficient", two gates each, u then v. "Round 7 opens F − C", or the check's result
unfoldable pub opening : Public → ℕ → ℕ → Form
opening w round o =
    cond (eqb round 1) (open_input w o)
    (cond (leb round 5) (open_factor w (o / 4) (round - 1) (o / 2 % 2) (o % 2))
    (cond (eqb round 6) (open_check w o)
    (reg (running_at 0 o))))

-- ---- What the opened numbers make of the running registers

-- addend + u × v: "result e × v + f × u + c − e × f", e and f the opened numbers
unfoldable pub gate_result : Public → ℕ → ℕ → ℕ → ℕ → ℕ → Form
gate_result w j i which openedU openedV =
    addend w j i which ⊞ openedU ⊠ factor_v w j i which ⊞ openedV ⊠ factor_u w j i which ⊞ reg (triple_of w j i which + 2) ⊟ num (openedU * openedV % w.params.scale.modulus)

-- "the result is the vector's entry at the opened number divided by g, rounded down", of group g
unfoldable pub check_entry : Public → ℕ → ℕ → Form
check_entry w g x = reg (group_at w.params g + 1 + x / group_gap w.params)

-- the group of coefficient j: its own for HIGH, the one of all for BOUND
unfoldable pub group_of : ℕ → ℕ → ℕ
group_of kind j = cond (eqb kind 0) j 0

-- round 6: HIGH's F − C; BOUND's result, in the first register of coefficient 0. The others stay
unfoldable pub after_check : Public → ℕ → ℕ → ℕ → Form
after_check w j which x =
    cond (eqb which 0)
    (cond (eqb w.params.kind 0) (reg (running_at 0 j) ⊟ check_entry w j x)
    (cond (eqb j 0) (check_entry w 0 x) (reg (running_at 0 j))))
    (reg (running_at which j))

-- the running register of a gate, of coefficient j, after a round: "Digit 0 needs no product", then the gates, then the zero check
unfoldable pub running : Public → ℕ → (ℕ → ℕ) → ℕ → ℕ → Form
running w round opened which j =
    cond (eqb round 1) (vector_sum w j 0 which 0)
    (cond (leb round 5) (gate_result w j (round - 1) which (opened (4 * j + 2 * which)) (opened (4 * j + 2 * which + 1)))
    (cond (eqb round 6) (after_check w j which (opened (group_of w.params.kind j)))
    (reg (running_at which j))))
