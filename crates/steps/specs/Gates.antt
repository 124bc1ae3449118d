-- The gates as the code has them: what all columns share is worked out once for each gate. g counts the gates of all coefficients: gate
-- 2 × j + which; i is the digit, and `split` the number that the gate looks at, with its digits.
use Rattle.std.specs.Prelude.{ℕ, ◌+◌, ◌-◌, ◌*◌, ◌/◌, ◌%◌, ◌≤◌, ◌<◌, ◌≡◌, cond, ◌&&◌, List, eqb, get_or}
use Rattle.field.specs.Field.{q}
use Rattle.field.specs.Forms.{Form, num, reg, sum, ◌⊞◌, ◌⊟◌, ◌⊠◌}
use Rattle.settings.specs.declared.Shape.{Shape}
use Rattle.settings.specs.Sets.{scale_of, base}
use Rattle.settings.specs.Settings.{params_of}
use Rattle.rounding.specs.declared.Split.{Split}
use Rattle.book.specs.Book.{vector_at, triple_at}
use Rattle.slice.specs.Layout.{input_at, running_at}
use Rattle.slice.specs.Weights.{weigh, rule_of}
use Rattle.slice.specs.declared.Weighted.{Weighted}
use Rattle.slice.specs.declared.Rule.TheVariants.{Zero, Top}
use Rattle.steps.specs.declared.Gate.{Gate}
use Rattle.steps.specs.Steps.{limit_of}

-- the sum over digit i's vector
abbrev pub terms_at : Shape → Split → ℕ → ℕ → Weighted
terms_at shape split g i =
    record {
      place = vector_at (params_of shape) (g / 2) i;
      n = base (scale_of shape.set) i;
      rule = rule_of shape.kind i (g % 2);
      limit = limit_of (scale_of shape.set) i;
      digit = get_or split.digits i 0;
    }

-- the gate
abbrev pub gate_at : Shape → Split → ℕ → ℕ → Gate
gate_at shape split g i =
    record {
      kind = shape.kind;
      j = g / 2;
      which = g % 2;
      triple = triple_at (params_of shape) (g / 2) (2 * (i - 1) + g % 2);
      terms = terms_at shape split g i;
    }

-- ---- Its forms: those of the steps (Steps.antt), read off the gate

-- the sum, for the digit or (up = 1) for one higher
abbrev pub sum_form : Weighted → ℕ → Form
sum_form t up = sum t.n t.place (weigh t.rule t.limit (t.digit + up))

unfoldable pub addend_form : Gate → Form
addend_form gate =
    cond (eqb gate.kind 0 && eqb gate.which 1) (reg (running_at 1 gate.j) ⊞ sum_form gate.terms 0) (sum_form gate.terms 0)

unfoldable pub u_form : Gate → Form
u_form gate = cond (eqb gate.kind 0) (reg (running_at 0 gate.j)) (reg (gate.terms.place + gate.terms.digit))

unfoldable pub v_form : Gate → Form
v_form gate = cond (eqb gate.kind 0) (sum_form gate.terms 1 ⊟ sum_form gate.terms 0) (reg (running_at gate.which gate.j))

-- u − a, v − b
abbrev pub open_u : Gate → Form
open_u gate = u_form gate ⊟ reg gate.triple

abbrev pub open_v : Gate → Form
open_v gate = v_form gate ⊟ reg (gate.triple + 1)

-- addend + u × v, e and f the opened numbers
abbrev pub result_form : Gate → ℕ → ℕ → Form
result_form gate e f = addend_form gate ⊞ e ⊠ v_form gate ⊞ f ⊠ u_form gate ⊞ reg (gate.triple + 2) ⊟ num (e * f % q)

-- ---- Its bounds

pub record TermsFit (t : Weighted) : Type 0 where
  pub room : t.place + t.n ≤ input_at 0
  pub few : t.n ≤ 45
  pub limit_some : 1 ≤ t.limit
  pub limit_most : t.limit ≤ 45
  pub digit_below : t.digit < t.n
  pub zero_fits : t.rule ≡ Zero → t.n ≡ t.limit
  pub top_fits : t.rule ≡ Top → t.n ≡ t.limit + 1

pub record GateFits (gate : Gate) : Type 0 where
  pub coefficient : gate.j < 8
  pub which_two : gate.which < 2
  pub triple_room : gate.triple ≤ input_at 0
  pub terms_fit : TermsFit gate.terms

-- the list that the code is lent with a sum: F reads t(d) there, F' − F the growth of t(d); no other sum reads it
abbrev pub Listed : (ℕ → List ℕ) → Weighted → List ℕ → Type 0
Listed lists t list = t.rule ≡ Top → list ≡ lists t.limit
