-- Public weights: how the entries of a digit's vector are summed, for the public digit d. Entry x stands for the digit x of r.
use Rattle.std.specs.Prelude.{ℕ, ◌+◌, ◌-◌, ◌*◌, ◌%◌, ◌≤◌, ◌≡◌, cond, List, eqb, leb, ltb}
use Rattle.lists.specs.Answers.{bit}
use Rattle.lists.specs.Lists.{list_to}
use Rattle.field.specs.Field.{q}
use Rattle.rounding.specs.Rounds.{top, over}
use Rattle.slice.specs.declared.Rule.{Rule}
use Rattle.slice.specs.declared.Rule.TheVariants.{Carry, Zero, Top, Over, Below}
use Rattle.slice.specs.declared.Weighted.{Weighted}

-- b is the digit's base; for Top and Over it is s
unfoldable pub weigh : Rule → ℕ → ℕ → ℕ → ℕ
-- "A sums where j + yi ≥ base"
weigh Carry b d x = bit (leb b (x + d))
-- "Z is the entry with (j + yi) mod base = 0"
weigh Zero b d x = bit (eqb ((x + d) % b) 0)
-- "F sums vector × t(d)"
weigh Top b d x = top b (x + d)
-- "G sums where d > s"
weigh Over b d x = over b (x + d)
-- "sum of digit i's vector below Ti"
weigh Below b d x = bit (ltb x d)

-- the rule of a gate (0 first, 1 second) of digit i: HIGH's A and Z, in round 5 F and G; BOUND's hi and lo alike
unfoldable pub rule_of : ℕ → ℕ → ℕ → Rule
rule_of kind i which = cond (eqb kind 0) (cond (ltb i 4) (cond (eqb which 0) Carry Zero) (cond (eqb which 0) Top Over)) Below

-- F' − F in the same way: what t(d) grows by from d to d + 1, modulo q, for d from 0 to 2s
unfoldable pub top_rises : ℕ → List ℕ
top_rises s = list_to (2 * s + 1) (λ (d : ℕ). top s (d + 1) + q - top s d)

-- what the code reads Top's weights with: a list for their s, of t(d) or of its growth. r's digit and y's are at most s, so d is at
-- most 2s, and 2s + 1 with a carry
abbrev pub TopFits : (ℕ → List ℕ) → Weighted → List ℕ → Type 0
TopFits lists t list = (list ≡ lists t.limit) × (t.n ≤ t.limit + 1) × (t.digit ≤ t.limit)
