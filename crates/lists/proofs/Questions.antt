-- Chains of questions: with the ruleset `walk` each answer of a function that asks them in order is `search walk`.
use mathlib.Core.Path.{◌≡◌, refl, sym, ◌∙◌}
use mathlib.Core.Bool.{Bool, true, false, not, ◌&&◌, true≢false, ◌||◌}
use Prim.Native.Nat.{ℕ, suc, ◌≤◌}
use native.Mathlib.Omega.{arith}
use borrow.Author.Tests.{lt-ltb, le-ltb, le-leb, lt-leb, eq-eqb, ne_eqb, not-true, not-false}
use lib.Dec.{eqb}
use Rattle.lists.specs.Answers.{ask}

-- a question answered no, and one answered yes
pub stop : (b : Bool) (n rest : ℕ) → b ≡ false → n ≡ ask b n rest
unfolding ask
stop b n rest e = rw e

pub skip : (b : Bool) (x n rest : ℕ) → b ≡ true → x ≡ rest → x ≡ ask b n rest
unfolding ask
skip b x n rest e p = rw e p

-- a conjunction that is known: the value on the left, as a test's result is
pub no_left : (a b : Bool) → a ≡ false → false ≡ (a && b)
no_left a b p = rw p

pub no_right : (a b : Bool) → a ≡ true → false ≡ b → false ≡ (a && b)
no_right a b p q = rw p q

pub yes_both : (a b : Bool) → true ≡ a → true ≡ b → true ≡ (a && b)
yes_both a b p q = rw (← p) q

pub and_yes : (a b : Bool) → a ≡ true → b ≡ true → (a && b) ≡ true
and_yes a b p q = rw p q

pub and_left : (a b : Bool) → a ≡ false → (a && b) ≡ false
and_left a b p = rw p

pub and_right : (a b : Bool) → a ≡ true → b ≡ false → (a && b) ≡ false
and_right a b p q = rw p q

pub and_true : (b : Bool) → (b && true) ≡ b
and_true true = refl
and_true false = refl

-- what a function that answers a question has told
pub answered_yes : (r b : Bool) → r ≡ b → not r ≡ false → b ≡ true
answered_yes r b p q = sym p ∙ not-false r q

pub answered_no : (r b : Bool) → r ≡ b → not r ≡ true → b ≡ false
answered_no r b p q = sym p ∙ not-true r q

-- the same of a question that is asked the other way round
pub denied_no : (r b : Bool) → r ≡ b → r ≡ true → not b ≡ false
denied_no r b p q = rw (← p, q)

pub denied_yes : (r b : Bool) → r ≡ b → r ≡ false → not b ≡ true
denied_yes r b p q = rw (← p, q)

pub ruleset tests = (lt-ltb, le-ltb, le-leb, lt-leb, eq-eqb, ne_eqb)

pub ruleset walk = (answered_yes, answered_no, denied_no, denied_yes, stop, skip, no_left, no_right, yes_both, and_yes, and_left, and_right, lt-ltb, le-ltb, le-leb, lt-leb, eq-eqb, ne_eqb)

-- ---- what a chain that ends with 0 says: every question was answered yes

pub both_yes : (a b : Bool) → (a && b) ≡ true → (a ≡ true) × (b ≡ true)
both_yes true b e = (refl, e)
both_yes false b e = absurd (true≢false (sym e))

pub passed : (b : Bool) (n rest : ℕ) → ask b (suc n) rest ≡ 0 → (b ≡ true) × (rest ≡ 0)
unfolding ask
passed true n rest e = (refl, e)
passed false n rest e = absurd (omega arith)

-- a no stays a no through the rest of a chain
pub ask_no : (b : Bool) (n rest : ℕ) → eqb (suc n) 0 ≡ false → eqb rest 0 ≡ false → eqb (ask b (suc n) rest) 0 ≡ false
unfolding ask
ask_no true n rest p e = e
ask_no false n rest p e = p

pub ask-last : (b : Bool) (n rest : ℕ) → b ≡ false → eqb (ask b (suc n) rest) 0 ≡ false
unfolding ask
ask-last b n rest e = rw e (ne_eqb (suc n) 0 (λ z. omega arith))

pub ask_in : (b : Bool) (n : ℕ) → b ≡ true → eqb (ask b n 0) 0 ≡ true
unfolding ask
ask_in b n e = rw e refl

-- no number of a chain is above the largest
pub ask_le : (b : Bool) (n rest m : ℕ) → n ≤ m → rest ≤ m → ask b n rest ≤ m
unfolding ask
ask_le true n rest m h k = k
ask_le false n rest m h k = h

-- neither of two
pub or_no : (a b : Bool) → (a || b) ≡ false → (a ≡ false) × (b ≡ false)
or_no true b e = absurd (true≢false e)
or_no false b e = (refl, e)
