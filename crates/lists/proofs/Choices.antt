-- A chain of choices: with the ruleset `choices` each result of a function that makes them in the order of its definition is
-- `search choices`.
use mathlib.Core.Path.{◌≡◌, refl, sym, ◌∙◌}
use mathlib.Core.Bool.{Bool, true, false, cond}
use borrow.Author.Tests.{lt-ltb, le-ltb, le-leb, lt-leb, eq-eqb, ne_eqb, not-true, not-false}

pub taken : {A : Type 0} (b : Bool) (r x y : A) → b ≡ true → r ≡ x → r ≡ cond b x y
taken b r x y e p = rw e p

pub passed : {A : Type 0} (b : Bool) (r x y : A) → b ≡ false → r ≡ y → r ≡ cond b x y
passed b r x y e p = rw e p

-- what a function that answers a question has told
pub yes : (r b : Bool) → r ≡ b → r ≡ true → b ≡ true
yes r b p e = sym p ∙ e

pub no : (r b : Bool) → r ≡ b → r ≡ false → b ≡ false
no r b p e = sym p ∙ e

pub ruleset choices = (refl, taken, passed, yes, no, not-true, not-false, lt-ltb, le-ltb, le-leb, lt-leb, eq-eqb, ne_eqb)
