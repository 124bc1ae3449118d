-- The first no of a list of questions.
use Prim.Native.Nat.{ℕ, zero, suc, ◌≤◌, ◌<◌}
use mathlib.Core.Path.{◌≡◌, refl, ◌∙◌}
use mathlib.Core.Logic.{◌≢◌}
use mathlib.Core.Bool.{Bool, true, false, not, ◌&&◌}
use mathlib.Core.List.{List, [], ◌∷◌}
use native.Mathlib.Omega.{arith}
use lib.Dec.{eqb, leb}
use lib.ListN.{length}
use borrow.Author.Tests.{leb-true, eqb-false, not-true}
use Rattle.lists.specs.Answers.{ask}
use Rattle.lists.specs.Lists.{every}
use Rattle.lists.proofs.Questions.{both_yes}
use Rattle.refusals.specs.Questions.{Question, asks}
use Rattle.refusals.specs.Demands.{number_at, yes_at, Decides}

unfoldable pub first_no : List Question → ℕ
first_no [] = 0
first_no (x ∷ rest) = ask x.answer x.number (first_no rest)

-- question 1 asked in two parts is one question
pub joined : (a b c : Bool) (n rest : ℕ) → ask a n (ask (b && c) n rest) ≡ ask (a && b && c) n rest
unfolding ask
joined true b c n rest = refl
joined false b c n rest = refl

-- yes to the first and to those behind it
all_yes : (n : ℕ) (rest : List Question) (size : ℕ) → ((i : ℕ) → i < size → yes_at rest i ≡ true)
    → (i : ℕ) → i < suc size → yes_at (asks n true ∷ rest) i ≡ true
all_yes n rest size f zero l = refl
all_yes n rest size f (suc i) l = f i (omega arith)

after_yes : (n : ℕ) (rest : List Question) (refusal : ℕ) → Decides rest refusal → Decides (asks n true ∷ rest) refusal
after_yes n rest refusal d =
    record {
      accepted = λ z. all_yes n rest (length rest) (d.accepted z);
      refused = λ h.
          let f = d.refused h in
          let first = f.1 in (
            suc f.0,
            record {
              inside = omega (arith, first.inside);
              number_is = first.number_is;
              answered_no = first.answered_no;
              before = all_yes n rest f.0 first.before;
            },
          );
    }

after_no : (n : ℕ) (rest : List Question) → 1 ≤ n → Decides (asks n false ∷ rest) n
after_no n rest l =
    record {
      accepted = λ z. absurd (omega arith);
      refused = λ h. (0, record { inside = omega arith; number_is = refl; answered_no = refl; before = λ j m. absurd (omega arith) });
    }

abbrev numbered : Question → Bool
numbered x = leb 1 x.number

pub decides : (questions : List Question) → every numbered questions ≡ true → Decides questions (first_no questions)
unfolding first_no every ask
decides [] e = record { accepted = λ z i l. absurd (omega arith); refused = λ h. absurd (h refl) }
decides (x ∷ rest) e =
    let both = both_yes (numbered x) (every numbered rest) e in
    by x.answer (decides rest both.1) (leb-true 1 x.number both.0)
  where
    by : (b : Bool) → Decides rest (first_no rest) → 1 ≤ x.number → Decides (asks x.number b ∷ rest) (ask b x.number (first_no rest))
    by true d l = after_yes x.number rest (first_no rest) d
    by false d l = after_no x.number rest l

-- a call that does not ask question 13 does not refuse with it
abbrev pub not_thirteen : Question → Bool
not_thirteen x = not (eqb x.number 13)

number-not : (questions : List Question) → every not_thirteen questions ≡ true → (i : ℕ) → number_at questions i ≢ 13
unfolding every
number-not [] e i z = omega (arith, z)
number-not (x ∷ rest) e zero z = eqb-false x.number 13 (not-true _ (both_yes (not_thirteen x) (every not_thirteen rest) e).0) z
number-not (x ∷ rest) e (suc i) z = number-not rest (both_yes (not_thirteen x) (every not_thirteen rest) e).1 i z

pub never_thirteen : (questions : List Question) (refusal : ℕ) → every not_thirteen questions ≡ true → Decides questions refusal → refusal ≢ 13
never_thirteen questions refusal e d z =
    let f = d.refused (λ none. omega (arith, none, z)) in
    number-not questions e f.0 (f.1.number_is ∙ z)
