-- Behind questions 8, 5 and 6, that a call has asked.
use Rattle.std.proofs.Common.{◌≡◌, ◌≢◌, ℕ, List, Bool, true, false, arith, sym}
use Rattle.std.specs.Prelude.{Result, Ok, Err, OnOk}
use lib.Dec.{eqb}
use lib.ListN.{length}
use Rattle.lists.specs.Answers.{ask}
use Rattle.lists.specs.Lists.{all_below}
use Rattle.lists.proofs.Questions.{passed}
use Rattle.field.specs.Field.{q}
use Rattle.settings.specs.declared.Refusal.{Refusal}
use Rattle.settings.specs.Refusals.{number_of}
use Rattle.settings.specs.Sizes.{work_length}
use Rattle.settings.proofs.Refused.{number_nonzero}
use Rattle.side.specs.Work.{ask_work}

yes : (a b c : Bool) (x rest : ℕ) → 0 ≡ ask a 8 (ask b 5 (ask c 6 0)) → x ≡ rest → x ≡ ask a 8 (ask b 5 (ask c 6 rest))
unfolding ask
yes true true true x rest e h = h
yes true true false x rest e h = absurd (omega arith)
yes true false c x rest e h = absurd (omega arith)
yes false b c x rest e h = absurd (omega arith)

no : (a b c : Bool) (n rest : ℕ) → n ≢ 0 → n ≡ ask a 8 (ask b 5 (ask c 6 0)) → n ≡ ask a 8 (ask b 5 (ask c 6 rest))
unfolding ask
no true true true n rest s e = absurd (s e)
no true true false n rest s e = e
no true false c n rest s e = e
no false b c n rest s e = e

-- what holds whether a call refuses or not
pub on_ok : (r : Result (Unit {0}) Refusal) {P : Type 0} → P → OnOk r P
on_ok (Ok x) p = p
on_ok (Err e) p = tt

module _ (k : ℕ) (due : Bool) (work : List ℕ) where
  pub work_yes : (x rest : ℕ) → 0 ≡ ask_work k due work 0 → x ≡ rest → x ≡ ask_work k due work rest
  work_yes = yes due (eqb (length work) (work_length k)) (all_below q work)

  pub work_refused : (e : Refusal) (rest : ℕ) → number_of e ≡ ask_work k due work 0 → number_of e ≡ ask_work k due work rest
  work_refused e rest = no due (eqb (length work) (work_length k)) (all_below q work) (number_of e) rest (number_nonzero e)

  pub work_due : 0 ≡ ask_work k due work 0 → due ≡ true
  work_due e = (passed due 7 _ (sym e)).0
