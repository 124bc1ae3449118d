-- DrawsPair, from PlainRun: the pairing is one to one, keeps possible draws, the opened numbers and the own book.
use mathlib.Core.Path.{◌≡◌, sym, ◌∙◌}
use mathlib.Core.List.{List}
use mathlib.Core.Bool.{true}
use Prim.Native.Nat.{ℕ, ◌-◌, ◌<◌}
use native.Mathlib.Decide.{dec_lt}
use native.Mathlib.Omega.{arith}
use lib.Dec.{eqb}
use Rattle.settings.specs.Sizes.{width_of}
use Rattle.settings.specs.Schedule.{rounds}
use Rattle.book.specs.Books.{multipliers}
use Rattle.column.specs.Run.{plain_opened}
use Rattle.column.specs.Theorems.{PlainRun}
use Rattle.settings.specs.declared.Settings.{Settings}
use Rattle.settings.specs.Questions.{settings_ok}
use Rattle.settings.specs.Settings.{terms_of}
use Rattle.runs.proofs.Answers.{sound}
use Rattle.runs.specs.Records.{answer_of, book_of}
use Rattle.runs.specs.Demands.{Secret, Possible}
use Rattle.secrecy.specs.Paired.{paired}
use Rattle.secrecy.specs.Theorems.{DrawsPair}
use Rattle.secrecy.proofs.Backs.{good_paired, same_books, back-paired, rounds-same}
use Rattle.secrecy.proofs.Shapes.{good, able, shapes}

module _ (k : ℕ) (plain-run-law : PlainRun) (s : Settings) (number : ℕ) (keys0 keys1 : List ℕ) where
  abbrev There : List ℕ → List ℕ → List ℕ → List ℕ
  There x x' d = paired (terms_of s) (width_of k) x x' number (multipliers keys0 keys1) d

  abbrev Opened : List ℕ → List ℕ → ℕ → List ℕ
  Opened d x r = plain_opened (terms_of s) (width_of k) d x r

  possible : (x x' d : List ℕ) → Possible k s d → Possible k s (There x x' d)
  possible x x' d hd =
      able k s _ (good_paired (terms_of s) (width_of k) (omega arith) x x' (multipliers keys0 keys1) d (good k s d hd) number)

  back : (x x' d : List ℕ) → settings_ok s ≡ true → Secret s x → Secret s x' → Possible k s d → There x' x (There x x' d) ≡ d
  back x x' d ok hx hx' hd =
      back-paired (terms_of s) (width_of k) (omega arith) x x'
      (shapes k plain-run-law s x ok hx) (shapes k plain-run-law s x' ok hx') (multipliers keys0 keys1) d (good k s d hd) number

  -- the last round opens the answer
  answers : (x d : List ℕ) → settings_ok s ≡ true → Secret s x → Possible k s d → Opened d x (rounds - 1) ≡ answer_of s x
  unfolding answer_of
  answers x d ok hx hd = plain-run-law.answer (terms_of s) k d x (sound k s x d ok hx hd)

  same_openings : (x x' d : List ℕ) → settings_ok s ≡ true → Secret s x → Secret s x' → Possible k s d → answer_of s x ≡ answer_of s x'
      → (r : ℕ) → r < rounds → Opened (There x x' d) x' r ≡ Opened d x r
  same_openings x x' d ok hx hx' hd e r b = by (dec_lt r (rounds - 1))
    where
      by : Dec (r < rounds - 1) → Opened (There x x' d) x' r ≡ Opened d x r
      by (yes h) =
          rounds-same (terms_of s) (width_of k) (omega arith) x x'
          (shapes k plain-run-law s x ok hx) (shapes k plain-run-law s x' ok hx') (multipliers keys0 keys1) d (good k s d hd) number r h
      by (no h) =
          let last : r ≡ rounds - 1 = omega arith in
          rw last (answers x' (There x x' d) ok hx' (possible x x' d hd) ∙ sym e ∙ sym (answers x d ok hx hd))

  same_book : (x x' d : List ℕ) → Possible k s d → book_of k s number keys0 keys1 (There x x' d) ≡ book_of k s number keys0 keys1 d
  unfolding paired
  same_book x x' d hd =
      same_books (terms_of s) (width_of k) (omega arith) x x' (multipliers keys0 keys1) d (good k s d hd) (omega arith) (eqb number 0)

pub pairing_laws : (k : ℕ) → PlainRun → DrawsPair k
pairing_laws k plain-run-law = record {
  possible = λ s number keys0 keys1 x x' d ok hx hx' hd. possible k plain-run-law s number keys0 keys1 x x' d hd;
  back = λ s number keys0 keys1 x x' d ok hx hx' hd. back k plain-run-law s number keys0 keys1 x x' d ok hx hx' hd;
  same_openings = λ s number keys0 keys1 x x' d ok hx hx' hd e r b. same_openings k plain-run-law s number keys0 keys1 x x' d ok hx hx' hd e r b;
  same_book = λ s number keys0 keys1 x x' d ok hn hx hx' hd. same_book k plain-run-law s number keys0 keys1 x x' d hd;
}
