-- Demand 3: whoever keeps one side's whole record cannot tell two alike secrets apart. For any number of keys.
use mathlib.Core.Path.{◌≡◌, sym, ap, subst}
use mathlib.Core.List.{List}
use mathlib.Core.Bool.{cond}
use Prim.Native.Nat.{ℕ, ◌<◌}
use lib.Dec.{eqb}
use Rattle.settings.specs.Sizes.{width_of}
use Rattle.book.specs.Books.{multipliers}
use Rattle.book.specs.Theorems.{Laws}
use Rattle.column.specs.Run.{plain_opened}
use Rattle.column.specs.Theorems.{SlicesJoin, PlainRun}
use Rattle.settings.specs.declared.Settings.{Settings}
use Rattle.settings.specs.Settings.{terms_of}
use Rattle.runs.specs.Records.{PartyInput, JointState, ScheduledCall, Observation, answer_of, joint_after, observations, record_of}
use Rattle.runs.specs.Demands.{Fixed, Secret, Shares, Possible, Start, observer_input, peer_input}
use Rattle.runs.specs.Progress.{none, counts_after, joint_at}
use Rattle.runs.specs.Theorems.{Progress}
use Rattle.runs.proofs.Opens.{Facing}
use Rattle.runs.proofs.Runs.{plain_opening, facing}
use Rattle.secrecy.specs.Paired.{paired}
use Rattle.secrecy.specs.Theorems.{DrawsPair}
use Rattle.secrecy.specs.Demands.{Demand3}
use Rattle.secrecy.proofs.DrawsPairing.{pairing_laws}
use Rattle.secrecy.proofs.SameView.{log-same}

module _ (k : ℕ) (joins : SlicesJoin) (progress_law : Progress k) (pairs : DrawsPair k) (laws : Laws)
    (s : Settings) (serial : ℕ) (keys0 keys1 : List ℕ) (f : Fixed k s serial keys0 keys1) (number : ℕ) (u : number < 2)
    (inputs x x' : List ℕ) (hi : Shares k s inputs) (hx : Secret s x) (hx' : Secret s x') where
  abbrev There : List ℕ → List ℕ → List ℕ → List ℕ
  There x x' d = paired (terms_of s) (width_of k) x x' number (multipliers keys0 keys1) d

  abbrev N : List ℕ → List ℕ → ℕ → List ℕ
  N x d rounds = plain_opened (terms_of s) (width_of k) d x rounds

  abbrev own : List ℕ → PartyInput
  own d = observer_input k s number keys0 keys1 inputs d

  abbrev other : List ℕ → List ℕ → PartyInput
  other x d = peer_input k s number keys0 keys1 inputs x d

  abbrev Faces : List ℕ → List ℕ → PartyInput → Type 0
  Faces x d h = Facing k s serial (N x d) (multipliers keys0 keys1) (plain_opening k s d x) h (other x d)

  faced : (x d : List ℕ) → Secret s x → Possible k s d → Faces x d (own d)
  faced x d hx hd = facing k joins laws s serial keys0 keys1 f number u x inputs d hx hi hd

  module _ (alike : answer_of s x ≡ answer_of s x') (d : List ℕ) (hd : Possible k s d) (w : JointState) (start : Start k serial w) where
    abbrev d' : List ℕ
    d' = There x x' d

    possible : Possible k s d'
    possible = pairs.possible s number keys0 keys1 x x' d f.settings hx hx' hd

    -- the observer's input is the same
    same_input : own d' ≡ own d
    same_input =
        ap (λ (book : List ℕ). record { number = number; keys = cond (eqb number 0) keys0 keys1; inputs = inputs; book = book })
        (pairs.same_book s number keys0 keys1 x x' d f.settings u hx hx' hd)

    same_log : (calls : List ScheduledCall) → observations k s serial (own d) (other x d) w calls ≡ observations k s serial (own d) (other x' d') w calls
    same_log =
        log-same joins k s serial (multipliers keys0 keys1) (multipliers keys0 keys1) (N x d) (N x' d')
        (λ r l. sym (pairs.same_openings s number keys0 keys1 x x' d f.settings hx hx' hd alike r l))
        (plain_opening k s d x) (plain_opening k s d' x') (own d) (other x d) (other x' d')
        (faced x d hx hd) (subst (λ h. Faces x' d' h) same_input (faced x' d' hx' possible))
        u w
        (λ calls. progress_law s serial keys0 keys1 f number u x inputs d hx hi hd w start calls)
        (λ calls. subst (λ h. joint_after k s serial h (other x' d') w calls ≡ joint_at k s serial (N x' d') h (other x' d') w (counts_after k s number none calls)) same_input
        (progress_law s serial keys0 keys1 f number u x' inputs d' hx' hi possible w start calls))

    same_record : (calls : List ScheduledCall) → record_of k s serial (own d) (other x d) w calls ≡ record_of k s serial (own d') (other x' d') w calls
    same_record calls =
        subst (λ h. record_of k s serial (own d) (other x d) w calls ≡ record_of k s serial h (other x' d') w calls) (sym same_input)
        (ap (λ (log : List Observation). record { keys = (own d).keys; inputs = inputs; book = (own d).book; log = log }) (same_log calls))

pub demand3 : (k : ℕ) → SlicesJoin → PlainRun → Laws → Progress k → Demand3 k
demand3 k joins plain-run-law laws progress_law s serial keys0 keys1 f number u inputs x x' hi hx hx' alike =
    let pairs = pairing_laws k plain-run-law in
    record {
      there = λ d. paired (terms_of s) (width_of k) x x' number (multipliers keys0 keys1) d;
      back = λ d. paired (terms_of s) (width_of k) x' x number (multipliers keys0 keys1) d;
      there_possible = λ d hd. pairs.possible s number keys0 keys1 x x' d f.settings hx hx' hd;
      back_possible = λ d hd. pairs.possible s number keys0 keys1 x' x d f.settings hx' hx hd;
      back_there = λ d hd. pairs.back s number keys0 keys1 x x' d f.settings hx hx' hd;
      there_back = λ d hd. pairs.back s number keys0 keys1 x' x d f.settings hx' hx hd;
      same_records = λ d hd w start calls. same_record k joins progress_law pairs laws s serial keys0 keys1 f number u inputs x x' hi hx hx' alike d hd w start calls;
    }
