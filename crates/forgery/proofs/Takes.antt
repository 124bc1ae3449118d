-- Take's answer to a forged message, at a side whose slice follows each choice of its keys so that it takes another message.
use Prim.Native.Nat.{ℕ, suc, ◌+◌, ◌*◌, ◌≤◌, ◌<◌}
use mathlib.Core.Path.{◌≡◌, refl, sym, ap, ◌∙◌}
use mathlib.Core.Logic.{◌≢◌}
use mathlib.Core.Bool.{Bool, true, false, cond, not, true≢false}
use mathlib.Core.List.{List}
use native.Mathlib.Nat.{mul-le-mul_right}
use native.Mathlib.Omega.{arith}
use lib.Dec.{eqb}
use lib.ListN.{length}
use borrow.Author.Tests.{eqb-true}
use Rattle.lists.specs.Answers.{ask}
use Rattle.lists.specs.Lists.{all_below, all_to}
use Rattle.lists.proofs.Every.{all_to-at}
use Rattle.lists.proofs.Questions.{passed}
use Rattle.lists.proofs.Members.{refuted}
use Rattle.field.specs.Field.{q}
use Rattle.field.proofs.Congruence.{≈_eq, ≈_lt}
use Rattle.settings.specs.Settings.{params_in}
use Rattle.settings.specs.Sizes.{openings, work_length}
use Rattle.message.specs.Message.{ask_form}
use Rattle.message.proofs.Form.{Formed, form-passed, form_rest, field_below}
use Rattle.state.specs.declared.Side.{Side}
use Rattle.state.specs.State.{take_due}
use Rattle.opening.specs.Check.{accepts}
use Rattle.opening.specs.Opening.{due_header, incoming, own_given, given, passes}
use Rattle.side.specs.Side.{After, after, take_no, take_call}
use Rattle.forgery.specs.Choices.{Choice, AtMostOne, None}
use Rattle.forgery.proofs.Choices.{at_most_one, none}
use Rattle.forgery.proofs.Check.{choice_same, part-refused}

-- a side with other keys
abbrev pub with_keys : Side → List ℕ → Side
with_keys s keys =
    record { number = s.number; settings = s.settings; keys = keys; serial = s.serial; round = s.round; phase = s.phase; answer = s.answer }

-- the call answers the number of the first no
pub answer-is : (k : ℕ) (s : Side) (work msg : List ℕ) → (take_call k s work msg).done.refused ≡ take_no k s work msg
unfolding take_call
answer-is k s work msg = by (take_no k s work msg) (eqb (take_no k s work msg) 0) (eqb (take_no k s work msg) 13) _ _ refl refl refl refl
  where
    by : (n : ℕ) (zero thirteen : Bool) (taken stopped : After) → taken.done.refused ≡ 0 → stopped.done.refused ≡ 13
        → eqb n 0 ≡ zero → eqb n 13 ≡ thirteen
        → (cond zero taken (cond thirteen stopped (after n s work))).done.refused ≡ n
    by n true thirteen taken stopped a b e f = a ∙ sym (eqb-true n 0 e)
    by n false true taken stopped a b e f = b ∙ sym (eqb-true n 13 f)
    by n false false taken stopped a b e f = refl

module _ (k : ℕ) where
  abbrev count : Side → ℕ
  count s = openings (params_in s.settings) s.round

  -- ---- The questions

  -- a field of a message in due form
  incoming-below : (s : Side) (msg : List ℕ) → Formed k (due_header s) msg → (o f : ℕ) → o < count s → f < 1 + k → incoming k s msg o f < q
  unfolding incoming
  incoming-below s msg h o f l m =
      let inside : suc o * (1 + k) ≤ count s * (1 + k) = mul-le-mul_right (1 + k) l in
      field_below k (due_header s) msg h (o * (1 + k) + f) (omega (arith, inside))

  module _ (s : Side) (work msg : List ℕ) where
    abbrev checks : Bool
    checks = all_to (count s) (passes k s work msg)

    -- all questions of take say yes
    record Passed : Type 0 where
      eight : take_due s ≡ true
      five : eqb (length work) (work_length k) ≡ true
      six : all_below q work ≡ true
      formed : Formed k (due_header s) msg
      thirteen : checks ≡ true

    through : take_no k s work msg ≡ 0 → Passed
    unfolding take_no
    through e =
        let a = passed (take_due s) 7 _ e in
        let b = passed (eqb (length work) (work_length k)) 4 _ a.1 in
        let c = passed (all_below q work) 5 _ b.1 in
        let d = form-passed k (due_header s) msg _ c.1 in
        record { eight = a.0; five = b.0; six = c.0; formed = d.0; thirteen = (passed checks 12 0 d.1).0 }

  -- a message that is taken is in due form
  pub taken-formed : (s : Side) (work msg : List ℕ) → (take_call k s work msg).done.refused ≡ 0 → ask_form k (due_header s) msg 0 ≡ 0
  taken-formed s work msg e = form_rest k (due_header s) msg (through s work msg (sym (answer-is k s work msg) ∙ e)).formed 0

  -- at a side and slice that take a message, another in due form is left to question 13
  left_to_check : (s : Side) (work msg other : List ℕ) → Passed s work msg → Formed k (due_header s) other
      → take_no k s work other ≡ ask (checks s work other) 13 0
  unfolding take_no ask
  left_to_check s work msg other p f = rw (p.eight, p.five, p.six, form_rest k (due_header s) other f (ask (checks s work other) 13 0))

  -- an opening that passed
  check-at : (s : Side) (work msg : List ℕ) → checks s work msg ≡ true → (o : ℕ) → o < count s
      → accepts k s.keys (own_given k s work o) (given k s msg o) ≡ true
  unfolding passes
  check-at s work msg h o l = all_to-at (count s) (passes k s work msg) o h l

  -- ---- A forged message

  module _ (s : Side) (work : List ℕ → List ℕ) (msg : List ℕ)
      (takes : (keys : List ℕ) → Choice k keys → take_no k (with_keys s keys) (work keys) msg ≡ 0)
      (forged : List ℕ) (formed : ask_form k (due_header s) forged 0 ≡ 0) (o : ℕ) (l : o < count s) where
    form_of : Formed k (due_header s) forged
    form_of = (form-passed k (due_header s) forged 0 formed).0

    at : (keys : List ℕ) → Choice k keys → Passed (with_keys s keys) (work keys) msg
    at keys c = through (with_keys s keys) (work keys) msg (takes keys c)

    abbrev checks_under : List ℕ → Bool
    checks_under keys = checks (with_keys s keys) (work keys) forged

    answer_under : (keys : List ℕ) → Choice k keys → take_no k (with_keys s keys) (work keys) forged ≡ ask (checks_under keys) 13 0
    answer_under keys c = left_to_check (with_keys s keys) (work keys) msg forged (at keys c) form_of

    -- another share: two choices under which all openings pass are one
    one_passes : (given k s forged o).share ≢ (given k s msg o).share
        → (a b : List ℕ) → Choice k a → Choice k b → checks_under a ≡ true → checks_under b ≡ true → a ≡ b
    unfolding incoming
    one_passes differ a b ca cb ha hb =
        choice_same k a b (own_given k (with_keys s a) (work a) o) (own_given k (with_keys s b) (work b) o) (given k s msg o) (given k s forged o) ca cb
        (λ e. differ (≈_lt e (incoming-below s forged form_of o 0 l (omega arith)) (incoming-below s msg (at a ca).formed o 0 l (omega arith))))
        (check-at (with_keys s a) (work a) msg (at a ca).thirteen o l)
        (check-at (with_keys s a) (work a) forged ha o l)
        (check-at (with_keys s b) (work b) msg (at b cb).thirteen o l)
        (check-at (with_keys s b) (work b) forged hb o l)

    -- the same share and another part: none passes
    none_passes : (given k s forged o).share ≡ (given k s msg o).share
        → (key : ℕ) → key < k → (given k s forged o).part key ≢ (given k s msg o).part key
        → (keys : List ℕ) → Choice k keys → checks_under keys ≡ false
    unfolding incoming
    none_passes same key m differ keys c =
        refuted (checks_under keys) (λ h. true≢false (
        sym (check-at (with_keys s keys) (work keys) forged h o l)
        ∙ part-refused k keys (own_given k (with_keys s keys) (work keys) o) (given k s msg o) (given k s forged o) key m (≈_eq same)
        (λ e. differ (≈_lt e (incoming-below s forged form_of o (1 + key) l (omega arith)) (incoming-below s msg (at keys c).formed o (1 + key) l (omega arith))))
        (check-at (with_keys s keys) (work keys) msg (at keys c).thirteen o l)))

  -- ---- The same for a side that has these keys by an equation

  not_thirteen : (b : Bool) → not (eqb (ask b 13 0) 13) ≡ b
  unfolding ask
  not_thirteen true = refl
  not_thirteen false = refl

  module _ (s : Side) (side_of : List ℕ → Side) (work : List ℕ → List ℕ) (msg : List ℕ)
      (keyed : (keys : List ℕ) → Choice k keys → side_of keys ≡ with_keys s keys)
      (takes : (keys : List ℕ) → Choice k keys → (take_call k (side_of keys) (work keys) msg).done.refused ≡ 0)
      (forged : List ℕ) (formed : ask_form k (due_header s) forged 0 ≡ 0) (o : ℕ) (l : o < count s) where
    -- take does not answer 13
    abbrev passes_under : List ℕ → Bool
    passes_under keys = not (eqb (take_call k (side_of keys) (work keys) forged).done.refused 13)

    taken : (keys : List ℕ) → Choice k keys → take_no k (with_keys s keys) (work keys) msg ≡ 0
    taken keys c =
        sym (answer-is k (with_keys s keys) (work keys) msg)
        ∙ ap (λ (side : Side). (take_call k side (work keys) msg).done.refused) (sym (keyed keys c))
        ∙ takes keys c

    passes-is : (keys : List ℕ) → Choice k keys → passes_under keys ≡ checks (with_keys s keys) (work keys) forged
    passes-is keys c =
        ap (λ (side : Side). not (eqb (take_call k side (work keys) forged).done.refused 13)) (keyed keys c)
        ∙ ap (λ (n : ℕ). not (eqb n 13)) (answer-is k (with_keys s keys) (work keys) forged ∙ answer_under s work msg taken forged formed o l keys c)
        ∙ not_thirteen (checks (with_keys s keys) (work keys) forged)

    pub share_law : (given k s forged o).share ≢ (given k s msg o).share → AtMostOne k passes_under
    share_law differ =
        at_most_one k passes_under (λ a b ca cb ha hb.
        one_passes s work msg taken forged formed o l differ a b ca cb (sym (passes-is a ca) ∙ ha) (sym (passes-is b cb) ∙ hb))

    pub part_law : (given k s forged o).share ≡ (given k s msg o).share
        → (key : ℕ) → key < k → (given k s forged o).part key ≢ (given k s msg o).part key → None k passes_under
    part_law same key m differ =
        none k passes_under (λ keys c. passes-is keys c ∙ none_passes s work msg taken forged formed o l same key m differ keys c)
