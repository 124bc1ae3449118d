-- Demand 1, as a type: each call refuses by the first no of its questions and by nothing else; a refusal changes nothing; only a
-- failed check stops a side. What a call that is not refused leaves is an equation at its function.
use Rattle.std.specs.Prelude.{ℕ, ◌<◌, ◌≡◌, ◌≢◌, Bool, true, false, not, ◌||◌, List, [], length, get_or}
use Rattle.settings.specs.declared.Shape.{Shape}
use Rattle.settings.specs.declared.Settings.{Settings}
use Rattle.settings.specs.Refusals.{Outcome, Gives, No}
use Rattle.rounding.specs.Calls.{parts_call, verdict_call}
use Rattle.message.specs.Message.{form_no}
use Rattle.dealer.specs.Deal.{deal_call}
use Rattle.stock.specs.Stock.{choose_no, chosen}
use Rattle.generator.specs.Calls.{seed_call, draw_call}
use Rattle.ring.specs.Calls.{ring_call, transform_call, transformed_call}
use Rattle.state.specs.declared.Side.{Side}
use Rattle.state.specs.declared.Phase.TheVariants.{Stopped}
use Rattle.state.specs.State.{under_way, finished, in_phase, answer_call}
use Rattle.side.specs.declared.Run.{Run}
use Rattle.side.specs.Side.{begin_call, send_call, take_call}
use Rattle.refusals.specs.Questions.{Question, asks, parts_questions, verdict_questions, form_questions, deal_questions, choose_questions}
use Rattle.refusals.specs.Questions.{seed_questions, draw_questions, ring_questions, transform_questions}
use Rattle.refusals.specs.Questions.{begin_questions, send_questions, take_questions, answer_questions}

-- ---- "Each call asks its questions in the order given; the first no decides"

abbrev pub number_at : List Question → ℕ → ℕ
number_at questions i = (get_or questions i (asks 0 true)).number

abbrev pub yes_at : List Question → ℕ → Bool
yes_at questions i = (get_or questions i (asks 0 true)).answer

-- question i, number `refusal` of the request, is answered no, and all before it are answered yes
pub record FirstNo (questions : List Question) (refusal i : ℕ) : Type 0 where
  pub inside : i < length questions
  pub number_is : number_at questions i ≡ refusal
  pub answered_no : yes_at questions i ≡ false
  pub before : (j : ℕ) → j < i → yes_at questions j ≡ true

-- 0: every question is answered yes; else the first no is that question
pub record Decides (questions : List Question) (refusal : ℕ) : Type 0 where
  pub accepted : refusal ≡ 0 → (i : ℕ) → i < length questions → yes_at questions i ≡ true
  pub refused : refusal ≢ 0 → (i : ℕ) × FirstNo questions refusal i

-- ---- What a refusal leaves

-- a call without a side. unchanged: every lent slice is as it was, and what is given back is empty
pub record Refuses (questions : List Question) (refusal : ℕ) (unchanged : Type 0) : Type 0 where
  pub decides : Decides questions refusal
  pub changes_nothing : refusal ≢ 0 → unchanged

-- no run under way, and none finished: so also "Kept fields that break 1 to 4, serial 0, or a round outside 1 to 7"
abbrev pub stopped : Side → Bool
stopped s = not (under_way s || finished s)

-- a call that takes the side from `before` to `after`: "A no returns its number, with side, buffers and last serial unchanged; only 13
-- also marks the side stopped"
pub record RefusesSide (questions : List Question) (refusal : ℕ) (before after : Side) (unchanged : Type 0) : Type 0 where
  pub decides : Decides questions refusal
  pub changes_nothing : refusal ≢ 0 → unchanged
  pub keeps_side : refusal ≢ 0 → refusal ≢ 13 → after ≡ before
  pub thirteen_stops : refusal ≡ 13 → after ≡ in_phase before Stopped
  -- 13 is the only way to stopped: a call that is not refused leaves no stopped side
  pub goes_on : refusal ≡ 0 → stopped after ≡ false

-- ---- Demand 1, k keys a side

-- the number of the first no of a call, or 0
abbrev pub refusal_of : {A : Type 0} → Outcome A → ℕ
refusal_of (Gives x) = 0
refusal_of (No n) = n

pub record Demand1 (k : ℕ) : Type 0 where
  pub parts : (set w : ℕ) → Decides (parts_questions set w) (refusal_of (parts_call set w))
  pub verdict : (set bound : ℕ) (ws : List ℕ) → Decides (verdict_questions set bound ws) (refusal_of (verdict_call set bound ws))
  pub form : (receiver : ℕ) (s : Settings) (round serial : ℕ) (message : List ℕ)
      → Decides (form_questions k receiver s round serial message) (form_no k receiver s round serial message)
  pub deal : (a : Shape) (keys0 keys1 draw server phone : List ℕ)
      → let r = deal_call k a keys0 keys1 draw server phone in
      Refuses (deal_questions k a keys0 keys1 draw server phone) r.refused ((r.server ≡ server) × (r.phone ≡ phone))
  pub choose : (a : Shape) (first second : List ℕ) (last : ℕ)
      → Refuses (choose_questions k a first second last) (choose_no k a first second last) (chosen k a first second last ≡ [])
  pub seed : (seed : ℕ) → Decides (seed_questions seed) (refusal_of (seed_call seed))
  pub draw : (state : ℕ) (a : Shape) (out : List ℕ)
      → let r = draw_call k state a out in
      Refuses (draw_questions k a out) r.refused ((r.state ≡ state) × (r.out ≡ out))
  pub product : (public row out : List ℕ)
      → let r = ring_call public row out in
      Refuses (ring_questions public row out) r.refused (r.out ≡ out)
  pub transform : (public out : List ℕ)
      → let r = transform_call public out in
      Refuses (transform_questions public out) r.refused (r.out ≡ out)
  pub product_transformed : (transformed row out : List ℕ)
      → let r = transformed_call transformed row out in
      Refuses (ring_questions transformed row out) r.refused (r.out ≡ out)
  pub begin : (s : Side) (run : Run) (inputs book work : List ℕ)
      → let r = begin_call k s run inputs book work in
      RefusesSide (begin_questions k s run inputs book work) r.done.refused s r.done.side (r.work ≡ work)
  pub send : (s : Side) (work out : List ℕ)
      → let r = send_call k s work out in
      RefusesSide (send_questions k s work out) r.sent.refused s r.sent.side ((r.sent.length ≡ 0) × (r.out ≡ out))
  pub take : (s : Side) (work message : List ℕ)
      → let r = take_call k s work message in
      RefusesSide (take_questions k s work message) r.done.refused s r.done.side (r.work ≡ work)
  -- the side is only read
  pub answer : (s : Side) (out : List ℕ)
      → let r = answer_call s out in
      RefusesSide (answer_questions s out) r.result.refused s s ((r.result.length ≡ 0) × (r.out ≡ out))
