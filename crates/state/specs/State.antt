-- A side: its kept fields, what is due, its answer and its opening count.
use Rattle.std.specs.Prelude.{ℕ, ◌≤◌, ◌<◌, ◌≡◌, Bool, true, false, cond, ◌&&◌, ◌||◌, List, eqb, leb, length, get_or, replicate, Result, Ok, Err}
use Rattle.lists.specs.Answers.{ask}
use Rattle.lists.specs.Lists.{list_to, all_below, in_front}
use Rattle.settings.specs.Sizes.{key_count, openings_up_to, answer_places}
use Rattle.settings.specs.Questions.{ask_settings, keys_ok, Ready}
use Rattle.settings.specs.Schedule.{rounds, steps, round_ok, goes_on, round_after, sends_after, taken_by, steps_in}
use Rattle.settings.specs.Settings.{Params, params_in, settings_with}
use Rattle.settings.specs.declared.Refusal.{Refusal}
use Rattle.state.specs.declared.Side.{Side}
use Rattle.state.specs.declared.Phase.{Phase}
use Rattle.state.specs.declared.Phase.TheVariants.{Sending, Taking, Stopped, Finished}

-- ---- States

abbrev pub is_sending : Phase → Bool
is_sending Sending = true
is_sending Taking = false
is_sending Stopped = false
is_sending Finished = false

abbrev pub is_taking : Phase → Bool
is_taking Sending = false
is_taking Taking = true
is_taking Stopped = false
is_taking Finished = false

abbrev pub is_stopped : Phase → Bool
is_stopped Sending = false
is_stopped Taking = false
is_stopped Stopped = true
is_stopped Finished = false

abbrev pub is_finished : Phase → Bool
is_finished Sending = false
is_finished Taking = false
is_finished Stopped = false
is_finished Finished = true

-- is a phase, the second, this one?
abbrev pub is_phase : Phase → Phase → Bool
is_phase Sending = is_sending
is_phase Taking = is_taking
is_phase Stopped = is_stopped
is_phase Finished = is_finished

-- "Kept fields that break 1 to 4, serial 0, or a round outside 1 to 7 count as stopped"
unfoldable pub whole : Side → Bool
whole s =
    eqb
    (ask_settings s.number s.settings
    (ask (keys_ok s.keys) 4
    (ask (leb 1 s.serial && round_ok s.round) 8
    0)))
    0

-- whole, and in this phase
abbrev pub stands : Side → Phase → Bool
stands s phase = whole s && is_phase phase s.phase

unfoldable pub send_due : Side → Bool
send_due s = whole s && is_sending s.phase

unfoldable pub take_due : Side → Bool
take_due s = whole s && is_taking s.phase

unfoldable pub under_way : Side → Bool
under_way s = send_due s || take_due s

unfoldable pub finished : Side → Bool
finished s = whole s && is_finished s.phase

-- what the kept fields of a side are whose call is due
pub record Whole (s : Side) : Type 0 where
  pub side2 : s.number < 2
  pub ready : Ready s.settings
  pub keys : keys_ok s.keys ≡ true
  pub begun : 1 ≤ s.serial
  pub round_some : 1 ≤ s.round
  pub round_most : s.round ≤ rounds

-- a side at first: "(0 at first)"
abbrev pub fresh_side : Side
fresh_side =
    record { number = 0; settings = settings_with 0 0 0 0; keys = replicate key_count 0; serial = 0; round = 0; phase = Stopped; answer = replicate 8 0 }

-- the side at another round, in another phase, with another answer
abbrev pub moved : Side → ℕ → Phase → List ℕ → Side
moved s round phase answer =
    record { number = s.number; settings = s.settings; keys = s.keys; serial = s.serial; round = round; phase = phase; answer = answer }

-- the side in another phase
abbrev pub in_phase : Side → Phase → Side
in_phase s phase = moved s s.round phase s.answer

-- ---- Steps

-- the steps that a side has made in its latest run. A stopped side stopped at a take
unfoldable pub step_of : Side → ℕ
step_of s = cond (is_finished s.phase) steps (steps_in s.number s.round (is_sending s.phase))

-- the phase of side `number` after m steps
unfoldable pub phase_after : ℕ → ℕ → Phase
phase_after number m =
    cond (goes_on m)
    (cond (sends_after number m) Sending Taking)
    Finished

-- the side after m steps, with another answer
abbrev pub at_step : Side → ℕ → List ℕ → Side
at_step s m answer = moved s (round_after m) (phase_after s.number m) answer

-- ---- Answer

-- how many places its answer has, by side, settings and kept answer: "N places for HIGH, 1 for BOUND"
abbrev pub places_of : Side → ℕ
places_of s = answer_places (params_in s.settings)

-- the answer that a finished side holds
abbrev pub held_answer : Side → List ℕ
held_answer s = list_to (places_of s) (λ (j : ℕ). get_or s.answer j 0)

-- request One: "a HIGH answer must be below s and a verdict 0 or 1": what the numbers of an answer are below
abbrev pub answer_limit : Params → ℕ
answer_limit p = cond (eqb p.kind 0) p.scale.parts 2

-- 15. "Is every opened answer in range?"
unfoldable pub in_range : Side → Bool
in_range s = all_below (answer_limit (params_in s.settings)) (held_answer s)

-- "Answer: 8 (run finished), 9", and 15 "after 8 and before 9"
unfoldable pub answer_no : Side → List ℕ → ℕ
answer_no s out =
    ask (finished s) 8
    (ask (in_range s) 15
    (ask (leb (places_of s) (length out)) 9
    0))

-- what the answer call gives: the number of the first no, or 0, and how many places it wrote
pub record AnswerResult : Type 0 where
  pub refused : ℕ
  pub length : ℕ

-- how much a call has written that gives the length: nothing, where it refuses
abbrev pub written : Result ℕ Refusal → ℕ
written (Ok length) = length
written (Err e) = 0

pub record AfterAnswer : Type 0 where
  pub result : AnswerResult
  pub out : List ℕ

abbrev pub after_answer : ℕ → ℕ → List ℕ → AfterAnswer
after_answer refused count out = record { result = record { refused = refused; length = count }; out = out }

unfoldable pub answer_call : Side → List ℕ → AfterAnswer
answer_call s out =
    let refusal = answer_no s out in
    cond (eqb refusal 0)
    (after_answer 0 (places_of s) (in_front (held_answer s) out))
    (after_answer refusal 0 out)

-- ---- Opening count

-- rounds whose openings were accepted in the latest run
unfoldable pub rounds_taken : Side → ℕ
rounds_taken s = taken_by s.number (step_of s)

-- "worked out from its settings and the rounds taken; 0 if none has begun or kept fields are broken"
unfoldable pub count_call : Side → ℕ
count_call s = cond (whole s) (openings_up_to (params_in s.settings) (rounds_taken s)) 0
