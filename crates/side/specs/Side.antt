-- Begin, send and take, as functions from what is handed in to all that comes out.
-- k is the number of keys a side.
use Rattle.std.specs.Prelude.{ℕ, suc, ◌*◌, cond, not, ◌&&◌, List, eqb, leb, ltb, length, get_or, replicate}
use Rattle.lists.specs.Answers.{ask}
use Rattle.lists.specs.Lists.{all_below, all_to, list_to, in_front}
use Rattle.field.specs.Field.{q}
use Rattle.settings.specs.Sizes.{width_of, openings, message_length, shared, work_length}
use Rattle.settings.specs.Questions.{ask_settings, keys_ok}
use Rattle.settings.specs.Schedule.{rounds, round_after}
use Rattle.settings.specs.Settings.{params_in, terms_of}
use Rattle.message.specs.Message.{ask_form}
use Rattle.slice.specs.Layout.{begun_work, weights}
use Rattle.steps.specs.Work.{taken_work}
use Rattle.state.specs.declared.Side.{Side}
use Rattle.state.specs.declared.Phase.TheVariants.{Stopped}
use Rattle.state.specs.State.{send_due, take_due, under_way, in_phase, step_of, phase_after, at_step}
use Rattle.opening.specs.Opening.{due_header, message, opened, passes}
use Rattle.side.specs.declared.Run.{Run}

-- ---- Begin

-- questions 4 to 7 of begin; question 5: inputs, book and working slice; question 6: inputs and book
unfoldable pub handed_no : ℕ → Side → Run → List ℕ → List ℕ → List ℕ → ℕ
handed_no k s r inputs book work =
    let p = params_in r.settings in
    ask (keys_ok r.keys) 4
    (ask
    (eqb (length inputs) (p.n * width_of k)
    && eqb (length book) (shared p * width_of k)
    && eqb (length work) (work_length k))
    5
    (ask (all_below q inputs && all_below q book) 6
    (ask (ltb s.serial r.serial) 7
    0)))

-- "Begin: 8 (no run under way), 1 to 7"
unfoldable pub begin_no : ℕ → Side → Run → List ℕ → List ℕ → List ℕ → ℕ
begin_no k s r inputs book work =
    ask (not (under_way s)) 8
    (ask_settings r.number r.settings
    (handed_no k s r inputs book work))

-- no step made: round 1, the server to send, the phone to take
unfoldable pub begun_side : Run → Side
begun_side r =
    record { number = r.number; settings = r.settings; keys = r.keys; serial = r.serial; round = round_after 0; phase = phase_after r.number 0; answer = replicate 8 0 }

-- what begin and take give: the number of the first no, or 0, and the side at exit
pub record Done : Type 0 where
  pub refused : ℕ
  pub side : Side

-- the same, and the lent slice at exit
pub record After : Type 0 where
  pub done : Done
  pub work : List ℕ

abbrev pub after : ℕ → Side → List ℕ → After
after refused s work = record { done = record { refused = refused; side = s }; work = work }

-- "A no returns its number, with side, buffers and last serial unchanged"
unfoldable pub begin_call : ℕ → Side → Run → List ℕ → List ℕ → List ℕ → After
begin_call k s r inputs book work =
    let refusal = begin_no k s r inputs book work in
    cond (eqb refusal 0)
    (after 0 (begun_side r) (begun_work (params_in r.settings) (width_of k) inputs book))
    (after refusal s work)

-- ---- Send

-- "Send: 8, 5, 6, 9"
unfoldable pub send_no : ℕ → Side → List ℕ → List ℕ → ℕ
send_no k s work out =
    ask (send_due s) 8
    (ask (eqb (length work) (work_length k)) 5
    (ask (all_below q work) 6
    (ask (leb (message_length k (params_in s.settings) s.round) (length out)) 9
    0)))

-- one step more: the server then takes; the phone goes to the next round, or "finishes on sending round 7"
unfoldable pub sent_side : Side → Side
sent_side s = at_step s (suc (step_of s)) s.answer

-- what send gives: also how many bytes it wrote
pub record Sent : Type 0 where
  pub refused : ℕ
  pub length : ℕ
  pub side : Side

pub record AfterSend : Type 0 where
  pub sent : Sent
  pub out : List ℕ

abbrev pub after_send : ℕ → ℕ → Side → List ℕ → AfterSend
after_send refused count s out = record { sent = record { refused = refused; length = count; side = s }; out = out }

unfoldable pub send_call : ℕ → Side → List ℕ → List ℕ → AfterSend
send_call k s work out =
    let refusal = send_no k s work out in
    cond (eqb refusal 0)
    (after_send 0 (message_length k (params_in s.settings) s.round) (sent_side s) (in_front (message k s work) out))
    (after_send refusal 0 s out)

-- ---- Take

-- "Take: 8, 5, 6, 10 to 13"
unfoldable pub take_no : ℕ → Side → List ℕ → List ℕ → ℕ
take_no k s work msg =
    ask (take_due s) 8
    (ask (eqb (length work) (work_length k)) 5
    (ask (all_below q work) 6
    (ask_form k (due_header s) msg
    (ask (all_to (openings (params_in s.settings) s.round) (passes k s work msg)) 13
    0))))

-- the opened numbers as a list
unfoldable pub opened_list : ℕ → Side → List ℕ → List ℕ → List ℕ
opened_list k s work msg = list_to (openings (params_in s.settings) s.round) (opened k s work msg)

-- "The opened answer is kept in the side": the last round opens it
abbrev pub answer_after : Side → List ℕ → List ℕ
answer_after s numbers =
    cond (eqb s.round rounds) (in_front numbers s.answer) s.answer

-- one step more: the phone then sends; the server goes to the next round, or finishes on taking round 7
unfoldable pub taken_side : Side → List ℕ → Side
taken_side s numbers = at_step s (suc (step_of s)) (answer_after s numbers)

-- "only 13 also marks the side stopped"
unfoldable pub take_call : ℕ → Side → List ℕ → List ℕ → After
take_call k s work msg =
    let refusal = take_no k s work msg in
    let numbers = opened_list k s work msg in
    cond (eqb refusal 0)
    (after 0 (taken_side s numbers)
    (taken_work (terms_of s.settings) s.round (λ (o : ℕ). get_or numbers o 0)
    (weights k s.number s.keys) work))
    (cond (eqb refusal 13)
    (after 13 (in_phase s Stopped) work)
    (after refusal s work))
