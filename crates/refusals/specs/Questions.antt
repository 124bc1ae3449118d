-- "Questions at the door": which call asks which questions, in its order, each with its number and its answer.
-- k is the number of keys a side.
use Rattle.std.specs.Prelude.{ℕ, ◌*◌, ◌-◌, ◌%◌, Bool, not, ◌&&◌, List, [], ◌∷◌, eqb, leb, ltb, length}
use Rattle.lists.specs.Lists.{all_below, all_to}
use Rattle.field.specs.Field.{q}
use Rattle.settings.specs.declared.Shape.{Shape}
use Rattle.settings.specs.declared.Settings.{Settings}
use Rattle.settings.specs.Settings.{params_of, params_in}
use Rattle.settings.specs.Questions.{is_bit, count_ok, bound_ok, keys_ok}
use Rattle.settings.specs.Schedule.{round_ok}
use Rattle.settings.specs.Sizes.{width_of, shared, draw_length, work_length, openings, field_count, message_length}
use Rattle.message.specs.declared.Header.{Header}
use Rattle.message.specs.Message.{header_in, header_number, header_with, fields_ok}
use Rattle.stock.specs.Stock.{stocked_size, both_stocks, is_above, some_of}
use Rattle.state.specs.declared.Side.{Side}
use Rattle.state.specs.State.{send_due, take_due, under_way, finished, places_of, in_range}
use Rattle.opening.specs.Opening.{due_header, passes}
use Rattle.side.specs.declared.Run.{Run}

-- a question that a call asks: its number in the request, and whether the answer is yes
pub record Question : Type 0 where
  pub number : ℕ
  pub answer : Bool

abbrev pub asks : ℕ → Bool → Question
asks number answer = record { number = number; answer = answer }

-- ---- Level One

-- "Plain: 1, .. 6": the parts of one number
abbrev pub parts_questions : ℕ → ℕ → List Question
parts_questions set w =
    asks 1 (is_bit set)
    ∷ asks 6 (ltb w q)
    ∷ []

-- "Plain: 1, 3 (verdict), 6"; "1 to 8 numbers, else 2, asked after 1"
abbrev pub verdict_questions : ℕ → ℕ → List ℕ → List Question
verdict_questions set bound ws =
    asks 1 (is_bit set)
    ∷ asks 2 (count_ok (length ws))
    ∷ asks 3 (bound_ok 1 bound)
    ∷ asks 6 (all_below q ws)
    ∷ []

-- ---- Messages

-- "10 to 12", of a message that is to have the header `due`; the questions behind them follow
abbrev pub form_of : ℕ → Header → List ℕ → List Question → List Question
form_of k due message rest =
    let p = params_of due.settings.shape in
    let fields = field_count k p due.round in
    asks 10 (eqb (length message) (message_length k p due.round))
    ∷ asks 11 (eqb (header_in fields message) (header_number due))
    ∷ asks 12 (fields_ok fields message)
    ∷ rest

-- "Form test: 1, 2, 3, 8 (round 1 to 7, serial above 0), 10 to 12"
abbrev pub form_questions : ℕ → ℕ → Settings → ℕ → ℕ → List ℕ → List Question
form_questions k receiver s round serial message =
    asks 1 (is_bit receiver && is_bit s.shape.set && is_bit s.shape.kind)
    ∷ asks 2 (count_ok s.shape.n)
    ∷ asks 3 (bound_ok s.shape.kind s.bound)
    ∷ asks 8 (round_ok round && leb 1 serial)
    ∷ form_of k (header_with (1 - receiver) s round serial) message []

-- ---- Level Three

-- "Deal: 1, 2, 4, 5, 6"
abbrev pub deal_questions : ℕ → Shape → List ℕ → List ℕ → List ℕ → List ℕ → List ℕ → List Question
deal_questions k a keys0 keys1 draw server phone =
    let p = params_of a in
    asks 1 (is_bit a.set && is_bit a.kind)
    ∷ asks 2 (count_ok a.n)
    ∷ asks 4 (keys_ok keys0 && keys_ok keys1)
    ∷ asks 5
    (eqb (length draw) (draw_length p (width_of k))
    && eqb (length server) (shared p * width_of k)
    && eqb (length phone) (shared p * width_of k))
    ∷ asks 6 (all_below q draw)
    ∷ []

-- "Choose: 1, 2, 5, 14"
abbrev pub choose_questions : ℕ → Shape → List ℕ → List ℕ → ℕ → List Question
choose_questions k a first second last =
    let size = stocked_size k a in
    asks 1 (is_bit a.set && is_bit a.kind)
    ∷ asks 2 (count_ok a.n)
    ∷ asks 5 (eqb (length first % size) 0 && eqb (length second % size) 0)
    ∷ asks 14 (some_of (is_above last) (both_stocks size first second))
    ∷ []

-- ---- The generator for tests

-- "16, is the seed non-zero, asked first by the call that makes a generator"
abbrev pub seed_questions : ℕ → List Question
seed_questions seed = asks 16 (ltb 0 seed) ∷ []

-- "The draw's own questions are 1, 2 and 5"
abbrev pub draw_questions : ℕ → Shape → List ℕ → List Question
draw_questions k a out =
    asks 1 (is_bit a.set && is_bit a.kind)
    ∷ asks 2 (count_ok a.n)
    ∷ asks 5 (eqb (length out) (draw_length (params_of a) (width_of k)))
    ∷ []

-- ---- Products in the ring

-- "Lengths other than 256 are question 5, numbers not below q question 6" (02): of both factors, and of the output's length
abbrev pub ring_questions : List ℕ → List ℕ → List ℕ → List Question
ring_questions public row out =
    asks 5 (eqb (length public) 256 && eqb (length row) 256 && eqb (length out) 256)
    ∷ asks 6 (all_below q public && all_below q row)
    ∷ []

-- the same of the public factor alone
abbrev pub transform_questions : List ℕ → List ℕ → List Question
transform_questions public out =
    asks 5 (eqb (length public) 256 && eqb (length out) 256)
    ∷ asks 6 (all_below q public)
    ∷ []

-- ---- Level Two

-- "Begin: 8 (no run under way), 1 to 7"
abbrev pub begin_questions : ℕ → Side → Run → List ℕ → List ℕ → List ℕ → List Question
begin_questions k s r inputs book work =
    let p = params_in r.settings in
    asks 8 (not (under_way s))
    ∷ asks 1 (is_bit r.number && is_bit r.settings.shape.set && is_bit r.settings.shape.kind)
    ∷ asks 2 (count_ok r.settings.shape.n)
    ∷ asks 3 (bound_ok r.settings.shape.kind r.settings.bound)
    ∷ asks 4 (keys_ok r.keys)
    ∷ asks 5
    (eqb (length inputs) (p.n * width_of k)
    && eqb (length book) (shared p * width_of k)
    && eqb (length work) (work_length k))
    ∷ asks 6 (all_below q inputs && all_below q book)
    ∷ asks 7 (ltb s.serial r.serial)
    ∷ []

-- "Send: 8, 5, 6, 9"
abbrev pub send_questions : ℕ → Side → List ℕ → List ℕ → List Question
send_questions k s work out =
    asks 8 (send_due s)
    ∷ asks 5 (eqb (length work) (work_length k))
    ∷ asks 6 (all_below q work)
    ∷ asks 9 (leb (message_length k (params_in s.settings) s.round) (length out))
    ∷ []

-- "Take: 8, 5, 6, 10 to 13"
abbrev pub take_questions : ℕ → Side → List ℕ → List ℕ → List Question
take_questions k s work message =
    asks 8 (take_due s)
    ∷ asks 5 (eqb (length work) (work_length k))
    ∷ asks 6 (all_below q work)
    ∷ form_of k (due_header s) message
    (asks 13 (all_to (openings (params_in s.settings) s.round) (passes k s work message))
    ∷ [])

-- "Answer: 8 (run finished), 9", and 15 "after 8 and before 9"
abbrev pub answer_questions : Side → List ℕ → List Question
answer_questions s out =
    asks 8 (finished s)
    ∷ asks 15 (in_range s)
    ∷ asks 9 (leb (places_of s) (length out))
    ∷ []
