-- Names for what the working functions of a side leave, between the calls' own definitions.
use Rattle.std.specs.Prelude.{ℕ, Bool, List, eqb, length, get_or}
use Rattle.lists.specs.Answers.{ask}
use Rattle.lists.specs.Lists.{list_to, all_below}
use Rattle.field.specs.Field.{q}
use Rattle.settings.specs.Sizes.{openings, work_length}
use Rattle.settings.specs.Settings.{params_in}
use Rattle.message.specs.Message.{ask_form}
use Rattle.state.specs.declared.Side.{Side}
use Rattle.opening.specs.Opening.{due_header}
use Rattle.state.specs.State.{take_due}

-- questions 8, 5 and 6, and then the rest
abbrev pub ask_work : ℕ → Bool → List ℕ → ℕ → ℕ
ask_work k due work rest =
    ask due 8
    (ask (eqb (length work) (work_length k)) 5
    (ask (all_below q work) 6
    rest))

-- questions 8, 5, 6 and 10 to 12
unfoldable pub take_door : ℕ → Side → List ℕ → List ℕ → ℕ
take_door k s work msg =
    ask_work k (take_due s) work
    (ask_form k (due_header s) msg
    0)

-- the numbers of a round's openings that a list holds in front
abbrev pub front_of : Side → List ℕ → List ℕ
front_of s numbers = list_to (openings (params_in s.settings) s.round) (λ (o : ℕ). get_or numbers o 0)
