-- The calls: the first no, and all that comes out.
use Rattle.std.specs.Prelude.{ℕ, cond, List, eqb, ltb, length}
use Rattle.lists.specs.Answers.{ask}
use Rattle.field.specs.Field.{q}
use Rattle.settings.specs.declared.Shape.{Shape}
use Rattle.settings.specs.Settings.{params_of}
use Rattle.settings.specs.Questions.{ask_shape}
use Rattle.settings.specs.Sizes.{width_of, draw_length}
use Rattle.settings.specs.Refusals.{Outcome, Gives, No}
use Rattle.generator.specs.declared.Generator.{Generator}
use Rattle.generator.specs.Step.{stepped, outputs}

-- "A 32-bit generator with a non-zero seed": "16, is the seed non-zero, asked first by the call that makes a generator"
unfoldable pub seed_call : ℕ → Outcome Generator
seed_call seed = cond (ltb 0 seed) (Gives (record { state = seed })) (No 16)

-- "The draw's own questions are 1, 2 and 5", k keys a side; the lent draw is written, not read
unfoldable pub draw_no : ℕ → Shape → List ℕ → ℕ
draw_no k a out =
    ask_shape a
    (ask (eqb (length out) (draw_length (params_of a) (width_of k))) 5
    0)

-- the first no, the generator's state, and the lent draw at exit
pub record Drew : Type 0 where
  pub refused : ℕ
  pub state : ℕ
  pub out : List ℕ

-- "The draw takes each output modulo q, in the order of the book": that is the order of a draw's numbers (`Theorems.antt`, `Order`), so
-- a draw is as many outputs as it has numbers. "A refused line leaves the generator as it was, and so does a refused draw"
unfoldable pub draw_call : ℕ → ℕ → Shape → List ℕ → Drew
draw_call k state a out =
    let refusal = draw_no k a out in
    let size = draw_length (params_of a) (width_of k) in
    cond (eqb refusal 0)
    (record { refused = 0; state = stepped size state; out = outputs q state size })
    (record { refused = refusal; state = state; out = out })
