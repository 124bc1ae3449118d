-- `settings::ask_shape` meets its contract. Assumes nothing.
use Rattle.settings.specs.Questions.{ask_shape}
use Rattle.lists.proofs.Questions.{walk}
use Rattle.settings.proofs.ask_shape.Goals as goal
use Rattle.settings.proofs.ask_shape.Goals.{then-shape-ge2-via-then-shape-ge2, then-shape-ge2-via-else-shape-ge2+then-shape-ge2-2, then-shape-lt1-via-then-shape-lt1, then-shape-lt1-via-else-shape-lt1+then-shape-gt8}

pub returns-then-shape-ge2 : goal.returns-then-shape-ge2
unfolding ask_shape
returns-then-shape-ge2 c =
    elim c.then-shape-ge2.branch [ then-shape-ge2-via-then-shape-ge2 w ↦ search walk depth 20 | then-shape-ge2-via-else-shape-ge2+then-shape-ge2-2 w ↦ search walk depth 20 ]

pub returns-then-shape-lt1 : goal.returns-then-shape-lt1
unfolding ask_shape
returns-then-shape-lt1 c =
    elim c.then-shape-lt1.branch [ then-shape-lt1-via-then-shape-lt1 w ↦ search walk depth 20 | then-shape-lt1-via-else-shape-lt1+then-shape-gt8 w ↦ search walk depth 20 ]

pub returns : goal.returns
unfolding ask_shape
returns c = search walk depth 20
