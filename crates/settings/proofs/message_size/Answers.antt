-- `settings::message_size` meets its contract.
use Rattle.settings.proofs.Ready.{ok_ready}
use Rattle.settings.specs.Sizes.{message_size}
use mathlib.Core.Path.{sym, ◌∙◌}
use Rattle.lists.proofs.Choices.{choices}
use Rattle.lists.proofs.Questions.{walk}
use Rattle.settings.proofs.message_size.Goals as goal
use Rattle.settings.proofs.message_size.Goals.{then-round-lt1-via-then-round-lt1, then-round-lt1-via-else-round-lt1+then-round-gt-ROUNDS}

pub returns-then-not-shape_ok : goal.returns-then-not-shape_ok
unfolding message_size
returns-then-not-shape_ok c = search (choices, walk) depth 8

pub returns-then-round-lt1 : goal.returns-then-round-lt1
unfolding message_size
returns-then-round-lt1 c =
    elim c.then-round-lt1.branch [ then-round-lt1-via-then-round-lt1 w ↦ search (choices, walk) depth 8 | then-round-lt1-via-else-round-lt1+then-round-gt-ROUNDS w ↦ search (choices, walk) depth 8 ]

pub message_length-requires : goal.message_length-requires
message_length-requires c = (ok_ready c.args.shape (sym c.shape_ok.ensures ∙ c.if-not-shape_ok.false)).most

pub returns : goal.returns
unfolding message_size
returns c = search (choices, walk) depth 8
