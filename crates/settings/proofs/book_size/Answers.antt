-- `settings::book_size` meets its contract.
use Rattle.settings.proofs.Ready.{ok_ready}
use Rattle.settings.specs.Sizes.{book_size}
use mathlib.Core.Path.{sym, ◌∙◌}
use Rattle.lists.proofs.Choices.{choices}
use Rattle.settings.proofs.book_size.Goals as goal

pub returns-then-not-shape_ok : goal.returns-then-not-shape_ok
unfolding book_size
returns-then-not-shape_ok c = search choices

pub shared_of-requires : goal.shared_of-requires
shared_of-requires c = let r = ok_ready c.args.shape (sym c.shape_ok.ensures ∙ c.if-not-shape_ok.false) in (r.sets, r.most)

pub returns : goal.returns
unfolding book_size
returns c = rw (← c.shared_of.ensures.0) (search choices)
