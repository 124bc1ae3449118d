-- `settings::draw_size` meets its contract.
use Rattle.settings.proofs.Ready.{ok_ready}
use Rattle.settings.specs.Sizes.{draw_size}
use mathlib.Core.Path.{sym, ◌∙◌}
use Rattle.lists.proofs.Choices.{choices}
use Rattle.settings.proofs.draw_size.Goals as goal

pub returns-then-not-shape_ok : goal.returns-then-not-shape_ok
unfolding draw_size
returns-then-not-shape_ok c = search choices

pub draw_length-requires : goal.draw_length-requires
draw_length-requires c = let r = ok_ready c.args.shape (sym c.shape_ok.ensures ∙ c.if-not-shape_ok.false) in (r.sets, r.most)

pub returns : goal.returns
unfolding draw_size
returns c = search choices
