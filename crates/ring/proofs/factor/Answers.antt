-- `ring::factor` meets its contract: the list in the source is the list that the rule gives, which is computed once at all 256 entries.
use mathlib.Core.Path.{refl}
use Rattle.lists.specs.Lists.{list_from}
use Rattle.ring.specs.Factors.{reversed, factor, factor_list}
use Rattle.ring.proofs.Table.{entry}
use Rattle.ring.proofs.factor.Goals as goal

pub returns : goal.returns
unfolding list_from reversed factor factor_list
returns c = (entry _ c.args.i refl c.requires).0
