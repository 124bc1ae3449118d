-- `slice::weights_of` meets its contract.
use mathlib.Core.Path.{◌∙◌}
use Rattle.settings.specs.Sizes.{key_count}
use Rattle.slice.proofs.Kept.{server-weights, phone-weights}
use Rattle.slice.proofs.weights_of.Goals as goal

pub returns-then-number-eq0 : goal.returns-then-number-eq0
returns-then-number-eq0 c = c.for_columns.ensures ∙ server-weights key_count c.args.number c.args.keys c.if-number-eq0.true

pub returns : goal.returns
returns c = c.for_columns-2.ensures ∙ phone-weights key_count c.args.number c.args.keys c.if-number-eq0.false
