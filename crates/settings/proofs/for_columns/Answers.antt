-- `settings::for_columns` meets its contract.
use borrow.Author.Rules.{rules}
use Rattle.settings.specs.Sizes.{key_count}
use Rattle.settings.proofs.Keys.{columns_are}
use Rattle.settings.proofs.for_columns.Goals as goal

pub returns : goal.returns
returns c =
    columns_are key_count c.args.share c.args.keys0 c.args.keys1 _ _ _ c.copy_from_slice.ensures.after c.copy_from_slice-2.ensures.after (search rules) (search rules)
