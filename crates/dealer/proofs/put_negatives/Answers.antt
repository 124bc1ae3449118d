-- `dealer::put_negatives` meets its contract.
use Rattle.std.proofs.Common.{sym, lit<}
use Rattle.lists.proofs.Fill.{fill_none, front-more}
use Rattle.lists.proofs.Every.{below_at}
use Rattle.field.specs.Field.{q}
use Rattle.dealer.proofs.put_negatives.Goals as goal

pub loop-i-init : goal.loop-i-init
loop-i-init c = sym (fill_none _ _ _)

pub neg_mod-requires : goal.neg_mod-requires
neg_mod-requires c = below_at q _ _ (lit< tt) c.requires.1

pub loop-i-preserved : goal.loop-i-preserved
loop-i-preserved c = rw front-more (cc)
