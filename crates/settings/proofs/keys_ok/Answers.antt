-- `settings::keys_ok` meets its contract.
use borrow.Author.Rules.{rules}
use Rattle.settings.specs.Questions.{key_ok, keys_ok}
use Rattle.settings.proofs.Keys.{every-is}
use Rattle.settings.proofs.keys_ok.Goals as goal

pub returns : goal.returns
unfolding keys_ok
returns c = every-is key_ok c.args.keys c.all.result (search rules)
