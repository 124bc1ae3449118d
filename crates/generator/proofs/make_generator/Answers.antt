-- `generator::make_generator` meets its contract.
use native.Mathlib.Omega.{arith}
use borrow.Author.Tests.{lt-ltb, le-ltb}
use Rattle.generator.specs.Calls.{seed_call}
use Rattle.generator.proofs.make_generator.Goals as goal

pub returns-then-seed-lt1 : goal.returns-then-seed-lt1
unfolding seed_call
returns-then-seed-lt1 c = rw (le-ltb 0 c.args.seed (omega arith))

pub returns : goal.returns
unfolding seed_call
returns c = rw (lt-ltb 0 c.args.seed (omega arith))
