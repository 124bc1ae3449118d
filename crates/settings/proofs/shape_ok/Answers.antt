-- `settings::shape_ok` meets its contract. Assumes nothing.
use mathlib.Core.Path.{ap, ◌∙◌}
use Prim.Native.Nat.{ℕ}
use lib.Dec.{eqb}
use Rattle.settings.proofs.Ready.{shape_ok_lem}
use Rattle.settings.proofs.Refused.{is_ok_refused}
use Rattle.settings.proofs.shape_ok.Goals as goal

pub returns : goal.returns
returns c = c.is_ok.ensures.value ∙ is_ok_refused c.ask_shape.result ∙ ap (λ (x : ℕ). eqb x 0) c.ask_shape.ensures ∙ shape_ok_lem c.args.shape
