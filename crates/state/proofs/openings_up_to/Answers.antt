-- `state::openings_up_to` meets its contract.
use Rattle.std.proofs.Common.{add-one, arith, refl}
use Rattle.field.specs.Sums.{sum_to}
use Rattle.settings.specs.Sizes.{openings_up_to}
use Rattle.state.proofs.openings_up_to.Goals as goal

pub loop-round-init : goal.loop-round-init
unfolding openings_up_to sum_to
loop-round-init c = record { counted = refl; small = omega arith }

pub loop-round-preserved : goal.loop-round-preserved
unfolding openings_up_to sum_to
loop-round-preserved c = record {
  counted = rw (add-one c.loop-round.round) (omega (arith, c.openings_in-total.ensures.0, c.loop-round.invariant.counted));
  small = omega arith;
}
