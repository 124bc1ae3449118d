-- `state::openings_up_to`: the total so far is the count of the rounds so far.
use Rattle.std.proofs.Common.{◌≡◌, ◌≤◌, ◌*◌}
use Rattle.settings.specs.Settings.{params_of}
use Rattle.settings.specs.Sizes.{openings_up_to}
use Rattle.state.proofs.openings_up_to.Given as goal

abbrev pub invariant-loop-round : goal.invariant-loop-round
invariant-loop-round l = record {
  counted : l.total ≡ openings_up_to (params_of l.shape) l.round;
  small : l.total ≤ 32 * l.round;
}
