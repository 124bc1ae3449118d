-- `rounding::split_by` meets its contract.
use Rattle.rounding.specs.Digits.{digits_of}
use Rattle.rounding.proofs.split_by.Goals as goal

pub returns : goal.returns
unfolding digits_of
returns c = cc
