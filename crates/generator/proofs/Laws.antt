-- All that is proved of the generator and its outputs.
use Rattle.generator.specs.Theorems.{Laws}
use Rattle.generator.proofs.Steps.{first_output, inside, never_zero, stepped_add, outputs_length, outputs_at, outputs_below, stepped_zero, outputs_zero}
use Rattle.generator.proofs.Order.{order}

pub laws : Laws
laws = record {
  first_output = first_output;
  inside = inside;
  never_zero = never_zero;
  stepped_add = stepped_add;
  outputs_length = outputs_length;
  outputs_at = outputs_at;
  outputs_below = outputs_below;
  order = order;
  stepped_zero = stepped_zero;
  outputs_zero = outputs_zero;
}
