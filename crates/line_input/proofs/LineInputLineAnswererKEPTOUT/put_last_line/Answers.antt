-- The last line is the generator's state, if there is a generator.
use Rattle.std.proofs.Common.{◌<◌, arith}
use Rattle.text.specs.Decimal.{too_large}
use Rattle.line_input.proofs.Last.{no_state, some-state}
use Rattle.line_input.proofs.LineInputLineAnswererKEPTOUT.put_last_line.Goals as goal

pub returns-then-self-eq0 : goal.returns-then-self-eq0
returns-then-self-eq0 c =
    let none = no_state _ c.args.self.now.runner.state c.if-self-eq0.true in
    record { text_after = none.0; last_len_bound = none.1 }

pub returns : goal.returns
returns c =
    let fits : c.args.self.now.runner.state < too_large = omega (arith, c.well_formed) in
    let some = some-state c.args.self.now.runner.state c.if-self-eq0.false fits c.put_number.ensures c.put_byte.ensures in
    record { text_after = some.0; last_len_bound = some.1 }
