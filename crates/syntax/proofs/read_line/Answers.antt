-- `syntax::read_line` meets its contract.
use Rattle.std.proofs.Common.{◌∙◌, ap}
use Rattle.std.specs.Option.{option_and_then}
use Rattle.syntax.specs.Reading.{finish}
use Rattle.syntax.proofs.Readings.{line_read}
use Rattle.syntax.proofs.read_line.Goals as goal

pub returns-in_err-read_words : goal.returns-in_err-read_words
returns-in_err-read_words c =
    rw c.from_residual.ensures
    (ap (option_and_then finish) c.in_err-read_words.ensures.value ∙ line_read c.args.line.now c.if-line-gt-LONGEST_INPUT_LINE.false)

pub returns : goal.returns
returns c =
    c.end_words.ensures
    ∙ ap (option_and_then finish) c.in_ok-read_words.ensures.value
    ∙ line_read c.args.line.now c.if-line-gt-LONGEST_INPUT_LINE.false
