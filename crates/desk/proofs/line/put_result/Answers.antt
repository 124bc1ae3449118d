-- `line::put_result` meets its contract.
use Rattle.std.proofs.Common.{arith, rules}
use Rattle.desk.proofs.Lengths.{front_fits, length-malformed, length-call}
use Rattle.desk.proofs.Lines.{line_long, line_one, line_unknown, line_bad, line_called}
use Rattle.desk.proofs.line.put_result.Goals as goal

pub returns-then-line-gt-LONGEST_LINE : goal.returns-then-line-gt-LONGEST_LINE
returns-then-line-gt-LONGEST_LINE c =
    rw (← line_long c.args.line.now c.if-line-gt-LONGEST_LINE.true) (record { text_after = c.put_malformed.ensures; line_len_bound = length-malformed })

pub returns-then-n-line : goal.returns-then-n-line
returns-then-n-line c =
    let blank = c.length_before-n in
    let one = line_one c.args.line.now blank.result c.if-line-gt-LONGEST_LINE.false blank.ensures.0 c.if-n-line.true in
    rw (← one) (record { text_after = c.put_malformed-then-n-line.ensures; line_len_bound = length-malformed })

pub returns-in_default : goal.returns-in_default
returns-in_default c =
    let blank = c.length_before-n in
    let unknown = line_unknown c.args.line.now blank.result c.if-line-gt-LONGEST_LINE.false blank.ensures.0 c.in_default.ensures in
    rw (← unknown) (record { text_after = c.put_malformed-in_default.ensures; line_len_bound = length-malformed })

pub returns-in_default-read_numbers : goal.returns-in_default-read_numbers
returns-in_default-read_numbers c =
    let blank = c.length_before-n in
    let bad = line_bad c.args.line.now blank.result c.if-line-gt-LONGEST_LINE.false blank.ensures.0 (omega arith) _ c.in-Some.ensures _ c.in_default-read_numbers.ensures in
    rw (← bad) (record { text_after = c.put_malformed-in_default-read_numbers.ensures; line_len_bound = length-malformed })

pub returns : goal.returns
returns c =
    let blank = c.length_before-n in
    let count = c.in-Some-read_numbers.count in
    let numbers = c.read_numbers.new.numbers in
    let read = c.in-Some-read_numbers.ensures in
    let is = line_called c.args.line.now blank.result c.if-line-gt-LONGEST_LINE.false blank.ensures.0 (omega arith) _ c.in-Some.ensures count numbers read in
    rw (← is) (record { text_after = c.put_call.ensures; line_len_bound = length-call _ _ (front_fits count numbers (search rules)) })
