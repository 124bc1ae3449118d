-- `words::read_numbers` meets its contract.
use Rattle.std.proofs.Common.{arith, refl, ap, ◌∙◌, ◌≡◌, List, ℕ, Option, Some, None}
use Rattle.std.specs.Option.{option_map}
use Rattle.syntax.specs.Line.{values_of}
use Rattle.syntax.proofs.Words.{rest_all}
use Rattle.desk.specs.Desk.{fields_of}
use Rattle.desk.proofs.Numbers.{read_some, read_bad, read_more, values-end}
use Rattle.desk.proofs.words.read_numbers.Goals as goal

whole : (o : Option (List ℕ)) → option_map (λ (vs : List ℕ). vs) o ≡ o
whole None = refl
whole (Some vs) = refl

pub loop-at-init : goal.loop-at-init
loop-at-init c =
    record {
      in_range = omega arith;
      room = omega arith;
      values = whole _ ∙ ap (λ (ws : List (List ℕ)). values_of (fields_of ws)) (rest_all c.args.line.now);
    }

pub returns-in_err-number : goal.returns-in_err-number
returns-in_err-number c =
    let loop = c.loop-at in
    let blank = c.length_before in
    rw c.from_residual.ensures
    (record {
      room = tt;
      values = read_bad c.args.line.now loop.at blank.result (omega arith) blank.ensures.0 loop.numbers loop.count _ c.in_err-number.ensures loop.invariant.values;
    })

pub loop-at-preserved : goal.loop-at-preserved
loop-at-preserved c =
    let line = c.args.line.now in
    let loop = c.loop-at in
    let blank = c.length_before in
    let some = read_some line loop.at blank.result (omega arith) blank.ensures.0 _ c.in_ok-number.ensures in
    record {
      in_range = omega arith;
      room = omega arith;
      values = read_more line loop.at blank.result (omega arith) blank.ensures.0 loop.numbers loop.count _ _ (omega arith) c.in_ok-number.ensures loop.invariant.values;
    }

pub returns : goal.returns
returns c =
    let loop = c.loop-at in
    record { room = omega arith; values = values-end c.args.line.now loop.numbers loop.count loop.at _ (omega arith) loop.invariant.values }
