-- `message::ask_parts` meets its contract.
use Rattle.message.proofs.Reading.{parts_is}
use Rattle.message.proofs.Numbers.{Bytes}
use Rattle.lists.proofs.Questions.{walk}
use native.Mathlib.Omega.{arith}
use borrow.Author.Rules.{rules}
use mathlib.Core.Path.{refl}
use Rattle.message.proofs.ask_parts.Goals as goal

pub returns-then-header_of-due : goal.returns-then-header_of-due
returns-then-header_of-due c =
    let a = c.args in
    let read = c.read_message-ends.ensures in
    let bytes : Bytes a.message.now = λ j. search rules in
    parts_is a.due a.message.now a.fields.now _ _ _ _ bytes (omega arith) refl read.0 read.1 c.header_of.ensures _ (search walk depth 20)

pub returns-then-not-all_below_q : goal.returns-then-not-all_below_q
returns-then-not-all_below_q c =
    let a = c.args in
    let read = c.read_message-ends.ensures in
    let bytes : Bytes a.message.now = λ j. search rules in
    parts_is a.due a.message.now a.fields.now _ _ _ _ bytes (omega arith) refl read.0 read.1 c.header_of.ensures _ (search walk depth 20)

pub returns-then-ends-ne0 : goal.returns-then-ends-ne0
returns-then-ends-ne0 c =
    let a = c.args in
    let read = c.read_message-ends.ensures in
    let bytes : Bytes a.message.now = λ j. search rules in
    parts_is a.due a.message.now a.fields.now _ _ _ _ bytes (omega arith) refl read.0 read.1 c.header_of.ensures _ (search walk depth 20)

pub returns : goal.returns
returns c =
    let a = c.args in
    let read = c.read_message-ends.ensures in
    let bytes : Bytes a.message.now = λ j. search rules in
    parts_is a.due a.message.now a.fields.now _ _ _ _ bytes (omega arith) refl read.0 read.1 c.header_of.ensures _ (search walk depth 20)
