-- `message::ask_form` meets its contract.
use Rattle.message.specs.Message.{ask_form}
use Rattle.message.specs.Fields.{fields_read}
use Rattle.settings.specs.Sizes.{message_length}
use Rattle.lists.proofs.Questions.{walk, skip}
use native.Mathlib.Omega.{arith}
use mathlib.Core.Path.{◌≡◌, ap, ◌∙◌}
use mathlib.Core.List.{List, ◌++◌}
use Prim.Native.Nat.{ℕ}
use lib.ListN.{length, take, drop}
use lib.Seq.{length-take-le}
use Rattle.lists.proofs.Part.{fill-part}
use borrow.Author.Tests.{eq-eqb, ne_eqb}
use Rattle.message.proofs.ask_form.Goals as goal

pub returns-then-message-length_of : goal.returns-then-message-length_of
unfolding ask_form fields_read message_length
returns-then-message-length_of c =
    rw (← c.field_count-count.ensures.0, ← c.length_of.ensures) (search walk depth 20, rw (ne_eqb _ _ c.if-message-length_of.true))

pub returns : goal.returns
unfolding ask_form fields_read message_length
returns c =
    let fields = c.args.fields.now in
    let n = c.field_count-count.result in
    let few = c.field_count-count.ensures.1 in
    let e : length (take n fields) ≡ n = length-take-le n fields (omega arith) in
    let long = eq-eqb _ _ (c.if-message-length_of.false ∙ c.length_of.ensures) in
    rw (← c.field_count-count.ensures.0) (
      rw (← c.number.ensures) (skip _ _ 10 _ long (rw e at c.ask_parts.ensures.0)),
      rw long (ap (λ (l : List ℕ). l ++ drop n fields) (rw e at c.ask_parts.ensures.1) ∙ fill-part fields 0 n _ (omega arith) n (omega arith)),
    )
