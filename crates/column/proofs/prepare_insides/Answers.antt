-- `column::prepare_insides` meets its contract. Assumes nothing.
use Rattle.column.proofs.Contexts.{check-bound}
use Rattle.column.proofs.Tables.{openings_more}
use Rattle.column.specs.Choice.{column_at}
use Rattle.column.specs.Held.{opening_in}
use Rattle.steps.specs.Context.{public_by}
use Rattle.slice.specs.Layout.{column}
use Rattle.steps.specs.Steps.{insides}
use Rattle.book.specs.Book.{group_k, group_gap, group_at}
use Rattle.field.specs.Forms.{value, num, reg, ◌⊞◌, ◌⊟◌, ◌⊠◌}
use Rattle.field.specs.Field.{q}
use mathlib.Core.Path.{◌≡◌, ap, ◌∙◌}
use lib.ListN.{get_or}
use Prim.Native.Nat.{ℕ}
use native.Mathlib.Omega.{arith}
use Rattle.std.proofs.Common.{rules}
use Rattle.column.proofs.prepare_insides.Goals as goal

pub returns : goal.returns
returns c =
    let a = c.args in
    let known = a.known in
    λ masked made.
    let w = public_by known.settings masked in
    let F : ℕ → ℕ → ℕ = λ d k. opening_in (public_by known.settings masked) known.round a.columns.weights.now a.columns.work.now (column_at a.columns.choice.skip d) k in
    openings_more F a.out.now a.columns.choice.count 0 _ (omega arith) (omega (arith, c.requires.out_long))
    (c.into_columns.ensures (λ f. F f 0) (λ f x h post.
    let κ = get_or a.columns.weights.now (column_at a.columns.choice.skip f) 0 in
    let col = column a.columns.work.now (column_at a.columns.choice.skip f) in
    let is : x ≡ value q κ col (reg (group_at w.params 0) ⊞ group_gap w.params ⊠ (num (group_k w.params) ⊟ insides w w.params.n)) = search rules in
    is ∙ ap (value q κ col) (check-bound w known.round 0 c.requires.round.1 c.requires.round.0))) (λ d k h l. absurd (omega (arith, l)))
