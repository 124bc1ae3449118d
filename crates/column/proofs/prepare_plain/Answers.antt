-- `column::prepare_plain` meets its contract. Assumes nothing.
use Rattle.column.proofs.Tables.{openings_more}
use Rattle.column.specs.Choice.{column_at}
use Rattle.column.specs.Held.{opening_in}
use Rattle.steps.specs.Context.{public_by}
use Rattle.settings.proofs.Sizes.{openings-most}
use Rattle.settings.specs.Settings.{params_of}
use Prim.Native.Nat.{ℕ}
use native.Mathlib.Omega.{arith}
use Rattle.std.proofs.Common.{rules}
use Rattle.column.proofs.prepare_plain.Goals as goal

pub loop-o-preserved : goal.loop-o-preserved
loop-o-preserved c =
    let at = c.loop-o in
    let a = c.args in
    let p = c.requires in
    λ masked.
    let F : ℕ → ℕ → ℕ = λ d k. opening_in (public_by a.known.settings masked) a.known.round a.columns.weights.now a.columns.work.now (column_at a.columns.choice.skip d) k in
    openings_more F at.out a.columns.choice.count at.o-counter _
    (omega (arith, openings-most (params_of a.known.settings.shape) a.known.round p.ready.shape.most, c.openings_in-count.ensures)) (omega (arith, p.out_long, at.auto.out))
    (c.into_columns.ensures (λ f. F f at.o-counter) (λ f x h post. search rules)) (at.invariant masked)
