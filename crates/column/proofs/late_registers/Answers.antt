-- `column::late_registers` meets its contract. Assumes nothing.
use Rattle.column.proofs.Tables.{slots_more}
use Rattle.steps.specs.Context.{public_by}
use Rattle.steps.specs.Work.{running_on}
use Rattle.slice.specs.Layout.{column}
use Prim.Native.Nat.{ℕ, ◌%◌, ◌/◌}
use native.Mathlib.Omega.{arith}
use lib.ListN.{length, get_or}
use Rattle.std.proofs.Common.{rules}
use Rattle.column.proofs.late_registers.Goals as goal

pub loop-g-preserved : goal.loop-g-preserved
loop-g-preserved c =
    let at = c.loop-g in
    let a = c.args in
    let p = c.requires in
    λ masked.
    let F : ℕ → ℕ → ℕ = λ d k. running_on (public_by a.settings masked) a.round (λ (o : ℕ). get_or a.numbers.opened.now o 0) (get_or a.numbers.weights.now d 0) (column a.numbers.work.now d) (k % 2) (k / 2) in
    λ d k h l.
    slots_more F at.next (length a.numbers.weights.now) at.g-counter _
    (omega (arith, p.ready.shape.most)) (omega (arith, p.long, at.auto.next))
    (c.into_columns.ensures (λ f. F f at.g-counter) (λ f x m post. search rules))
    (λ d k h l. at.invariant masked d k (omega arith) l) d k (omega arith) l

pub returns : goal.returns
returns c = λ masked d g h l. c.loop-g.invariant masked d g h (omega arith)
