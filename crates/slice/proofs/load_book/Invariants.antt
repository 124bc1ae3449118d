-- `slice::load_book` meets its contract.
use mathlib.Core.Path.{◌≡◌}
use Prim.Native.Nat.{◌≤◌}
use Rattle.slice.specs.Layout.{with_batch}
use Rattle.slice.proofs.load_book.Given as goal

abbrev pub invariant-loop-first : goal.invariant-loop-first
invariant-loop-first l = (l.first ≤ l.count) × (l.work ≡ with_batch l.book 0 l.first l.initial.work)
