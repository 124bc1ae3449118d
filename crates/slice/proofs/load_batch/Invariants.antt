-- `slice::load_batch` meets its contract.
use Rattle.slice.specs.Layout.{batch_place}
use Rattle.slice.proofs.Begun.{Written}
use Rattle.slice.proofs.load_batch.Given as goal

abbrev pub invariant-loop-c : goal.invariant-loop-c
invariant-loop-c l = Written l.initial.work (batch_place l.book l.first l.n l.initial.work) l.c l.work
