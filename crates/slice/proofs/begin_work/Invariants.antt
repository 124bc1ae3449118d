-- `slice::begin_work` meets its contract.
use Rattle.settings.specs.Sizes.{width}
use Rattle.slice.specs.Layout.{begun_place}
use Rattle.slice.proofs.Begun.{Written}
use Rattle.slice.proofs.begin_work.Given as goal

abbrev pub invariant-loop-c : goal.invariant-loop-c
invariant-loop-c l = Written l.initial.work (begun_place l.count l.n width l.inputs l.book) l.c l.work
