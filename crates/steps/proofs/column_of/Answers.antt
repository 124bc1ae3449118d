-- `steps::column_of` meets its contract.
use mathlib.Core.Path.{ap, ◌∙◌}
use mathlib.Core.List.{List, []}
use Prim.Native.Nat.{ℕ, ◌/◌}
use native.Mathlib.Omega.{arith}
use lib.ListN.{length, get_or}
use Rattle.steps.proofs.Columns.{chunk_at, column_is}
use Rattle.steps.proofs.column_of.Goals as goal

pub returns : goal.returns
returns c =
    let a = c.args in
    column_is a.work.now _ a.c
    (ap (λ (cs : List (List ℕ)). get_or cs a.c []) c.as_chunks.ensures.front ∙ chunk_at 1536 (length a.work.now / 1536) a.work.now [] a.c (omega arith))
