-- The program answers each line of its input.
use Prim.Native.Nat.{ℕ}
use mathlib.Core.Path.{◌≡◌, ap}
use mathlib.Core.List.{List}
use native.Mathlib.Omega.{arith}
use lib.ListN.{length}
use Rattle.stream.specs.Theorems.{Outcome, LooksAt}
use Rattle.stream.proofs.Parts.{writes_the_output}
use Rattle.desk.specs.Desk.{desk_handler}
use Rattle.desk.specs.Kept.{looks_at_kept}
use Rattle.desk.specs.Theorems.{kept_length, DeskAnswersEachLine}

looks_at : (kept : List ℕ) → length kept ≡ kept_length → LooksAt (Unit {0}) (length kept) desk_handler
looks_at kept l = rw l looks_at_kept

pub desk_answers_each_line : DeskAnswersEachLine
desk_answers_each_line kept l parts few = ap (λ (o : Outcome (Unit {0})). o.written) (writes_the_output (Unit {0}) desk_handler tt kept (omega arith) (looks_at kept l) parts few)
