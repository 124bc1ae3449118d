-- Demand 3, for any number of keys.
use Prim.Native.Nat.{ℕ}
use Rattle.book.proofs.Laws.{laws}
use Rattle.column.proofs.Joins.{work-joins}
use Rattle.column.proofs.PlainRun.{plain_run}
use Rattle.runs.proofs.Theorem.{progress}
use Rattle.secrecy.specs.Theorems.{DrawsPair}
use Rattle.secrecy.specs.Demands.{Demand3}
use Rattle.secrecy.proofs.DrawsPairing.{pairing_laws}
use Rattle.secrecy.proofs.EqualRecords.{demand3}

-- the pairing of draws
pub draws-pair : (k : ℕ) → DrawsPair k
draws-pair k = pairing_laws k plain_run

pub records_tell_nothing : (k : ℕ) → Demand3 k
records_tell_nothing k = demand3 k work-joins plain_run laws (progress k)
