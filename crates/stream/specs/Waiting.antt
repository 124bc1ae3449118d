-- Answers that wait to be written.
use Rattle.std.specs.Prelude.{ℕ, List, [], ◌++◌, length, take}
use Rattle.stream.specs.declared.Stream.{Stream}
use Rattle.stream.specs.Theorems.{Handler, State, Outcome, after_calls}

-- where a program stands since the last write: the first bytes of `out` wait
abbrev pub standing : {C : Type 0} → Stream → List ℕ → List ℕ → ℕ → C → State C
standing s kept out waiting c = record { stream = s; kept = kept; written = take waiting out; carried = c }

-- the same, when all that waited has been written
abbrev pub flushed : {C : Type 0} → State C → State C
flushed a = record { stream = a.stream; kept = a.kept; written = []; carried = a.carried }

-- after all calls of a part
abbrev pub all_calls : {C : Type 0} → Handler C → State C → List ℕ → State C
all_calls h a bytes = after_calls h (length bytes) a bytes

-- all that is written for an input, with what stands behind the answers for that which is carried at its end
abbrev pub closed_by : {C : Type 0} → (C → List ℕ) → Outcome C → List ℕ
closed_by last_line o = o.written ++ last_line o.carried
