-- What is proved of a run carried through, as a type.
use Rattle.std.specs.Prelude.{ℕ, ◌≡◌, None, List, [], length}
use Rattle.settings.specs.declared.Settings.{Settings}
use Rattle.settings.specs.Sizes.{key_count, draw_size}
use Rattle.runs.specs.Records.{JointState}
use Rattle.runs.specs.Demands.{Fixed, Secret, Shares, Possible, Start, observer_input, peer_input, Ended}
use Rattle.execution.specs.declared.RunTerms.{RunTerms}
use Rattle.execution.specs.Execution.{Carried, run_calls, carry_all, draw_in, dealt_run, executed}

-- an honest run is refused nowhere, and ends at both sides with the answer by the plain meaning
pub record GoesThrough (s : Settings) (secret : List ℕ) (x : Carried) : Type 0 where
  pub accepted : x.refused ≡ None
  pub server : Ended s secret x.parties.observer
  pub phone : Ended s secret x.parties.peer

abbrev pub HonestRunGoesThrough : Type 0
HonestRunGoesThrough =
    (s : Settings) (serial : ℕ) (keys0 keys1 : List ℕ)
    → Fixed key_count s serial keys0 keys1
    → (secret inputs draw : List ℕ)
    → Secret s secret
    → Shares key_count s inputs
    → Possible key_count s draw
    → (w : JointState)
    → Start key_count serial w
    → GoesThrough s secret
    (carry_all s serial (observer_input key_count s 0 keys0 keys1 inputs draw) (peer_input key_count s 0 keys0 keys1 inputs secret draw)
    (record { refused = None; parties = w; messages = [] }) run_calls)

-- a draw of the asked length is never taken for books
abbrev pub DrawIsDealt : Type 0
DrawIsDealt =
    (terms : RunTerms) (numbers work0 work1 : List ℕ)
    → length (draw_in terms.settings.shape numbers) ≡ draw_size terms.settings.shape
    → executed terms numbers work0 work1 ≡ dealt_run terms numbers work0 work1
