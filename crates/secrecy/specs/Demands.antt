-- Demand 3, as a type: whoever keeps one side's whole record cannot tell two alike secrets apart.
use Rattle.std.specs.Prelude.{ℕ, ◌<◌, ◌≡◌, List}
use Rattle.settings.specs.declared.Settings.{Settings}
use Rattle.runs.specs.Records.{answer_of, JointState, ScheduledCall, record_of}
use Rattle.runs.specs.Demands.{Fixed, Secret, Shares, Possible, Start, observer_input, peer_input}

-- draws under the first secret pair off one to one with draws under the second: "one pairing of draws serves all lists"
pub record Pairing (k : ℕ) (s : Settings) (serial : ℕ) (keys0 keys1 : List ℕ) (number : ℕ) (inputs secret secret' : List ℕ) : Type 0 where
  pub there : List ℕ → List ℕ
  pub back : List ℕ → List ℕ
  pub there_possible : (draw : List ℕ) → Possible k s draw → Possible k s (there draw)
  pub back_possible : (draw : List ℕ) → Possible k s draw → Possible k s (back draw)
  pub back_there : (draw : List ℕ) → Possible k s draw → back (there draw) ≡ draw
  pub there_back : (draw : List ℕ) → Possible k s draw → there (back draw) ≡ draw
  pub same_records : (draw : List ℕ)
      → Possible k s draw
      → (w : JointState)
      → Start k serial w
      → (calls : List ScheduledCall)
      → record_of k s serial (observer_input k s number keys0 keys1 inputs draw) (peer_input k s number keys0 keys1 inputs secret draw) w calls
      ≡ record_of k s serial (observer_input k s number keys0 keys1 inputs (there draw)) (peer_input k s number keys0 keys1 inputs secret' (there draw)) w calls

-- "For each side and any two alike secrets": "two secrets are alike if their answers are equal"
abbrev pub Demand3 : ℕ → Type 0
Demand3 k =
    (s : Settings) (serial : ℕ) (keys0 keys1 : List ℕ)
    → Fixed k s serial keys0 keys1
    → (number : ℕ)
    → number < 2
    → (inputs secret secret' : List ℕ)
    → Shares k s inputs
    → Secret s secret
    → Secret s secret'
    → answer_of s secret ≡ answer_of s secret'
    → Pairing k s serial keys0 keys1 number inputs secret secret'
