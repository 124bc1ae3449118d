-- What is proved of every list of calls of an honest run, as types.
use Rattle.std.specs.Prelude.{ℕ, ◌<◌, ◌≡◌, List}
use Rattle.lists.specs.Lists.{list_to}
use Rattle.settings.specs.Sizes.{width_of}
use Rattle.column.specs.Run.{plain_opened}
use Rattle.settings.specs.declared.Settings.{Settings}
use Rattle.settings.specs.Settings.{terms_of}
use Rattle.runs.specs.Records.{JointState, ScheduledCall, joint_after, observations}
use Rattle.runs.specs.Demands.{Fixed, Secret, Shares, Possible, Start, observer_input, peer_input, sends_in}
use Rattle.runs.specs.Progress.{none, counts_after, joint_at}
use Rattle.runs.specs.Messages.{round_message, messages_in}

-- after every list of calls the joint state is the one at its counts, and the counts look at no secret
abbrev pub Progress : ℕ → Type 0
Progress k =
    (s : Settings) (serial : ℕ) (keys0 keys1 : List ℕ)
    → Fixed k s serial keys0 keys1
    → (number : ℕ)
    → number < 2
    → (secret inputs draw : List ℕ)
    → Secret s secret
    → Shares k s inputs
    → Possible k s draw
    → (w : JointState)
    → Start k serial w
    → (calls : List ScheduledCall)
    → let own = observer_input k s number keys0 keys1 inputs draw in
    let other = peer_input k s number keys0 keys1 inputs secret draw in
    let numbers : ℕ → List ℕ = plain_opened (terms_of s) (width_of k) draw secret in
    joint_after k s serial own other w calls ≡ joint_at k s serial numbers own other w (counts_after k s number none calls)

-- at either side, the messages sent in a list of calls are those of the rounds, one after another, each worked out by the steps from the
-- side's shares: no round sends filler
abbrev pub MessagesAreSteps : ℕ → Type 0
MessagesAreSteps k =
    (s : Settings) (serial : ℕ) (keys0 keys1 : List ℕ)
    → Fixed k s serial keys0 keys1
    → (number : ℕ)
    → number < 2
    → (secret inputs draw : List ℕ)
    → Secret s secret
    → Shares k s inputs
    → Possible k s draw
    → (w : JointState)
    → Start k serial w
    → (calls : List ScheduledCall)
    → let own = observer_input k s number keys0 keys1 inputs draw in
    let other = peer_input k s number keys0 keys1 inputs secret draw in
    let numbers : ℕ → List ℕ = plain_opened (terms_of s) (width_of k) draw secret in
    let log = observations k s serial own other w calls in
    messages_in log ≡ list_to (sends_in log) (round_message k s serial numbers own)
