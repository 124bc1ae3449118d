-- An honest run under each tried choice of the receiver's keys: what follows the choice, what stays, and what take answers to a message.
-- k is the number of keys a side.
use Rattle.std.specs.Prelude.{ℕ, suc, ◌-◌, ◌*◌, ◌<◌, ◌≡◌, ◌≢◌, Bool, true, cond, not, List, eqb, get_or}
use Rattle.lists.specs.Lists.{all_below}
use Rattle.field.specs.Field.{q, sub}
use Rattle.settings.specs.declared.Settings.{Settings}
use Rattle.settings.specs.Settings.{params_in}
use Rattle.settings.specs.Sizes.{width_of, openings}
use Rattle.message.specs.Message.{ask_form}
use Rattle.book.specs.Book.{drawn, book_value}
use Rattle.book.specs.Books.{multipliers, server_number}
use Rattle.opening.specs.Check.{Given}
use Rattle.opening.specs.Opening.{due_header, given}
use Rattle.side.specs.Side.{take_call}
use Rattle.runs.specs.Records.{PartyInput, JointState, ScheduledCall, Record, joint_after, record_of}
use Rattle.runs.specs.Demands.{Fixed, Secret, Shares, Possible, Start, observer_input, peer_input}
use Rattle.secrecy.specs.Paired.{draw_from}

-- an honest run, as demand 2 fixes it. A message goes from one side to the other, whose number is `receiver`; the inputs are the sender's
pub record HonestRun (k : ℕ) : Type 0 where
  pub settings : Settings
  pub serial : ℕ
  pub keys0 : List ℕ
  pub keys1 : List ℕ
  pub fixed : Fixed k settings serial keys0 keys1
  pub receiver : ℕ
  pub side2 : receiver < 2
  pub secret : List ℕ
  pub secret_ok : Secret settings secret
  pub inputs : List ℕ
  pub inputs_ok : Shares k settings inputs
  pub draw : List ℕ
  pub draw_ok : Possible k settings draw
  pub start : JointState
  pub start_ok : Start k serial start

-- the draw under tried keys of the phone: the server's book and the drawn numbers stay as dealt, and each of the phone's numbers is what is
-- missing to factor × value, so that its parts follow its keys
unfoldable pub phone_following : ℕ → Settings → List ℕ → List ℕ → List ℕ → List ℕ → List ℕ
phone_following k s keys0 keys1 draw tried =
    let p = params_in s in
    let width = width_of k in
    draw_from p width (drawn p width draw) (λ (e c : ℕ).
    sub q (get_or (multipliers keys0 tried) c 0 * book_value p width draw e) (server_number p width (multipliers keys0 keys1) draw e c))

-- the draw under tried keys of the receiver: "the server's are the difference", so they follow its keys with the draw as it was; for the
-- phone's keys the draw follows
abbrev pub draw_following : ℕ → Settings → ℕ → List ℕ → List ℕ → List ℕ → List ℕ → List ℕ
draw_following k s receiver keys0 keys1 draw tried = cond (eqb receiver 0) draw (phone_following k s keys0 keys1 draw tried)

module _ (k : ℕ) (r : HonestRun k) where
  -- the receiver's keys as dealt
  abbrev pub dealt : List ℕ
  dealt = cond (eqb r.receiver 0) r.keys0 r.keys1

  -- both sides' keys, the receiver's being tried
  abbrev pub server_keys : List ℕ → List ℕ
  server_keys tried = cond (eqb r.receiver 0) tried r.keys0

  abbrev pub phone_keys : List ℕ → List ℕ
  phone_keys tried = cond (eqb r.receiver 0) r.keys1 tried

  abbrev pub draw_under : List ℕ → List ℕ
  draw_under tried = draw_following k r.settings r.receiver r.keys0 r.keys1 r.draw tried

  -- what the sender's begin and the receiver's are handed
  abbrev pub sender_input : List ℕ → PartyInput
  sender_input tried =
      observer_input k r.settings (1 - r.receiver) (server_keys tried) (phone_keys tried) r.inputs (draw_under tried)

  abbrev pub receiver_input : List ℕ → PartyInput
  receiver_input tried =
      peer_input k r.settings (1 - r.receiver) (server_keys tried) (phone_keys tried) r.inputs r.secret (draw_under tried)

-- after any list of calls; their `observer` is the sender, their `peer` the receiver
module _ (k : ℕ) (r : HonestRun k) (calls : List ScheduledCall) where
  -- both sides
  abbrev pub after : List ℕ → JointState
  after tried = joint_after k r.settings r.serial (sender_input k r tried) (receiver_input k r tried) r.start calls

  -- the sender's whole record
  abbrev pub sender_record : List ℕ → Record
  sender_record tried = record_of k r.settings r.serial (sender_input k r tried) (receiver_input k r tried) r.start calls

  -- the message that the receiver is to be handed: the sender's latest
  abbrev pub honest_message : List ℕ
  honest_message = (after (dealt k r)).observer.latest

  -- what the receiver's take of a message answers under tried keys
  abbrev pub take_answer : List ℕ → List ℕ → ℕ
  take_answer tried message = (take_call k (after tried).peer.side (after tried).peer.work message).done.refused

  -- the receiver takes the sender's message, if it comes as it was sent
  abbrev pub Due : Type 0
  Due = take_answer (dealt k r) honest_message ≡ 0

  -- questions 10 to 12 say yes: the length of the round, the header due, fields below q and zero padding
  abbrev pub Formed : List ℕ → Type 0
  Formed message = ask_form k (due_header (after (dealt k r)).peer.side) message 0 ≡ 0

  -- how many openings the message has, and its opening o
  abbrev pub openings_due : ℕ
  openings_due = openings (params_in (after (dealt k r)).peer.side.settings) (after (dealt k r)).peer.side.round

  abbrev pub opening_in : List ℕ → ℕ → Given
  opening_in message o = given k (after (dealt k r)).peer.side message o

  -- a message in place of the sender's: its share of some opening is another
  pub record ShareDiffers (forged : List ℕ) : Type 0 where
    pub opening : ℕ
    pub inside : opening < openings_due
    pub share : (opening_in forged opening).share ≢ (opening_in honest_message opening).share

  -- its share of some opening is the same, and its part there under some key is another
  pub record PartDiffers (forged : List ℕ) : Type 0 where
    pub opening : ℕ
    pub inside : opening < openings_due
    pub share : (opening_in forged opening).share ≡ (opening_in honest_message opening).share
    pub key : ℕ
    pub key_inside : key < k
    pub part : (opening_in forged opening).part key ≢ (opening_in honest_message opening).part key

  -- any message of bytes that passes questions 10 to 12 and is not the sender's
  pub record Another (forged : List ℕ) : Type 0 where
    pub bytes : all_below 256 forged ≡ true
    pub formed : Formed forged
    pub other : forged ≢ honest_message

  -- the receiver's take does not answer 13
  abbrev pub undetected : List ℕ → List ℕ → Bool
  undetected forged tried = not (eqb (take_answer tried forged) 13)

-- in round R + 1: there are calls after which the receiver is to take its message
pub record DueIn (k : ℕ) (r : HonestRun k) (R : ℕ) : Type 0 where
  pub calls : List ScheduledCall
  pub due : Due k r calls
  pub round : (after k r calls (dealt k r)).peer.side.round ≡ suc R
