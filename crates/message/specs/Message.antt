-- Messages.
use Rattle.std.specs.Prelude.{ℕ, ◌+◌, ◌*◌, ◌-◌, ◌/◌, ◌%◌, ◌^◌, Bool, ◌&&◌, List, [], ◌∷◌, eqb, leb, ltb, length}
use Rattle.lists.specs.Answers.{ask}
use Rattle.lists.specs.Lists.{all_to}
use Rattle.field.specs.Field.{q}
use Rattle.settings.specs.declared.Settings.{Settings}
use Rattle.settings.specs.Settings.{params_of}
use Rattle.settings.specs.Questions.{ask_settings}
use Rattle.message.specs.declared.Header.{Header}
use Rattle.message.specs.Bits.{padding, packed, number_of}
use Rattle.settings.specs.Schedule.{round_ok}
use Rattle.settings.specs.Sizes.{field_bits, field_count, message_bits, message_length}

-- "sender 1 bit, set 1, kind 1, N − 1 in 3, round 3, B 23, serial 32"
unfoldable pub header_number : Header → ℕ
header_number h =
    let a = h.settings.shape in
    (((((h.sender * 2 ^ 1 + a.set) * 2 ^ 1 + a.kind) * 2 ^ 3 + (a.n - 1)) * 2 ^ 3 + h.round) * 2 ^ 23 + h.settings.bound) * 2 ^ 32 + h.serial

abbrev pub header_with : ℕ → Settings → ℕ → ℕ → Header
header_with sender s round serial = record { sender = sender; settings = s; round = round; serial = serial }

-- the header and then the fields as one number
unfoldable pub fields_behind : ℕ → List ℕ → ℕ
fields_behind x [] = x
fields_behind x (f ∷ fs) = fields_behind (x * 2 ^ field_bits + f) fs

-- a message, from its header's number and its fields
unfoldable pub message_of : ℕ → List ℕ → List ℕ
message_of header fields = packed (message_bits (length fields)) (fields_behind header fields)

-- ---- Reading a message of so many fields

abbrev pub header_in : ℕ → List ℕ → ℕ
header_in fields message = number_of message / 2 ^ (padding (message_bits fields) + field_bits * fields)

unfoldable pub field_in : ℕ → List ℕ → ℕ → ℕ
field_in fields message f =
    number_of message / 2 ^ (padding (message_bits fields) + field_bits * (fields - 1 - f)) % 2 ^ field_bits

-- Question 12: "Fields below q, padding zero?"
unfoldable pub fields_ok : ℕ → List ℕ → Bool
fields_ok fields message =
    let field = field_in fields message in
    all_to fields (λ (f : ℕ). ltb (field f) q) && eqb (number_of message % 2 ^ padding (message_bits fields)) 0

-- Questions 11 and 12 of a message of so many fields that is to have the header's number `due`, and then the rest:
-- "Header equal to mine, with the other sender?" "Fields below q, padding zero?"
abbrev pub ask_parts : ℕ → ℕ → List ℕ → ℕ → ℕ
ask_parts due fields message rest =
    ask (eqb (header_in fields message) due) 11
    (ask (fields_ok fields message) 12
    rest)

-- Questions 10 to 12 of a message that is to have the header `due`, and then the rest: "Message length exact?"
unfoldable pub ask_form : ℕ → Header → List ℕ → ℕ → ℕ
ask_form k due message rest =
    let p = params_of due.settings.shape in
    let fields = field_count k p due.round in
    ask (eqb (length message) (message_length k p due.round)) 10
    (ask_parts (header_number due) fields message rest)

-- "Form test: 1, 2, 3, 8 (round 1 to 7, serial above 0), 10 to 12", k keys a side
unfoldable pub form_no : ℕ → ℕ → Settings → ℕ → ℕ → List ℕ → ℕ
form_no k receiver s round serial message =
    ask_settings receiver s
    (ask (round_ok round && leb 1 serial) 8
    (ask_form k (header_with (1 - receiver) s round serial) message
    0))
