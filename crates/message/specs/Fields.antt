-- Bit fields in bytes, and the header: what the functions over them are promised with.
use Rattle.std.specs.Prelude.{ℕ, ◌+◌, ◌*◌, ◌-◌, ◌/◌, ◌%◌, ◌^◌, ◌<◌, cond, List, eqb, length}
use Rattle.lists.specs.Lists.{fill, in_front}
use Rattle.message.specs.Bits.{packed, number_of}
use Rattle.settings.specs.Settings.{params_of}
use Rattle.settings.specs.Sizes.{header_bits, field_bits, field_count, message_bits, message_length}
use Rattle.message.specs.Message.{fields_behind, field_in}
use Rattle.settings.specs.Questions.{Ready}
use Rattle.message.specs.declared.Header.{Header}
use Rattle.message.specs.declared.Ends.{Ends}

-- the number in the first bits
unfoldable pub first_bits : List ℕ → ℕ → ℕ
first_bits bytes bits = number_of bytes / 2 ^ (8 * length bytes - bits)

-- the field of so many bits that begins at bit `at`
unfoldable pub bits_at : List ℕ → ℕ → ℕ → ℕ
bits_at bytes at width = first_bits bytes (at + width) % 2 ^ width

-- a message front to back: half a header and its other half, field after field, and the padding behind so many fields
abbrev pub field_at : List ℕ → ℕ → ℕ
field_at bytes f = bits_at bytes (header_bits + field_bits * f) field_bits

abbrev pub ends_at : ℕ → List ℕ → ℕ → Ends
ends_at fields bytes width =
    record { high = bits_at bytes 0 32; low = bits_at bytes 32 32; padding = bits_at bytes (message_bits fields) width }

-- a list of numbers with a message's fields in front, where the message has the due length
unfoldable pub fields_read : ℕ → Header → List ℕ → List ℕ → List ℕ
fields_read k due message numbers =
    let p = params_of due.settings.shape in
    let fields = field_count k p due.round in
    cond (eqb (length message) (message_length k p due.round)) (fill numbers 0 fields (field_in fields message)) numbers

-- the first `at` bits and then a field; zero bits fill its last byte, and what stands behind stays
unfoldable pub put_bits : List ℕ → ℕ → ℕ → ℕ → List ℕ
put_bits bytes at width value = in_front (packed (at + width) (first_bits bytes at * 2 ^ width + value)) bytes

-- the same of all the fields behind a header
unfoldable pub put_fields : List ℕ → List ℕ → List ℕ
put_fields bytes fields = in_front (packed (message_bits (length fields)) (fields_behind (first_bits bytes header_bits) fields)) bytes

-- the byte at a place of a number of so many bytes
abbrev pub byte_of : ℕ → ℕ → ℕ → ℕ
byte_of count x place = x / 2 ^ (8 * (count - 1 - place)) % 256

-- each part of a header fits its width (a serial always does)
pub record HeaderFits (h : Header) : Type 0 where
  pub sender_fits : h.sender < 2
  pub settings_fit : Ready h.settings
  pub round_fits : h.round < 8
