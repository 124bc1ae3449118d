-- What is proved of messages, as types: what is written is read again, and what passes is told by its fields.
use Rattle.std.specs.Prelude.{ℕ, ◌%◌, ◌^◌, ◌<◌, ◌≡◌, true, List, ◌∷◌, length, get_or, replicate}
use Rattle.lists.specs.Lists.{all_below}
use Rattle.field.specs.Field.{q}
use Rattle.settings.specs.Settings.{params_of}
use Rattle.settings.specs.Sizes.{key_count, bytes_for, header_bits, field_bits, field_count, message_bits}
use Rattle.message.specs.Bits.{padding, number_of}
use Rattle.message.specs.Message.{header_number, header_with, message_of, header_in, field_in, fields_ok, ask_form}
use Rattle.message.specs.Fields.{HeaderFits}
use Rattle.message.specs.declared.Header.{Header}

-- a header of 64 bits and fields of 23
pub record Sized (header : ℕ) (fields : List ℕ) : Type 0 where
  pub header_fits : header < 2 ^ header_bits
  pub fields_fit : all_below (2 ^ field_bits) fields ≡ true

pub record RoundTrip : Type 0 where
  -- a message is bytes, as many as its bits need
  pub bytes : (h : ℕ) (fs : List ℕ) (x : ℕ) → get_or (message_of h fs) x 0 < 256
  pub size : (h : ℕ) (fs : List ℕ) → length (message_of h fs) ≡ bytes_for (message_bits (length fs))
  -- header, fields and filling come back
  pub header : (h : ℕ) (fs : List ℕ) → Sized h fs → header_in (length fs) (message_of h fs) ≡ h
  pub field : (h : ℕ) (fs : List ℕ) → Sized h fs → (f : ℕ) → f < length fs → field_in (length fs) (message_of h fs) f ≡ get_or fs f 0
  pub filling : (h : ℕ) (fs : List ℕ) → Sized h fs → number_of (message_of h fs) % 2 ^ padding (message_bits (length fs)) ≡ 0
  -- fields below q pass question 12
  pub fields_pass : (h : ℕ) (fs : List ℕ) → h < 2 ^ header_bits → all_below q fs ≡ true → fields_ok (length fs) (message_of h fs) ≡ true
  -- a header is 64 bits, and tells its parts
  pub header_size : (h : Header) → HeaderFits h → h.serial < 2 ^ 32 → header_number h < 2 ^ header_bits
  pub header_tells : (h h' : Header) → HeaderFits h → h.serial < 2 ^ 32 → HeaderFits h' → h'.serial < 2 ^ 32
      → header_number h ≡ header_number h' → h ≡ h'
  -- what is sent with the due header passes questions 10 to 12
  pub accepted : (k : ℕ) (due : Header) (fs : List ℕ) → HeaderFits due → due.serial < 2 ^ 32
      → length fs ≡ field_count k (params_of due.settings.shape) due.round → all_below q fs ≡ true
      → (rest : ℕ) → ask_form k due (message_of (header_number due) fs) rest ≡ rest
  -- "Server, set 0, HIGH, N = 1, round 1, serial 1, opened share 1", with "four zero parts" (02)
  pub sample : message_of (header_number (header_with 0 (record { shape = record { set = 0; kind = 0; n = 1 }; bound = 0 }) 1 1)) (1 ∷ replicate key_count 0)
      ≡ 0x00 ∷ 0x80 ∷ 0x00 ∷ 0x00 ∷ 0x00 ∷ 0x00 ∷ 0x00 ∷ 0x01 ∷ 0x00 ∷ 0x00 ∷ 0x02 ∷ replicate 12 0x00

-- what passes questions 10 to 12 is told by its fields: two such messages of bytes, with the same header due and equal fields, are the same
abbrev pub FieldsTell : Type 0
FieldsTell =
    (k : ℕ) (due : Header) (a b : List ℕ)
    → all_below 256 a ≡ true
    → all_below 256 b ≡ true
    → ask_form k due a 0 ≡ 0
    → ask_form k due b 0 ≡ 0
    → let fields = field_count k (params_of due.settings.shape) due.round in
    ((f : ℕ) → f < fields → field_in fields a f ≡ field_in fields b f)
    → a ≡ b
