-- Text that is put into a lent slice, byte behind byte; numbers and bytes as text.
use Rattle.std.specs.Prelude.{◌≡◌, ℕ, zero, suc, ◌+◌, ◌/◌, ◌%◌, cond, List, [], ◌∷◌, ◌++◌, ltb, length, set}
use Rattle.text.specs.declared.TextBuffer.{TextBuffer}

-- the slice, and the place of the next byte
pub record Text : Type 0 where
  pub bytes : List ℕ
  pub at : ℕ

abbrev pub text_at : List ℕ → ℕ → Text
text_at bytes at = record { bytes = bytes; at = at }

-- what a buffer has: its slice, and the place of the next byte
abbrev pub text_of : TextBuffer → Text
text_of buffer = text_at buffer.out.now buffer.at

-- one byte more, if there is room
unfoldable pub put : Text → ℕ → Text
put t b = cond (ltb t.at (length t.bytes)) (record { bytes = set t.bytes t.at b; at = t.at + 1 }) t

-- some bytes more
unfoldable pub puts : Text → List ℕ → Text
puts t [] = t
puts t (b ∷ bs) = puts (put t b) bs

-- a buffer over the same slice, with some bytes more
pub record Puts (before after : TextBuffer) (bs : List ℕ) : Type 0 where
  pub same_slice : after.out.ghost_name ≡ before.out.ghost_name
  pub text : text_of after ≡ puts (text_of before) bs

-- the last digit
abbrev pub last_digit : ℕ → ℕ
last_digit n = 48 + n % 10

-- a number in decimal: one below 10 is its digit; any other is its tenth, rounded down, in decimal, and then its last digit.
-- `more` is how many digits more than one it may have
unfoldable pub decimal_in : ℕ → ℕ → List ℕ
decimal_in zero n = last_digit n ∷ []
decimal_in (suc more) n = cond (ltb n 10) (last_digit n ∷ []) (decimal_in more (n / 10) ++ last_digit n ∷ [])

-- a number below 10^20, so any of 64 bits
unfoldable pub decimal : ℕ → List ℕ
decimal n = decimal_in 19 n

-- "one blank between numbers": a blank before each
unfoldable pub numbers_text : List ℕ → List ℕ
numbers_text [] = []
numbers_text (n ∷ ns) = 32 ∷ decimal n ++ numbers_text ns

-- the digit of a number below 16: `0` to `9`, then `a` to `f`
unfoldable pub hex_digit : ℕ → ℕ
hex_digit d = cond (ltb d 10) (48 + d) (87 + d)

-- a byte as two digits
abbrev pub hex_byte : ℕ → List ℕ
hex_byte b = hex_digit (b / 16) ∷ hex_digit (b % 16) ∷ []

-- bytes in hexadecimal
unfoldable pub hex_bytes : List ℕ → List ℕ
hex_bytes [] = []
hex_bytes (b ∷ bs) = hex_byte b ++ hex_bytes bs
