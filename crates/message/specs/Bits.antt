-- Bits: a run of bits is one number, its most significant bit first.
use Rattle.std.specs.Prelude.{ℕ, ◌+◌, ◌*◌, ◌-◌, ◌/◌, ◌%◌, ◌^◌, List, [], ◌∷◌}
use Rattle.lists.specs.Lists.{list_to}
use Rattle.settings.specs.Sizes.{bytes_for}

-- how many zero bits fill the last of the bytes that hold so many bits
abbrev pub padding : ℕ → ℕ
padding bits = 8 * bytes_for bits - bits

-- a number of so many bits as bytes: "Zero bits fill the last byte"
unfoldable pub packed : ℕ → ℕ → List ℕ
packed bits x =
    let n = bytes_for bits in
    let padded = x * 2 ^ padding bits in
    list_to n (λ (place : ℕ). padded / 2 ^ (8 * (n - 1 - place)) % 256)

-- bytes as one number, behind the number x
unfoldable pub number_on : ℕ → List ℕ → ℕ
number_on x [] = x
number_on x (b ∷ bs) = number_on (x * 256 + b) bs

abbrev pub number_of : List ℕ → ℕ
number_of bytes = number_on 0 bytes
