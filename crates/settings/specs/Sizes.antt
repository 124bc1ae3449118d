-- Every size that follows from the settings, k keys a side.
use Rattle.std.specs.Prelude.{ℕ, ◌+◌, ◌*◌, ◌/◌, cond, eqb, leb}
use Rattle.field.specs.Sums.{sum_to}
use Rattle.settings.specs.declared.Shape.{Shape}
use Rattle.settings.specs.Sets.{base}
use Rattle.settings.specs.Settings.{Params, params_of}
use Rattle.settings.specs.Questions.{shape_ok}
use Rattle.settings.specs.Schedule.{round_ok}

-- ---- Keys

-- "Each side has four keys" (02): keys a side. Definitions and theorems take any number k of them; the product's calls cite them at this one
abbrev pub key_count : ℕ
key_count = 4

-- "A shared number becomes nine numbers: the share, four parts under key group 0, four under group 1" (02): with k keys a side the share, and
-- a part under each key of the server and of the phone
abbrev pub width_of : ℕ → ℕ
width_of k = 1 + 2 * k

-- the same with the keys a side that the product has
abbrev pub width : ℕ
width = width_of key_count

-- ---- Openings and messages

-- "Openings in all: 19N or 17N + 2": N in round 1, 4N in rounds 2 to 5, then N and N, or 1 and 1
unfoldable pub openings : Params → ℕ → ℕ
openings p round =
    cond (eqb round 1) p.n
    (cond (leb round 5) (4 * p.n)
    (cond (eqb p.kind 0) p.n 1))

-- the most openings of a round, and the most fields of a message
abbrev pub most_openings : ℕ
most_openings = 32

abbrev pub most_fields : ℕ → ℕ
most_fields k = most_openings * (1 + k)

-- the openings of the first rounds
unfoldable pub openings_up_to : Params → ℕ → ℕ
openings_up_to p rounds = sum_to rounds (λ (before : ℕ). openings p (before + 1))

-- "sender 1 bit, set 1, kind 1, N − 1 in 3, round 3, B 23, serial 32"
abbrev pub header_bits : ℕ
header_bits = 64

-- "share 23 bits and check part 23": a field has 23 bits
abbrev pub field_bits : ℕ
field_bits = 23

-- "An opening carries one share and four parts" (02): a share, and a part under each of the receiver's k keys
abbrev pub field_count : ℕ → Params → ℕ → ℕ
field_count k p round = (1 + k) * openings p round

abbrev pub message_bits : ℕ → ℕ
message_bits fields = header_bits + field_bits * fields

-- the bytes that hold so many bits
abbrev pub bytes_for : ℕ → ℕ
bytes_for bits = (bits + 7) / 8

-- the most bytes of a message
abbrev pub most_bytes : ℕ → ℕ
most_bytes k = bytes_for (message_bits (most_fields k))

-- the length of a round's message, in bytes
unfoldable pub message_length : ℕ → Params → ℕ → ℕ
message_length k p round = bytes_for (message_bits (field_count k p round))

-- ---- Books and draws

-- shared numbers for one coefficient: mask, vectors, eight triples; "and, for HIGH, a zero-check group with K = 5"
unfoldable pub stride : Params → ℕ
stride p = 1 + sum_to 5 (base p.scale) + 24 + cond (eqb p.kind 0) 8 0

-- "So HIGH holds 165N shared numbers in set 0, 162N in set 1; BOUND holds 158N + 3 or 155N + 3" (a group with K = N at the end)
unfoldable pub shared : Params → ℕ
shared p = p.n * stride p + cond (eqb p.kind 0) 0 (p.n + 3)

-- how many zero-check groups a book has
abbrev pub groups : Params → ℕ
groups p = cond (eqb p.kind 0) p.n 1

-- "The dealer's draw is every r, a, b, ρ": drawn numbers of a book
abbrev pub drawn_numbers : Params → ℕ
drawn_numbers p = 17 * p.n + groups p

-- ".. and the phone's nine numbers for every shared number of the book" (01 as amended): how many numbers a draw has, w for nine
unfoldable pub draw_length : Params → ℕ → ℕ
draw_length p w = shared p * w + drawn_numbers p

-- ---- A side's slices

-- places of a column of the working slice: one number of each shared number
abbrev pub places : ℕ
places = 1536

-- "the working slice becomes 13,824 numbers"; "1,536 places of working slice for each number of a shared number" (02)
abbrev pub work_length : ℕ → ℕ
work_length k = width_of k * places

-- places of an answer: "N places for HIGH, 1 for BOUND"
abbrev pub answer_places : Params → ℕ
answer_places p = cond (eqb p.kind 0) p.n 1

-- ---- What a caller sizes slices by, with the keys a side that the product has: 0 where question 1 or 2 says no of the shape

abbrev pub sized : Shape → ℕ → ℕ
sized a size = cond (shape_ok a) size 0

-- a message's bytes; 0 also where there is no such round
unfoldable pub message_size : Shape → ℕ → ℕ
message_size a round = sized a (cond (round_ok round) (message_length key_count (params_of a) round) 0)

-- a book's numbers, a draw's, and those of a side's inputs
unfoldable pub book_size : Shape → ℕ
book_size a = sized a (shared (params_of a) * width)

unfoldable pub draw_size : Shape → ℕ
draw_size a = sized a (draw_length (params_of a) width)

unfoldable pub input_size : Shape → ℕ
input_size a = sized a (a.n * width)

unfoldable pub answer_size : Shape → ℕ
answer_size a = sized a (answer_places (params_of a))
