-- The working slice: columns of 1,536 places, one after the other; a column is one number of each shared number.
-- In a column the book comes first, then these.
use Rattle.std.specs.Prelude.{ℕ, ◌+◌, ◌*◌, ◌-◌, cond, ◌&&◌, List, ◌∷◌, ◌++◌, eqb, leb, ltb, get_or, replicate}
use Rattle.lists.specs.Lists.{list_to, join_to}
use Rattle.field.specs.Forms.{Registers}
use Rattle.settings.specs.Settings.{Params}
use Rattle.settings.specs.Sizes.{width, places, shared}

-- the input of coefficient j
abbrev pub input_at : ℕ → ℕ
input_at j = 1320 + j

-- the two running registers of coefficient j, which = 0 the first and which = 1 the second.
-- HIGH: the first is the carry, after round 5 F, after round 6 F − C; the second is z0 + z1 + .. so far, after round 5 also G.
-- BOUND: hi's result and lo's; after round 6 the first of coefficient 0 is the zero check's result
abbrev pub running_at : ℕ → ℕ → ℕ
running_at which j = 1328 + 8 * which + j

-- behind the registers: this side's own numbers for the openings of the round that it took last
abbrev pub own_at : ℕ → ℕ
own_at o = 1344 + o

-- in column 0 alone: the y that round 1 opened, of coefficient j
abbrev pub masked_at : ℕ → ℕ
masked_at j = 1376 + j

-- the registers of a column's numbers: 0 behind the last of them, so that no form reads there
unfoldable pub registers : List ℕ → Registers
registers numbers place = cond (ltb place (own_at 0)) (get_or numbers place 0) 0

-- the registers of column c of a slice
unfoldable pub column : List ℕ → ℕ → Registers
column work c place = cond (ltb place (own_at 0)) (get_or work (c * places + place) 0) 0

-- this side's own numbers in column c
unfoldable pub own_in : List ℕ → ℕ → ℕ → ℕ
own_in work c o = get_or work (c * places + own_at o) 0

-- the masked numbers that the slice holds, of eight coefficients at most
unfoldable pub masked_in : List ℕ → ℕ → ℕ
masked_in work j = cond (ltb j 8) (get_or work (masked_at j) 0) 0

-- a slice of `width` columns: f c place is the number at a place of column c
abbrev pub columns_of : ℕ → (ℕ → ℕ → ℕ) → List ℕ
columns_of width f = join_to width (λ (c : ℕ). list_to places (f c))

-- "Begin sets the whole working slice, numbers without a use to 0": a place of column c, from inputs and book,
-- which hold n and `count` shared numbers of `width` numbers each
unfoldable pub begun_place : ℕ → ℕ → ℕ → List ℕ → List ℕ → ℕ → ℕ → ℕ
begun_place count n width inputs book c place =
    cond (ltb place count) (get_or book (place * width + c) 0)
    (cond (leb (input_at 0) place && ltb place (input_at n)) (get_or inputs ((place - input_at 0) * width + c) 0)
    0)

unfoldable pub begun_work : Params → ℕ → List ℕ → List ℕ → List ℕ
begun_work p width inputs book = columns_of width (begun_place (shared p) p.n width inputs book)

-- while begin writes the slice: n shared numbers of a book, from number `first` on, stand in their columns, and all else is as it was
unfoldable pub batch_place : List ℕ → ℕ → ℕ → List ℕ → ℕ → ℕ → ℕ
batch_place book first n work c place =
    cond (leb first place && ltb place (first + n)) (get_or book (place * width + c) 0) (get_or work (c * places + place) 0)

unfoldable pub with_batch : List ℕ → ℕ → ℕ → List ℕ → List ℕ
with_batch book first n work = columns_of width (batch_place book first n work)

-- "Adding a public k: the server adds k to its share, and each side adds own key × k to its part under its own key", under each of its
-- own keys: what a public 1 adds to each column on side `number`, with k keys a side
unfoldable pub weights : ℕ → ℕ → List ℕ → List ℕ
weights k number keys = cond (eqb number 0) (1 ∷ keys ++ replicate k 0) (0 ∷ replicate k 0 ++ keys)
