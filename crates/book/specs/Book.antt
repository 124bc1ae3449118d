-- What a book holds, where it stands, and what the dealer draws for it.
use Rattle.std.specs.Prelude.{ℕ, ◌+◌, ◌*◌, ◌/◌, ◌%◌, Bool, true, false, cond, List, [], ◌∷◌, ◌++◌, eqb, get_or, take}
use Rattle.lists.specs.Answers.{bit}
use Rattle.lists.specs.Lists.{list_to, join_to}
use Rattle.field.specs.Sums.{sum_to}
use Rattle.settings.specs.Sets.{Scale, base}
use Rattle.settings.specs.Settings.{Params}
use Rattle.settings.specs.Sizes.{stride}
use Rattle.rounding.specs.Digits.{digit}
use Rattle.rounding.specs.Rounds.{gap}

-- ---- What a book holds, in its order

-- j: the coefficient; i: the digit; t: the triple; g: the group; x: the position in a vector
pub data Entry : Type 0 where
  mask : (j : ℕ) → Entry
  place : (j i x : ℕ) → Entry
  left : (j t : ℕ) → Entry
  right : (j t : ℕ) → Entry
  product : (j t : ℕ) → Entry
  group_mask : (g : ℕ) → Entry
  group_place : (g x : ℕ) → Entry

-- the K of a zero check: "for HIGH, .. K = 5", "BOUND .. K = N"
abbrev pub group_k : Params → ℕ
group_k p = cond (eqb p.kind 0) 5 p.n

-- "g = q divided by (K + 1) rounded down"
abbrev pub group_gap : Params → ℕ
group_gap p = gap p.scale.modulus (group_k p)

-- "the vectors of r's five digits (lengths: the bases, then s + 1)"
abbrev pub vectors : Scale → ℕ → List Entry
vectors p j = join_to 5 (λ (i : ℕ). list_to (base p i) (place j i))

-- "eight product triples a, b, c = a × b"
abbrev pub triples : ℕ → List Entry
triples j = join_to 8 (λ (t : ℕ). left j t ∷ right j t ∷ product j t ∷ [])

-- "A group is a mask ρ and the vector, length K + 2"
abbrev pub group : ℕ → ℕ → List Entry
group K g = group_mask g ∷ list_to (K + 2) (group_place g)

-- "A book holds, per coefficient: mask r; the vectors ..; eight product triples ..; and, for HIGH, a zero-check group"
abbrev pub coefficient : Params → ℕ → List Entry
coefficient p j = mask j ∷ vectors p.scale j ++ triples j ++ cond (eqb p.kind 0) (group 5 j) []

-- "A BOUND book ends with one group with K = N"
unfoldable pub plan : Params → List Entry
plan p = join_to p.n (coefficient p) ++ cond (eqb p.kind 0) [] (group p.n 0)

-- what stands at place e
abbrev pub entry_of : Params → ℕ → Entry
entry_of p e = get_or (plan p) e (mask 0)

-- ---- Where it stands: the book's places, counted in shared numbers

abbrev pub mask_at : Params → ℕ → ℕ
mask_at p j = j * stride p

unfoldable pub vector_at : Params → ℕ → ℕ → ℕ
vector_at p j i = mask_at p j + 1 + sum_to i (base p.scale)

-- a; b and a × b follow
unfoldable pub triple_at : Params → ℕ → ℕ → ℕ
triple_at p j t = mask_at p j + 1 + sum_to 5 (base p.scale) + 3 * t

-- ρ; its vector follows
unfoldable pub group_at : Params → ℕ → ℕ
group_at p g = cond (eqb p.kind 0) (triple_at p g 8) (mask_at p p.n)

-- ---- The draw

-- "The dealer's draw is every r, a, b, ρ": vector entries and a × b are not drawn
abbrev pub is_drawn : Entry → Bool
is_drawn (mask j) = true
is_drawn (place j i x) = false
is_drawn (left j t) = true
is_drawn (right j t) = true
is_drawn (product j t) = false
is_drawn (group_mask g) = true
is_drawn (group_place g x) = false

unfoldable pub drawn_in : List Entry → ℕ
drawn_in [] = 0
drawn_in (entry ∷ entries) = bit (is_drawn entry) + drawn_in entries

-- "and the phone's nine numbers for every shared number of the book, in book order, a drawn number just before its own nine" (01 as
-- amended), `width` for nine: where the numbers for place e begin in the draw
unfoldable pub draw_at : Params → ℕ → ℕ → ℕ
draw_at p width e = e * width + drawn_in (take e (plan p))

module _ (p : Params) (width : ℕ) (draw : List ℕ) where
  -- the drawn number of place e
  unfoldable pub drawn : ℕ → ℕ
  drawn e = get_or draw (draw_at p width e) 0

  -- the phone's number in column c of place e
  unfoldable pub phone_number : ℕ → ℕ → ℕ
  phone_number e c = get_or draw (draw_at p width e + bit (is_drawn (entry_of p e)) + c) 0

  -- the joined value of place e, by what stands there: drawn, or worked out
  -- "The vector of a number d is all 0 but a 1 at position d"; "c = a × b"; "ρ divided by g rounded down"
  abbrev pub entry_value : ℕ → Entry → ℕ
  entry_value e (mask j) = drawn e
  entry_value e (place j i x) = bit (eqb x (digit p.scale (drawn (mask_at p j)) i))
  entry_value e (left j t) = drawn e
  entry_value e (right j t) = drawn e
  entry_value e (product j t) = drawn (triple_at p j t) * drawn (triple_at p j t + 1) % p.scale.modulus
  entry_value e (group_mask g) = drawn e
  entry_value e (group_place g x) = bit (eqb x (drawn (group_at p g) / group_gap p))

  unfoldable pub book_value : ℕ → ℕ
  book_value e = entry_value e (entry_of p e)
