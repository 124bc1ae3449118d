-- Constants.
use Rattle.std.specs.Prelude.{ℕ, ◌+◌, ◌-◌, ◌*◌, cond, List, [], ◌∷◌, ltb, get_or}
use Rattle.lists.specs.Lists.{list_to}
use Rattle.field.specs.Field.{q}

-- "Each set carries its own constants: step α, parts s, and five digit bases, lowest first":
-- entry i of `bases` is how many values digit i has, for digit 4 (0 to s) s + 1
pub record Scale : Type 0 where
  pub modulus : ℕ
  pub alpha : ℕ
  pub parts : ℕ
  pub bases : List ℕ

-- the table of the two sets
abbrev pub alphas : List ℕ
alphas = 190464 ∷ 523776 ∷ []

abbrev pub parts_of_sets : List ℕ
parts_of_sets = 44 ∷ 16 ∷ []

abbrev pub bases_of_sets : List (List ℕ)
bases_of_sets = (16 ∷ 16 ∷ 24 ∷ 31 ∷ 45 ∷ []) ∷ (16 ∷ 32 ∷ 31 ∷ 33 ∷ 17 ∷ []) ∷ []

abbrev pub scale_of : ℕ → Scale
scale_of set =
    record { modulus = q; alpha = get_or alphas set 0; parts = get_or parts_of_sets set 0; bases = get_or bases_of_sets set [] }

-- how many values digit i has
abbrev pub base : Scale → ℕ → ℕ
base p i = get_or p.bases i 0

-- ---- The top digit

-- "t(d) = d below s, else d − s"
unfoldable pub top : ℕ → ℕ → ℕ
top s d = cond (ltb d s) d (d - s)

-- "such a list, 90 entries for set 0 and 34 for set 1" (02): t(d) for d from 0 to 2s + 1
unfoldable pub top_digits : ℕ → List ℕ
top_digits s = list_to (2 * s + 2) (top s)
