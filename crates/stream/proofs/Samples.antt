-- The lines of small inputs.
use mathlib.Core.Path.{◌≡◌, refl}
use mathlib.Core.List.{[], ◌∷◌}
use Rattle.lists.specs.Lists.{to_first}
use Rattle.stream.specs.Input.{lines_of}

-- nothing has no line
pub none : lines_of [] ≡ []
unfolding to_first lines_of
none = refl

-- a line end alone ends an empty line
pub empty_line : lines_of (10 ∷ []) ≡ [] ∷ []
unfolding to_first lines_of
empty_line = refl

-- `a` and a line end: one line
pub one : lines_of (97 ∷ 10 ∷ []) ≡ (97 ∷ []) ∷ []
unfolding to_first lines_of
one = refl

-- `a`, two line ends, `b`: the last line lacks its line end
pub three : lines_of (97 ∷ 10 ∷ 10 ∷ 98 ∷ []) ≡ (97 ∷ []) ∷ [] ∷ (98 ∷ []) ∷ []
unfolding to_first lines_of
three = refl
