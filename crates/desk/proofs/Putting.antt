-- The numbers of a part.
use Prim.Native.Nat.{ℕ, ◌<◌}
use mathlib.Core.Path.{◌≡◌, refl}
use mathlib.Core.List.{List, [], ◌∷◌, ◌++◌}
use native.Mathlib.Omega.{arith}
use lib.ListN.{length, get_or, drop}
use Rattle.text.specs.Text.{decimal, numbers_text}
use Rattle.desk.specs.Desk.{part_text}

pub part_none : (part : List ℕ) → length part ≡ 0 → part_text part ≡ []
unfolding part_text
part_none [] e = refl
part_none (n ∷ ns) e = absurd (omega arith)

pub part-some : (part : List ℕ) → 0 < length part → decimal (get_or part 0 0) ++ numbers_text (drop 1 part) ≡ part_text part
unfolding part_text
part-some [] h = absurd (omega arith)
part-some (n ∷ ns) h = refl
