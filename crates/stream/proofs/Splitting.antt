-- An input's lines, each with a line end behind it, are the input again; no line has a line end in it; the last line may lack its own.
use Prim.Native.Nat.{ℕ, ◌<◌}
use mathlib.Core.Path.{◌≡◌, refl, ap}
use mathlib.Core.Bool.{Bool, true, false, not}
use mathlib.Core.List.{List, [], ◌∷◌, ◌++◌}
use native.Mathlib.Omega.{arith}
use lib.Dec.{eqb}
use borrow.Author.Tests.{eqb-true, ne_eqb}
use lib.ListN.{length, length-append}
use Rattle.lists.specs.Lists.{every, to_first}
use Rattle.stream.specs.Input.{lines_of}

-- lines with a line end behind each
unfoldable pub with_ends : List (List ℕ) → List ℕ
with_ends [] = []
with_ends (l ∷ ls) = l ++ 10 ∷ with_ends ls

ends-to_first : (b : ℕ) (ls : List (List ℕ)) (t : List ℕ) → with_ends ls ≡ t → 0 < length t → with_ends (to_first b ls) ≡ b ∷ t
unfolding with_ends to_first
ends-to_first b [] t e h = absurd (omega (arith, ap length e))
ends-to_first b (l ∷ ls) t e h = ap (λ (r : List ℕ). b ∷ r) e

pub lines_again : (s : List ℕ) → with_ends (lines_of (s ++ 10 ∷ [])) ≡ s ++ 10 ∷ []
unfolding with_ends lines_of to_first
lines_again [] = refl
lines_again (b ∷ s) = go (eqb b 10) refl (lines_again s)
  where
    go : (t : Bool) → eqb b 10 ≡ t → with_ends (lines_of (s ++ 10 ∷ [])) ≡ s ++ 10 ∷ [] → with_ends (lines_of (b ∷ (s ++ 10 ∷ []))) ≡ b ∷ (s ++ 10 ∷ [])
    go true e ih = rw (e, eqb-true b 10 e) (ap (λ (r : List ℕ). 10 ∷ r) ih)
    go false e ih = rw e (ends-to_first b (lines_of (s ++ 10 ∷ [])) (s ++ 10 ∷ []) ih (omega (arith, length-append s (10 ∷ []))))

-- "its line end (byte 10, which the last line may lack)"
pub end_lacking : (s : List ℕ) (b : ℕ) → (b ≡ 10 → ⊥) → lines_of (s ++ b ∷ []) ≡ lines_of (s ++ b ∷ 10 ∷ [])
unfolding lines_of to_first
end_lacking [] b h = rw (ne_eqb b 10 h) refl
end_lacking (c ∷ s) b h = rw (end_lacking s b h) refl

-- no line end in a line
abbrev pub solid : List ℕ → Bool
solid l = every (λ (b : ℕ). not (eqb b 10)) l

solid_to_first : (b : ℕ) (ls : List (List ℕ)) → eqb b 10 ≡ false → every solid ls ≡ true → every solid (to_first b ls) ≡ true
unfolding every to_first
solid_to_first b [] e h = rw e refl
solid_to_first b (l ∷ ls) e h = rw e h

pub solid_lines : (s : List ℕ) → every solid (lines_of s) ≡ true
unfolding lines_of every
solid_lines [] = refl
solid_lines (b ∷ s) = go (eqb b 10) refl (solid_lines s)
  where
    go : (t : Bool) → eqb b 10 ≡ t → every solid (lines_of s) ≡ true → every solid (lines_of (b ∷ s)) ≡ true
    go true e ih = rw e ih
    go false e ih = rw e (solid_to_first b (lines_of s) e ih)
