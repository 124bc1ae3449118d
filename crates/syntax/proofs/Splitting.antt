-- A line's words, joined with one blank between, are the line again, and no word has a blank in it.
use Prim.Native.Nat.{ℕ}
use mathlib.Core.Path.{◌≡◌, refl, ap, ◌∙◌}
use mathlib.Core.Bool.{Bool, true, false, not}
use mathlib.Core.List.{List, [], ◌∷◌, ◌++◌}
use lib.Dec.{eqb}
use borrow.Author.Tests.{eqb-true}
use Rattle.lists.specs.Lists.{every, to_first}
use Rattle.syntax.specs.Line.{words}
use Rattle.syntax.proofs.Words.{words_first}

-- words with one blank between
unfoldable pub joined : List (List ℕ) → List ℕ
joined [] = []
joined (w ∷ []) = w
joined (w ∷ v ∷ ws) = w ++ 32 ∷ joined (v ∷ ws)

joined-to_first : (b : ℕ) (ws : List (List ℕ)) → joined (to_first b ws) ≡ b ∷ joined ws
unfolding joined to_first
joined-to_first b [] = refl
joined-to_first b (w ∷ []) = refl
joined-to_first b (w ∷ v ∷ ws) = refl

joined-blank : (s : List ℕ) → joined ([] ∷ words s) ≡ 32 ∷ joined (words s)
unfolding joined
joined-blank s = rw (words_first s) refl

pub joined_words : (s : List ℕ) → joined (words s) ≡ s
unfolding words joined
joined_words [] = refl
joined_words (b ∷ s) = go (eqb b 32) refl (joined_words s)
  where
    go : (t : Bool) → eqb b 32 ≡ t → joined (words s) ≡ s → joined (words (b ∷ s)) ≡ b ∷ s
    go true e ih = rw (e, eqb-true b 32 e) (joined-blank s ∙ ap (λ r. 32 ∷ r) ih)
    go false e ih = rw e (joined-to_first b (words s) ∙ ap (λ r. b ∷ r) ih)

-- no blank in a word
abbrev pub solid : List ℕ → Bool
solid w = every (λ (b : ℕ). not (eqb b 32)) w

solid_to_first : (b : ℕ) (ws : List (List ℕ)) → eqb b 32 ≡ false → every solid ws ≡ true → every solid (to_first b ws) ≡ true
unfolding every to_first
solid_to_first b [] e h = rw e refl
solid_to_first b (w ∷ ws) e h = rw e h

pub solid_words : (s : List ℕ) → every solid (words s) ≡ true
unfolding words every
solid_words [] = refl
solid_words (b ∷ s) = go (eqb b 32) refl (solid_words s)
  where
    go : (t : Bool) → eqb b 32 ≡ t → every solid (words s) ≡ true → every solid (words (b ∷ s)) ≡ true
    go true e ih = rw e ih
    go false e ih = rw e (solid_to_first b (words s) e ih)
