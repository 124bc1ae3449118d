-- A signed number of 32 bits: its text, by its sign.
use mathlib.Core.Path.{◌≡◌, refl, ap, ◌∙◌}
use mathlib.Core.Bool.{true, false, true≢false}
use mathlib.Core.List.{◌∷◌}
use native.Mathlib.Omega.{arith}
use Prim.Native.Nat.{◌<◌}
use lib.IntN.{ℤ, pos, negsuc, nat_abs}
use lib.Signed.{lt_z}
use mir.Syntax.{w32}
use mir.Val.{SFits, to_z, of_z}
use mir.Facts.{to_z-of_z}
use borrow.Author.Tests.{ltb-true}
use Rattle.text.specs.declared.TextBuffer.{TextBuffer}
use Rattle.text.specs.Text.{text_of, puts, Puts, decimal}
use Rattle.desk.specs.Desk.{signed_text}

-- as the machine reads it back from its bits
module _ (z : ℤ) (f : SFits w32 z) where
  pub read : to_z w32 (of_z w32 z) ≡ z
  read = to_z-of_z f

  -- its text, put as the machine reads it back
  pub put_read : {s t : TextBuffer} → Puts s t (signed_text (to_z w32 (of_z w32 z))) → Puts s t (signed_text z)
  put_read {s = s} e = record { same_slice = e.same_slice; text = e.text ∙ ap (λ (y : ℤ). puts (text_of s) (signed_text y)) read }

  pub text_below : lt_z (to_z w32 (of_z w32 z)) (pos 0) ≡ true → signed_text z ≡ 45 ∷ decimal (nat_abs z)
  unfolding signed_text
  text_below h = go z (rw read at h)
    where
      go : (z : ℤ) → lt_z z (pos 0) ≡ true → signed_text z ≡ 45 ∷ decimal (nat_abs z)
      go (pos n) h = let l : n < 0 = ltb-true n 0 h in absurd (omega arith)
      go (negsuc n) h = refl

  pub text_above : lt_z (to_z w32 (of_z w32 z)) (pos 0) ≡ false → signed_text z ≡ decimal (nat_abs z)
  unfolding signed_text
  text_above h = go z (rw read at h)
    where
      go : (z : ℤ) → lt_z z (pos 0) ≡ false → signed_text z ≡ decimal (nat_abs z)
      go (pos n) h = refl
      go (negsuc n) h = absurd (true≢false h)
