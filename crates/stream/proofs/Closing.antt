-- What stands behind the answers to an input.
use Prim.Native.Nat.{ℕ, ◌+◌, ◌≤◌}
use mathlib.Core.Path.{◌≡◌, ap, ◌∙◌}
use mathlib.Core.List.{List}
use native.Mathlib.Omega.{arith}
use lib.ListN.{length, take}
use Rattle.text.specs.Text.{text_at, puts}
use Rattle.text.proofs.Puts.{front-put, within-put, length-put}
use Rattle.stream.specs.Theorems.{Outcome}
use Rattle.stream.specs.Waiting.{closed_by}

module _ {C : Type 0} (last_line : C → List ℕ) (outcome : Outcome C) (out out' : List ℕ) (at : ℕ) (c : C) (r : ℕ)
    (e : ◌≡◌ {A = Outcome C} (record { written = take at out; carried = c }) outcome)
    (f : text_at out' r ≡ puts (text_at out at) (last_line c)) (room : at + length (last_line c) ≤ length out) where
  pub closed-is : take r out' ≡ closed_by last_line outcome
  closed-is = front-put out at (last_line c) out' r f room ∙ ap (closed_by last_line) e

  pub closed-within : r ≤ length out
  closed-within = omega (arith, within-put out at (last_line c) out' r f (omega (arith, room)), length-put out at (last_line c) out' r f)
