-- A message that is sent behind the others: where it stands, and that the others stay.
use Prim.Native.Nat.{ℕ, zero, suc, ◌+◌, ◌-◌, ◌≤◌}
use mathlib.Core.Path.{◌≡◌, refl, sym, ap, ◌∙◌}
use mathlib.Core.List.{List, [], ◌∷◌, ◌++◌}
use native.Mathlib.Omega.{arith}
use lib.ListN.{length, take, drop}
use lib.Seq.{length-take-le, take-take, take_at, drop_at, take-append-add, drop-append-add}
use Rattle.execution.specs.declared.Endpoint.{Endpoint}
use Rattle.execution.specs.Held.{Stands}

-- a part of a list, cut from its front
part-front : (a b : ℕ) (l : List ℕ) → a ≤ b → take (b - a) (drop a l) ≡ drop a (take b l)
part-front zero b l h = let e : b - 0 ≡ b = omega arith in rw e
part-front (suc a) zero l h = absurd (omega arith)
part-front (suc a) (suc b) [] h = none (suc b - suc a)
  where
    none : (n : ℕ) → take {A = ℕ} n [] ≡ []
    none zero = refl
    none (suc n) = refl
part-front (suc a) (suc b) (x ∷ l) h = let e : suc b - suc a ≡ b - a = omega arith in rw e (part-front a b l (omega arith))

-- what stands in front of `at` stays where the front stays
pub latest-kept : (e : Endpoint) (at : ℕ) → Stands e.from e.to at → (before after : List ℕ) → take at after ≡ take at before
    → take (e.to - e.from) (drop e.from after) ≡ take (e.to - e.from) (drop e.from before)
latest-kept e at s before after f =
    part-front e.from e.to after s.begins
    ∙ ap (drop e.from) (sym (take-take e.to at after s.ends) ∙ ap (take e.to) f ∙ take-take e.to at before s.ends)
    ∙ sym (part-front e.from e.to before s.begins)

-- a message written behind the first `at` bytes
module _ (before : List ℕ) (at : ℕ) (message : List ℕ) (rest : List ℕ) (fits : at ≤ length before) where
  abbrev after : List ℕ
  after = take at before ++ (message ++ rest)

  at_long : length (take at before) ≡ at
  at_long = length-take-le at before fits

  pub front_stays : take at after ≡ take at before
  front_stays = take_at (take at before) (message ++ rest) at at_long

  pub message-behind : (n : ℕ) → length message ≡ n → take (at + n) after ≡ take at before ++ message
  message-behind n e =
      ap (λ (m : ℕ). take (m + n) after) (sym at_long)
      ∙ take-append-add (take at before) (message ++ rest) n
      ∙ ap (λ (l : List ℕ). take at before ++ l) (take_at message rest n e)

  pub message-stands : (n : ℕ) → length message ≡ n → take (at + n - at) (drop at after) ≡ message
  message-stands n e =
      let d : at + n - at ≡ n = omega arith in
      rw (d, drop_at (take at before) (message ++ rest) at at_long) (take_at message rest n e)

  pub message-end : drop (at + length message) after ≡ rest
  message-end =
      ap (λ (m : ℕ). drop (m + length message) after) (sym at_long)
      ∙ drop-append-add (take at before) (message ++ rest) (length message)
      ∙ drop_at message rest (length message) refl
