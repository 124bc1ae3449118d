-- Answers put behind those that wait.
use Prim.Native.Nat.{ℕ, ◌+◌, ◌-◌, ◌≤◌, ◌<◌, min}
use mathlib.Core.Path.{◌≡◌, refl, sym, ap, ◌∙◌}
use mathlib.Core.Bool.{Bool, true, false, cond, not}
use mathlib.Core.List.{List, [], ◌++◌, append-nil}
use native.Mathlib.Omega.{arith}
use borrow.Author.Tests.{not-true, not-false}
use lib.ListN.{length, take, drop, length-take, length-drop}
use lib.Seq.{take_all, drop-drop}
use Rattle.lists.proofs.Lists.{take_min}
use Rattle.stream.specs.declared.Stream.{Stream}
use Rattle.stream.specs.declared.Step.{Step}
use Rattle.stream.specs.Stream.{at_line, held_of, kept_after, next_line, is_left}
use Rattle.stream.specs.Theorems.{Handler, State, Outcome, after_call, after_end}
use Rattle.stream.specs.Waiting.{standing, all_calls}
use Rattle.stream.proofs.Standing.{left_line}
use Rattle.stream.proofs.Calls.{some_used, used_fits, held_fits, calls-more}

-- ---- a call

module _ (s : Stream) (kept bytes : List ℕ) (step : Step) (e : step ≡ next_line s kept bytes) where
  pub held_in : step.stream.held ≤ length kept
  held_in = rw e (held_fits s kept bytes)

  module _ {C : Type 0} (handler : Handler C) (out kept' : List ℕ) (waiting : ℕ) (c : C) (f : kept' ≡ kept_after s kept bytes) where
    called : (w : List ℕ) (c' : C)
        → w ≡ take waiting out ++ cond step.stream.ended (handler.answer step.stream.number (held_of step.stream kept')) []
        → c' ≡ cond step.stream.ended (handler.carry step.stream.number (held_of step.stream kept') c) c
        → ◌≡◌ {A = State C} (record { stream = step.stream; kept = kept'; written = w; carried = c' }) (after_call handler (standing s kept out waiting c) bytes)
    unfolding after_call
    called w c' h g = rw (h, g, f, e) refl

    -- the line goes on
    pub called_open : not step.stream.ended ≡ true
        → standing step.stream kept' out waiting c ≡ after_call handler (standing s kept out waiting c) bytes
    called_open h =
        let goes_on : step.stream.ended ≡ false = not-true step.stream.ended h in
        called (take waiting out) c (rw goes_on (sym (append-nil (take waiting out)))) (rw goes_on refl)

    -- it has ended, and its answer stands behind what waited
    pub called_ended : (n : ℕ) (out' : List ℕ) (c' : C) → not step.stream.ended ≡ false
        → take n out' ≡ take waiting out ++ handler.answer step.stream.number (held_of step.stream kept')
        → c' ≡ handler.carry step.stream.number (held_of step.stream kept') c
        → standing step.stream kept' out' n c' ≡ after_call handler (standing s kept out waiting c) bytes
    called_ended n out' c' h g i =
        let ended : step.stream.ended ≡ true = not-false step.stream.ended h in
        called (take n out') c' (rw ended g) (rw ended i)

-- ---- the calls of a part

-- the part from `used` on
abbrev pub rest : List ℕ → ℕ → List ℕ
rest bytes used = take (length bytes - used) (drop used bytes)

pub length_rest : (bytes : List ℕ) (used : ℕ) → length (rest bytes used) ≡ length bytes - used
length_rest bytes used = simp (length-take, length-drop) (omega arith)

pub rest_is : (bytes : List ℕ) (used : ℕ) → rest bytes used ≡ drop used bytes
rest_is bytes used = take_all (length bytes - used) (drop used bytes) (omega (arith, length-drop used bytes))

module _ (s : Stream) (kept bytes : List ℕ) (used n : ℕ) (h : used < length bytes) (e : n ≡ (next_line s kept (rest bytes used)).used) where
  pub more_used : 0 < n
  more_used = rw (e, rest_is bytes used) (some_used s kept (drop used bytes) (omega (arith, length-drop used bytes)))

  pub used_in : used + n ≤ length bytes
  used_in =
      let f : (next_line s kept (drop used bytes)).used ≤ length (drop used bytes) = used_fits s kept (drop used bytes) in
      let g : n ≡ (next_line s kept (drop used bytes)).used = rw (rest_is bytes used) at e in
      omega (arith, f, g, length-drop used bytes)

  pub calls_on : {C : Type 0} (handler : Handler C) (out : List ℕ) (waiting : ℕ) (c : C) (a t : State C)
      → a ≡ after_call handler (standing s kept out waiting c) (rest bytes used)
      → all_calls handler (standing s kept out waiting c) (drop used bytes) ≡ t → all_calls handler a (drop (used + n) bytes) ≡ t
  calls_on handler out waiting c a t f g =
      let i : n ≡ (next_line s kept (drop used bytes)).used = rw (rest_is bytes used) at e in
      let j : a ≡ after_call handler (standing s kept out waiting c) (drop used bytes) = rw (rest_is bytes used) at f in
      rw (j, ← drop-drop n used bytes, i) (calls-more handler (standing s kept out waiting c) (drop used bytes) (omega (arith, length-drop used bytes)) ∙ g)

-- ---- the last line

module _ {C : Type 0} (handler : Handler C) (s : Stream) (kept : List ℕ) (c : C) (left : Bool) (e : left ≡ is_left s) where
  -- no line is left: nothing is written
  pub last_none : not left ≡ true → ◌≡◌ {A = Outcome C} (record { written = []; carried = c }) (after_end handler (standing s kept [] 0 c))
  unfolding after_end
  last_none h = rw (← e, not-true left h) refl

  -- one is: its answer
  pub last_some : (xs : List ℕ) (c' : C) (m : ℕ) → not left ≡ false → m ≡ min s.held (length kept)
      → xs ≡ handler.answer s.number (take m kept) → c' ≡ handler.carry s.number (take m kept) c
      → ◌≡◌ {A = Outcome C} (record { written = xs; carried = c' }) (after_end handler (standing s kept [] 0 c))
  unfolding after_end
  last_some xs c' m h f g i =
      let is : left ≡ true = not-false left h in
      let j : (at_line s).number ≡ s.number = ap (λ (x : Stream). x.number) (left_line s (sym e ∙ is)) in
      rw (← e, is, j, g, i, take_min s.held m kept f) refl
