-- A write between two calls changes nothing but what waits.
use Prim.Native.Nat.{ℕ, zero, suc, ◌+◌, ◌≤◌}
use mathlib.Core.Path.{◌≡◌, refl, sym, ap, ◌∙◌}
use mathlib.Core.Bool.{Bool, true, false, cond}
use mathlib.Core.List.{List, [], ◌++◌, append-nil, append_assoc}
use lib.Dec.{eqb}
use lib.ListN.{length, drop, drop_of_length-le}
use lib.Seq.{drop-drop}
use Rattle.stream.specs.declared.Stream.{Stream}
use Rattle.stream.specs.Stream.{next_line}
use Rattle.stream.specs.Theorems.{Handler, State, after_call, after_calls}
use Rattle.stream.specs.Waiting.{standing, flushed, all_calls}
use Rattle.stream.proofs.Waiting.{rest, rest_is}

module _ {C : Type 0} (handler : Handler C) where
  call-flushed : (a : State C) (bytes : List ℕ) → flushed (after_call handler (flushed a) bytes) ≡ flushed (after_call handler a bytes)
  unfolding after_call
  call-flushed a bytes = refl

  calls-flushed : (fuel : ℕ) (a : State C) (bytes : List ℕ) → flushed (after_calls handler fuel (flushed a) bytes) ≡ flushed (after_calls handler fuel a bytes)
  unfolding after_calls
  calls-flushed zero a bytes = refl
  calls-flushed (suc fuel) a bytes = go (eqb (length bytes) 0) (calls-flushed fuel)
    where
      go : (t : Bool) → ((b : State C) (bs : List ℕ) → flushed (after_calls handler fuel (flushed b) bs) ≡ flushed (after_calls handler fuel b bs))
          → flushed (cond t (flushed a) (after_calls handler fuel (after_call handler (flushed a) bytes) (drop (next_line a.stream a.kept bytes).used bytes)))
          ≡ flushed (cond t a (after_calls handler fuel (after_call handler a bytes) (drop (next_line a.stream a.kept bytes).used bytes)))
      go true ih = refl
      go false ih =
          sym (ih (after_call handler (flushed a) bytes) _)
          ∙ ap (λ (b : State C). flushed (after_calls handler fuel b (drop (next_line a.stream a.kept bytes).used bytes))) (call-flushed a bytes)
          ∙ ih (after_call handler a bytes) _

  -- what is written then goes behind what was written before
  pub calls-behind : (fuel : ℕ) (a : State C) (bytes : List ℕ) → (after_calls handler fuel a bytes).written ≡ a.written ++ (after_calls handler fuel (flushed a) bytes).written
  unfolding after_calls after_call
  calls-behind zero a bytes = sym (append-nil a.written)
  calls-behind (suc fuel) a bytes = go (eqb (length bytes) 0) (calls-behind fuel)
    where
      go : (t : Bool) → ((b : State C) (bs : List ℕ) → (after_calls handler fuel b bs).written ≡ b.written ++ (after_calls handler fuel (flushed b) bs).written)
          → (cond t a (after_calls handler fuel (after_call handler a bytes) (drop (next_line a.stream a.kept bytes).used bytes))).written
          ≡ a.written ++ (cond t (flushed a) (after_calls handler fuel (after_call handler (flushed a) bytes) (drop (next_line a.stream a.kept bytes).used bytes))).written
      go true ih = sym (append-nil a.written)
      go false ih =
          ih (after_call handler a bytes) _
          ∙ append_assoc a.written _ _
          ∙ ap (λ (l : List ℕ). a.written ++ l) (sym (ih (after_call handler (flushed a) bytes) (drop (next_line a.stream a.kept bytes).used bytes)))

  -- ---- the loop that writes

  pub part_on : (s s' : Stream) (kept kept' bytes out' : List ℕ) (at used waiting : ℕ) (c c' : C) (t : State C)
      → all_calls handler (standing s' kept' out' waiting c') (drop used (rest bytes at)) ≡ all_calls handler (standing s kept [] 0 c) (rest bytes at)
      → flushed (all_calls handler (standing s kept [] 0 c) (drop at bytes)) ≡ t
      → flushed (all_calls handler (standing s' kept' [] 0 c') (drop (at + used) bytes)) ≡ t
  part_on s s' kept kept' bytes out' at used waiting c c' t e f =
      let g : all_calls handler (standing s' kept' out' waiting c') (drop (at + used) bytes) ≡ all_calls handler (standing s kept [] 0 c) (drop at bytes) =
      rw (rest_is bytes at, drop-drop used at bytes) at e in
      calls-flushed _ (standing s' kept' out' waiting c') (drop (at + used) bytes) ∙ ap flushed g ∙ f

  pub part-done : (s : Stream) (kept bytes : List ℕ) (at : ℕ) (c : C) (t : State C) → length bytes ≤ at
      → flushed (all_calls handler (standing s kept [] 0 c) (drop at bytes)) ≡ t → standing s kept [] 0 c ≡ t
  unfolding after_calls
  part-done s kept bytes at c t h e = rw (drop_of_length-le bytes h) at e
