-- Lines put one behind another: the parts of a line, the messages of a run, the answers.
use Prim.Native.Nat.{ℕ, zero, suc, ◌+◌, ◌*◌, ◌-◌, ◌%◌, ◌≤◌, ◌<◌, min}
use mathlib.Core.Path.{◌≡◌, refl, sym, ap, ◌∙◌}
use mathlib.Core.List.{List, [], ◌++◌}
use native.Mathlib.Numerals.{add-one}
use native.Mathlib.Omega.{arith}
use native.Mathlib.Decide.{dec_lt}
use borrow.Author.Tests.{eq-eqb, ne_eqb}
use lib.ListN.{length, get_or, take, drop, length-take, length-drop, drop_of_length-le}
use lib.Seq.{drop-drop, get_or-take, get_or-drop}
use Rattle.lists.specs.Lists.{fill}
use Rattle.lists.proofs.Fill.{whole_is}
use Rattle.lists.proofs.Lists.{list_to_cong, list_to_get_d}
use Rattle.lists.proofs.Lists.{take_min}
use Rattle.text.specs.declared.TextBuffer.{TextBuffer}
use Rattle.text.specs.Text.{Text, puts, Puts}
use Rattle.text.proofs.Puts.{puts_append, puts_then}
use Rattle.settings.specs.declared.Shape.{Shape}
use Rattle.settings.specs.Schedule.{rounds}
use Rattle.state.specs.declared.Side.{Side}
use Rattle.state.specs.State.{AfterAnswer}
use Rattle.execution.specs.declared.Party.TheVariants.{Server, Phone}
use Rattle.transcript.specs.Transcript.{round_of, size_of, message_line, message_lines, answer_left, answer_or_refusal, answers_text}

-- ---- A list as far as there are so many members

drop_min : (m n : ℕ) (l : List ℕ) → n ≡ min m (length l) → drop n l ≡ drop m l
drop_min m n l e = go (dec_lt m (length l))
  where
    go : Dec (m < length l) → drop n l ≡ drop m l
    go (yes h) = let f : n ≡ m = omega arith in rw f
    go (no h) = drop_of_length-le l {i = n} (omega arith) ∙ sym (drop_of_length-le l {i = m} (omega arith))

-- n members from a place on, copied into a list of n
pub part-is : (s l : List ℕ) (at n : ℕ) → length s ≡ n → at + n ≤ length l → fill s 0 n (λ (j : ℕ). get_or l (at + j) 0) ≡ take n (drop at l)
part-is s l at n h f =
    let part = take n (drop at l) in
    let size : length part ≡ n = simp (length-take, length-drop) (omega arith) in
    whole_is s n _ h
    ∙ list_to_cong n (λ (j : ℕ). get_or l (at + j) 0) (λ (j : ℕ). get_or part j 0) (λ x k. sym (get_or-take n (drop at l) x 0 k ∙ get_or-drop at l x 0))
    ∙ (rw size at (list_to_get_d part))

-- ---- The loop over messages

some_left : (a : Shape) (n i : ℕ) (bytes : List ℕ) → 0 < length bytes
    → message_lines a (suc n) i bytes ≡ message_line (i % 2) (round_of i) (take (size_of a i) bytes) ++ message_lines a n (suc i) (drop (size_of a i) bytes)
unfolding message_lines
some_left a n i bytes h = rw (ne_eqb (length bytes) 0 (λ e. omega (arith, e)))

none_left : (a : Shape) (n i : ℕ) (bytes : List ℕ) → length bytes ≡ 0 → message_lines a n i bytes ≡ []
unfolding message_lines
none_left a zero i bytes e = refl
none_left a (suc n) i bytes e = rw (eq-eqb (length bytes) 0 e)

-- from: how many bytes the first i messages have; k: those of the next
pub lines_more : (a : Shape) (s r t : Text) (messages : List ℕ) (i from k : ℕ) → i < 2 * rounds → from < length messages → k ≡ min (size_of a i) (length messages - from)
    → puts s (message_lines a (2 * rounds - i) i (drop from messages)) ≡ t
    → r ≡ puts s (message_line (i % 2) (round_of i) (take (from + k - from) (drop from messages)))
    → puts r (message_lines a (2 * rounds - (i + 1)) (i + 1) (drop (from + k) messages)) ≡ t
lines_more a s r t messages i from k l h m e p =
    let bytes = drop from messages in
    let size : k ≡ min (size_of a i) (length bytes) = rw (length-drop from messages) m in
    let same : from + k - from ≡ k = omega arith in
    let first : take (from + k - from) bytes ≡ take (size_of a i) bytes = rw same (take_min (size_of a i) k bytes size) in
    let rest : drop (from + k) messages ≡ drop (size_of a i) bytes = sym (drop-drop k from messages) ∙ drop_min (size_of a i) k bytes size in
    let left : 2 * rounds - i ≡ suc (2 * rounds - suc i) = omega arith in
    let step = some_left a (2 * rounds - suc i) i bytes (omega (arith, length-drop from messages)) in
    rw (p, first, rest, add-one i)
    (puts_append s (message_line (i % 2) (round_of i) (take (size_of a i) bytes)) (message_lines a (2 * rounds - suc i) (suc i) (drop (size_of a i) bytes))
    ∙ ap (puts s) (sym step ∙ ap (λ (n : ℕ). message_lines a n i bytes) (sym left))
    ∙ e)

-- no bytes are left
pub lines_done : (a : Shape) (s t : Text) (messages : List ℕ) (n i from : ℕ) → length messages ≤ from → puts s (message_lines a n i (drop from messages)) ≡ t → s ≡ t
unfolding puts
lines_done a s t messages n i from h e = rw (none_left a n i (drop from messages) (length-drop from messages ∙ omega arith)) at e

-- all messages have been put
pub lines_end : (a : Shape) (s t : Text) (messages : List ℕ) (i from : ℕ) → 2 * rounds ≤ i → puts s (message_lines a (2 * rounds - i) i (drop from messages)) ≡ t → s ≡ t
unfolding puts message_lines
lines_end a s t messages i from h e = let z : 2 * rounds - i ≡ 0 = omega arith in rw z at e

-- ---- Answers

module _ (server phone : Side) (a₀ : AfterAnswer) (e₀ : a₀ ≡ answer_left server) {s x : TextBuffer} (p : Puts s x (answer_or_refusal Server a₀)) where
  pub answer_both : (a₁ : AfterAnswer) → a₁ ≡ answer_left phone → {y : TextBuffer} → Puts x y (answer_or_refusal Phone a₁) → Puts s y (answers_text server phone)
  unfolding answers_text
  answer_both a₁ e₁ q = rw (← e₀, ← e₁) (puts_then _ _ p q)
