-- The parts of an input do not matter: the theorem `WritesTheOutput`.
use Prim.Native.Nat.{ℕ, zero, suc, ◌+◌, ◌≤◌, ◌<◌, min}
use mathlib.Core.Path.{◌≡◌, refl, sym, ap, ◌∙◌}
use mathlib.Core.Bool.{Bool, true, false, true≢false}
use mathlib.Core.List.{List, [], ◌∷◌, ◌++◌, append-nil, append_assoc}
use native.Mathlib.Omega.{arith}
use native.Mathlib.Numerals.{add-one}
use native.Mathlib.Decide.{dec_lt}
use borrow.Author.Tests.{lt-ltb, le-ltb, ne_eqb}
use lib.ListN.{length, take, drop, length-take, length-append, length-drop}
use lib.Seq.{take-append_seam, take-append-le, take-nil, take-take, take_all, drop-length}
use Rattle.stream.specs.Input.{lines_of, answers_from, output_of, carried_from, carried_over}
use Rattle.lists.specs.Lists.{length_before}
use Rattle.lists.proofs.Bytes.{length_before_most}
use Rattle.stream.specs.Stream.{at_start, at_line, held_of, held_after, kept_after, next_line}
use Rattle.stream.specs.Theorems.{Handler, State, Outcome, LooksAt, after_call, after_calls, after_parts, after_end, outcome_for, concatenated, WritesTheOutput}
use Rattle.stream.proofs.Standing.{same_line, left-none, left_is}
use Rattle.stream.proofs.Onto.{onto, onto_append, onto_line, onto-none, lines_ended, lines_open}

-- the most lines that have numbers of their own
abbrev most : ℕ
most = 18446744073709551615

-- the front of a list whose front is known
take-front : (n : ℕ) (xs ys : List ℕ) → take n (take n xs ++ ys) ≡ take n (xs ++ ys)
take-front n xs ys = go (dec_lt n (length xs))
  where
    go : Dec (n < length xs) → take n (take n xs ++ ys) ≡ take n (xs ++ ys)
    go (yes h) =
        take-append-le n (take n xs) ys (omega (arith, length-take n xs))
        ∙ take-take n n xs (omega arith)
        ∙ sym (take-append-le n xs ys (omega arith))
    go (no h) = ap (λ (l : List ℕ). take n (l ++ ys)) (take_all n xs (omega arith))

module _ {C : Type 0} (handler : Handler C) (room : ℕ) (cut : LooksAt C room handler) (total : Outcome C) where
  -- what holds between two calls, when `rest` is still to come: the number and the bytes of the line that is being read
  record Stands (a : State C) (rest : List ℕ) : Type 0 where
    k : ℕ
    line : List ℕ
    number : (at_line a.stream).number ≡ min k most
    held : held_of (at_line a.stream) a.kept ≡ take room line
    long : length a.kept ≡ room
    shut : a.stream.ended ≡ true → line ≡ []
    output : a.written ++ answers_from handler.answer k (onto line (lines_of rest)) ≡ total.written
    carrying : carried_from handler.carry k (onto line (lines_of rest)) a.carried ≡ total.carried
    few : k + length (onto line (lines_of rest)) ≤ suc most

  -- one call, on the number of the line and the bytes that are held then
  module _ (a : State C) (bytes rest : List ℕ) (st : Stands a (bytes ++ rest)) where
    abbrev n : ℕ
    n = length_before 10 bytes

    -- the line as far as it goes
    abbrev grown : List ℕ
    grown = st.line ++ take n bytes

    held_grown : held_after a.stream a.kept bytes ≡ take room grown
    held_grown = rw (st.held, st.long) (take-front room st.line (take n bytes))

    length_held : length (held_after a.stream a.kept bytes) ≤ room
    length_held = omega (arith, length-take (length a.kept) (held_of (at_line a.stream) a.kept ++ take n bytes), st.long)

    kept-front : take (length (held_after a.stream a.kept bytes)) (kept_after a.stream a.kept bytes) ≡ take room grown
    kept-front = take-append_seam (held_after a.stream a.kept bytes) _ ∙ held_grown

    kept_long : length (kept_after a.stream a.kept bytes) ≡ room
    kept_long =
        length-append (held_after a.stream a.kept bytes) _
        ∙ omega (arith, length_held, st.long, length-drop (length (held_after a.stream a.kept bytes)) a.kept)

    -- the line has ended, and is answered
    abbrev ended : State C
    ended =
        record {
          stream = record { number = (at_line a.stream).number; held = length (held_after a.stream a.kept bytes); ended = true };
          kept = kept_after a.stream a.kept bytes;
          written =
              a.written
              ++ handler.answer (at_line a.stream).number (take (length (held_after a.stream a.kept bytes)) (kept_after a.stream a.kept bytes));
          carried = handler.carry (at_line a.stream).number (take (length (held_after a.stream a.kept bytes)) (kept_after a.stream a.kept bytes)) a.carried;
        }

    called_ended : n < length bytes → after_call handler a bytes ≡ ended
    unfolding after_call next_line
    called_ended h = rw (lt-ltb n (length bytes) h) refl

    used_ended : n < length bytes → (next_line a.stream a.kept bytes).used ≡ suc n
    unfolding next_line
    used_ended h = rw (lt-ltb n (length bytes) h) (add-one n)

    -- the lines to come, before and after
    lines_next : n < length bytes → onto st.line (lines_of (bytes ++ rest)) ≡ grown ∷ lines_of (drop (suc n) bytes ++ rest)
    lines_next h =
        ap (onto st.line) (lines_ended bytes rest h)
        ∙ sym (onto_append st.line (take n bytes) _)
        ∙ onto_line grown [] _
        ∙ ap (λ (l : List ℕ). l ∷ lines_of (drop (suc n) bytes ++ rest)) (append-nil grown)

    stands_ended : n < length bytes → Stands ended (drop (suc n) bytes ++ rest)
    unfolding at_line onto answers_from carried_from
    stands_ended h =
        let f : st.k + suc (length (lines_of (drop (suc n) bytes ++ rest))) ≤ suc most = rw (lines_next h) at st.few in
        let m : (at_line a.stream).number ≡ st.k = st.number ∙ omega (arith, f) in
        let t : handler.answer (at_line a.stream).number (take (length (held_after a.stream a.kept bytes)) (kept_after a.stream a.kept bytes)) ≡ handler.answer st.k grown =
        rw (m, kept-front) (cut.answer_cut st.k grown) in
        let u : ended.carried ≡ handler.carry st.k grown a.carried = rw (m, kept-front) (cut.carry_cut st.k grown a.carried) in
        record {
          k = suc st.k;
          line = [];
          number = omega (arith, st.number);
          held = sym (take-nil room);
          long = kept_long;
          shut = λ _. refl;
          output = rw t (append_assoc a.written (handler.answer st.k grown) _ ∙ (rw (lines_next h) at st.output));
          carrying = rw u (rw (lines_next h) at st.carrying);
          few = omega (arith, f);
        }

    -- it goes on
    abbrev going : State C
    going =
        record {
          stream = record { number = (at_line a.stream).number; held = length (held_after a.stream a.kept bytes); ended = false };
          kept = kept_after a.stream a.kept bytes;
          written = a.written ++ [];
          carried = a.carried;
        }

    called_open : length bytes ≤ n → after_call handler a bytes ≡ going
    unfolding after_call next_line
    called_open h = rw (le-ltb n (length bytes) h) refl

    used_open : length bytes ≤ n → (next_line a.stream a.kept bytes).used ≡ length bytes
    unfolding next_line
    used_open h = rw (le-ltb n (length bytes) h) (omega (arith, length_before_most 10 bytes))

    lines_same : length bytes ≤ n → onto st.line (lines_of (bytes ++ rest)) ≡ onto grown (lines_of rest)
    lines_same h =
        ap (onto st.line) (lines_open bytes rest h)
        ∙ sym (onto_append st.line bytes (lines_of rest))
        ∙ ap (λ (l : List ℕ). onto (st.line ++ l) (lines_of rest)) (sym (take_all n bytes h))

    stands_open : length bytes ≤ n → Stands going rest
    unfolding at_line
    stands_open h =
        record {
          k = st.k;
          line = grown;
          number = st.number;
          held = kept-front;
          long = kept_long;
          shut = λ e. absurd (true≢false (sym e));
          output = rw append-nil (rw (lines_same h) at st.output);
          carrying = rw (lines_same h) at st.carrying;
          few = rw (lines_same h) at st.few;
        }

  -- ---- the calls of a part, and the parts

  -- so many calls take in any part of so many bytes
  abbrev Enough : ℕ → Type 0
  Enough fuel = (a : State C) (bytes rest : List ℕ) → length bytes ≤ fuel → Stands a (bytes ++ rest) → Stands (after_calls handler fuel a bytes) rest

  one_more : (fuel : ℕ) → Enough fuel → Enough (suc fuel)
  unfolding after_calls
  one_more fuel more a [] rest h st = st
  one_more fuel more a (b ∷ bytes) rest h st = rw (ne_eqb (suc (length bytes)) 0 (λ e. omega arith)) (go (dec_lt (length_before 10 (b ∷ bytes)) (suc (length bytes))))
    where
      go : Dec (length_before 10 (b ∷ bytes) < suc (length bytes))
          → Stands (after_calls handler fuel (after_call handler a (b ∷ bytes)) (drop (next_line a.stream a.kept (b ∷ bytes)).used (b ∷ bytes))) rest
      go (yes l) =
          rw (called_ended a (b ∷ bytes) rest st l, used_ended a (b ∷ bytes) rest st l)
          (more _ (drop (length_before 10 (b ∷ bytes)) bytes) rest (omega (arith, length-drop (length_before 10 (b ∷ bytes)) bytes)) (stands_ended a (b ∷ bytes) rest st l))
      go (no l) =
          rw (called_open a (b ∷ bytes) rest st (omega arith), used_open a (b ∷ bytes) rest st (omega arith), drop-length bytes)
          (more _ [] rest (omega arith) (stands_open a (b ∷ bytes) rest st (omega arith)))

  calls : (fuel : ℕ) → Enough fuel
  unfolding after_calls
  calls zero a [] rest h st = st
  calls zero a (b ∷ bytes) rest h st = absurd (omega arith)
  calls (suc fuel) a bytes rest h st = one_more fuel (calls fuel) a bytes rest h st

  parts_stand : (ps : List (List ℕ)) (a : State C) → Stands a (concatenated ps) → Stands (after_parts handler a ps) []
  unfolding after_parts concatenated
  parts_stand [] a st = st
  parts_stand (p ∷ ps) a st = parts_stand ps (after_calls handler (length p) a p) (calls (length p) a p (concatenated ps) (omega arith) st)

  -- ---- the end

  -- with no byte of a last line held, there is none
  none_left : (kept line : List ℕ) (held : ℕ) → 0 < room → held ≡ 0 → take held kept ≡ take room line → line ≡ []
  none_left kept [] held r e h = refl
  none_left kept (b ∷ line) held r e h =
      absurd (omega (arith, simp length-take at (ap length h)))

  -- with some, there is one
  some_left : (kept line : List ℕ) (held : ℕ) → 0 < held → length kept ≡ room → 0 < room → take held kept ≡ take room line → onto line [] ≡ line ∷ []
  some_left kept [] held p l r h = absurd (omega (arith, simp length-take at (ap length h)))
  some_left kept (b ∷ line) held p l r h = onto-none b line

  module _ (a : State C) (st : Stands a []) where
    no_line : st.line ≡ [] → ◌≡◌ {A = Outcome C} (record { written = a.written ++ []; carried = a.carried }) total
    unfolding lines_of onto answers_from carried_from
    no_line e = rw (rw e at st.output, rw e at st.carrying) refl

    last_line : a.stream.ended ≡ false → onto st.line [] ≡ st.line ∷ []
        → let number = (at_line a.stream).number in
        let line = held_of a.stream a.kept in
        ◌≡◌ {A = Outcome C} (record { written = a.written ++ handler.answer number line; carried = handler.carry number line a.carried }) total
    unfolding lines_of answers_from carried_from
    last_line e l =
        let f : st.k + 1 ≤ suc most = rw l at st.few in
        let m : (at_line a.stream).number ≡ st.k = st.number ∙ omega (arith, f) in
        let h : held_of a.stream a.kept ≡ take room st.line = rw (same_line a.stream e) at st.held in
        rw (
          m,
          h,
          cut.answer_cut st.k st.line,
          cut.carry_cut st.k st.line a.carried,
          rw (l, append-nil (handler.answer st.k st.line)) at st.output,
          rw l at st.carrying,
        ) refl

    ends : 0 < room → after_end handler a ≡ total
    unfolding after_end
    ends r = go a.stream.ended refl (dec_lt 0 a.stream.held)
      where
        go : (t : Bool) → a.stream.ended ≡ t → Dec (0 < a.stream.held) → after_end handler a ≡ total
        go true e _ = rw (left-none a.stream e) (no_line (st.shut e))
        go false e (yes l) =
            rw (left_is a.stream true e (lt-ltb 0 a.stream.held l))
            (last_line e (some_left a.kept st.line a.stream.held l st.long r (rw (same_line a.stream e) at st.held)))
        go false e (no l) =
            rw (left_is a.stream false e (le-ltb 0 a.stream.held (omega arith)))
            (no_line (none_left a.kept st.line a.stream.held r (omega arith) (rw (same_line a.stream e) at st.held)))

pub writes_the_output : WritesTheOutput
unfolding outcome_for output_of carried_over onto at_line
writes_the_output C handler c kept r cut parts few =
    let input = concatenated parts in
    let total : Outcome C = record { written = output_of handler.answer input; carried = carried_over handler.carry input c } in
    let begin : Stands handler (length kept) cut total (record { stream = at_start; kept = kept; written = []; carried = c }) input =
    record {
      k = 1;
      line = [];
      number = refl;
      held = sym (take-nil (length kept));
      long = refl;
      shut = λ _. refl;
      output = refl;
      carrying = refl;
      few = omega (arith, few);
    }
    in
    ends handler (length kept) cut total _ (parts_stand handler (length kept) cut total parts _ begin) r
