-- The questions of a line are those of the deal, the server's begin and the phone's begin, in this order.
use Prim.Native.Nat.{ℕ, zero, suc, ◌*◌, ◌/◌, ◌<◌}
use mathlib.Core.Path.{◌≡◌, refl, sym, ap, ◌∙◌}
use mathlib.Core.Bool.{Bool, true, false, cond, ◌&&◌}
use mathlib.Core.List.{List}
use native.Mathlib.Omega.{arith}
use lib.Dec.{eqb, ltb}
use lib.ListN.{length, get_or, replicate, length-replicate}
use borrow.Author.Tests.{lt-ltb, eq-eqb, ne_eqb}
use Rattle.lists.specs.Answers.{ask}
use Rattle.lists.specs.Lists.{all_below, list_to}
use Rattle.lists.proofs.Lists.{get_d_list_to, list_to_get_d}
use Rattle.lists.proofs.Every.{below_at, every-list_to}
use Rattle.lists.proofs.Questions.{and_true, passed}
use Rattle.field.specs.Field.{q}
use Rattle.settings.specs.Sizes.{key_count, width, shared, draw_length, work_length}
use Rattle.settings.specs.Questions.{ask_shape, is_bit, count_ok, bound_ok, ask_settings}
use Rattle.settings.proofs.Ready.{count-ready}
use Rattle.settings.specs.Settings.{params_in}
use Rattle.dealer.specs.Deal.{deal_no}
use Rattle.state.specs.State.{fresh_side, whole, send_due, take_due, under_way}
use Rattle.side.specs.Side.{handed_no, begin_no}
use Rattle.syntax.specs.declared.Request.{Request}
use Rattle.lines.specs.Plain.{secret_of, request_no, settings_of}
use Rattle.side.specs.declared.Run.{Run}
use Rattle.lines.specs.Run.{ones, in_columns}
use Rattle.lines.proofs.Handed.{ones_ok, columns_long, columns_below, zeros-below, length_front}

-- what a begin is handed: "keys 1, serial = line number"
abbrev pub run_for : ℕ → Request → ℕ → Run
run_for serial o number = record { number = number; settings = settings_of o; keys = ones; serial = serial }

-- lent slices of the lengths that a request asks for; a draw of numbers below q
pub record LentSlices (o : Request) (draw server_inputs phone_inputs server_book phone_book : List ℕ) : Type 0 where
  pub draw_long : length draw ≡ draw_length (params_in (settings_of o)) width
  pub draw_below : all_below q draw ≡ true
  pub inputs_long : length server_inputs ≡ o.count * width
  pub zeros : phone_inputs ≡ replicate (o.count * width) 0
  pub server_long : length server_book ≡ shared (params_in (settings_of o)) * width
  pub phone_long : length phone_book ≡ shared (params_in (settings_of o)) * width

-- the first no of two calls, one after the other
abbrev pub first_no : ℕ → ℕ → ℕ
first_no one two = cond (eqb one 0) two one

-- ---- Question 6 of the server's inputs is that of the coefficients

columns_third : (xs : List ℕ) (j : ℕ) → j < length xs → get_or (in_columns xs) (j * width) 0 ≡ get_or xs j 0
unfolding in_columns
columns_third xs j l =
    let e : j * width / width ≡ j = omega arith in
    get_d_list_to (length xs * width) (λ (y : ℕ). get_or xs (y / width) 0) (j * width) 0 (omega arith) ∙ ap (λ (i : ℕ). get_or xs i 0) e

below_listed : (xs : List ℕ) → all_below q (in_columns xs) ≡ true → all_below q (list_to (length xs) (λ (k : ℕ). get_or xs k 0)) ≡ true
unfolding all_below
below_listed xs e = every-list_to (λ (x : ℕ). ltb x q) (length xs) (λ (k : ℕ). get_or xs k 0) (λ j l. lt-ltb (get_or xs j 0) q (small j l))
  where
    small : (j : ℕ) → j < length xs → get_or xs j 0 < q
    small j l = rw (← columns_third xs j l) (below_at q (in_columns xs) (j * width) (omega arith) e)

same_answer : (a b : Bool) → (a ≡ true → b ≡ true) → (b ≡ true → a ≡ true) → a ≡ b
same_answer true b f g = sym (f refl)
same_answer false true f g = g refl
same_answer false false f g = refl

columns_same : (xs : List ℕ) → all_below q (in_columns xs) ≡ all_below q xs
columns_same xs =
    same_answer (all_below q (in_columns xs)) (all_below q xs) (λ e. sym (ap (all_below q) (list_to_get_d xs)) ∙ below_listed xs e) (columns_below xs)

-- ---- The order

-- a second call that refuses nothing more
no_more : (s t : ℕ) → (s ≡ 0 → t ≡ 0) → s ≡ first_no s t
no_more zero t f = sym (f refl)
no_more (suc s) t f = rw (ne_eqb (suc s) 0 (λ e. absurd (omega (arith, e))))

passed_yes : (rest : ℕ) → ask true 6 rest ≡ rest
unfolding ask
passed_yes rest = refl

-- the deal asks two questions, the begins three and more
in-turn : (b c d : Bool) (r s t : ℕ) → (c ≡ true → r ≡ s) → (c ≡ true → s ≡ 0 → t ≡ 0)
    → ask b 1 (ask c 2 (ask d 3 r))
    ≡ first_no (ask b 1 (ask c 2 0)) (first_no (ask b 1 (ask c 2 (ask d 3 s))) (ask b 1 (ask c 2 (ask d 3 t))))
unfolding ask
in-turn false c d r s t e f = refl
in-turn true false d r s t e f = refl
in-turn true true false r s t e f = refl
in-turn true true true r s t e f = e refl ∙ no_more s t (f refl)

module _ (serial : ℕ) (o : Request) (eight : length o.numbers ≡ 8) (draw inputs zeros a b work : List ℕ) (l : LentSlices o draw inputs zeros a b)
    (work_long : length work ≡ work_length key_count) where
  deal-asks : deal_no key_count (settings_of o).shape ones ones draw a b ≡ ask (is_bit o.set && is_bit o.kind) 1 (ask (count_ok o.count) 2 0)
  unfolding deal_no ask_shape ask
  deal-asks = rw (ones_ok, eq-eqb _ _ l.draw_long, eq-eqb _ _ l.server_long, eq-eqb _ _ l.phone_long, l.draw_below)

  -- a book of the order's length, with numbers below q
  abbrev pub IsBook : List ℕ → Type 0
  IsBook book = (length book ≡ shared (params_in (settings_of o)) * width) × (all_below q book ≡ true)

  abbrev handed : List ℕ → List ℕ → ℕ
  handed xs book = handed_no key_count fresh_side (run_for serial o 0) xs book work

  handed_asks : (xs book : List ℕ) → length xs ≡ o.count * width → IsBook book → handed xs book ≡ ask (all_below q xs) 6 (ask (ltb 0 serial) 7 0)
  unfolding handed_no ask
  handed_asks xs book e f = rw (ones_ok, eq-eqb _ _ e, eq-eqb _ _ f.0, eq-eqb _ _ work_long, f.1, and_true (all_below q xs))

  begin-asks : (number : ℕ) → number < 2 → (xs book : List ℕ)
      → begin_no key_count fresh_side (run_for serial o number) xs book work
      ≡ ask (is_bit o.set && is_bit o.kind) 1 (ask (count_ok o.count) 2 (ask (bound_ok o.kind o.bound) 3 (handed xs book)))
  unfolding begin_no handed_no under_way send_due take_due whole ask_settings ask_shape ask
  begin-asks number h xs book = rw (lt-ltb number 2 h)

  coefficients_long : count_ok o.count ≡ true → length (in_columns (secret_of o)) ≡ o.count * width
  coefficients_long e =
      columns_long (secret_of o) ∙ ap (λ (n : ℕ). n * width) (sym (length_front o.count o.numbers (omega (arith, eight, (count-ready o.count e).1))))

  -- the first no of a line is the first no of the deal, the server's begin and the phone's begin
  pub asked_in_order : (server phone : List ℕ) → IsBook server → IsBook phone
      → request_no serial o
      ≡ first_no (deal_no key_count (settings_of o).shape ones ones draw a b)
      (first_no (begin_no key_count fresh_side (run_for serial o 0) (in_columns (secret_of o)) server work)
      (begin_no key_count fresh_side (run_for serial o 1) zeros phone work))
  unfolding request_no ask_settings ask_shape ask
  asked_in_order server phone f g =
      rw (deal-asks, begin-asks 0 (omega arith) (in_columns (secret_of o)) server, begin-asks 1 (omega arith) zeros phone)
      (in-turn (is_bit o.set && is_bit o.kind) (count_ok o.count) (bound_ok o.kind o.bound) (ask (all_below q (secret_of o)) 6 (ask (ltb 0 serial) 7 0))
      (handed (in_columns (secret_of o)) server) (handed zeros phone)
      (λ e. ap (λ (x : Bool). ask x 6 (ask (ltb 0 serial) 7 0)) (sym (columns_same (secret_of o))) ∙ sym (handed_asks (in_columns (secret_of o)) server (coefficients_long e) f))
      (λ e z. handed_asks zeros phone (ap length l.zeros ∙ length-replicate {A = ℕ} (o.count * width) 0) g
      ∙ ap (λ (x : Bool). ask x 6 (ask (ltb 0 serial) 7 0)) (ap (all_below q) l.zeros ∙ zeros-below (o.count * width))
      ∙ passed_yes (ask (ltb 0 serial) 7 0) ∙ (passed (all_below q (in_columns (secret_of o))) 5 (ask (ltb 0 serial) 7 0)
      (sym (handed_asks (in_columns (secret_of o)) server (coefficients_long e) f) ∙ z)).1))
