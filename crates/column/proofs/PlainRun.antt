-- PlainRun: the opened numbers of every round of the plain run, and the answer.
use mathlib.Core.Path.{◌≡◌, refl, sym, ap, ap₂, ◌∙◌}
use mathlib.Core.Bool.{Bool, true, false, cond}
use mathlib.Core.List.{List, [], ◌∷◌, map}
use Prim.Native.Nat.{ℕ, zero, suc, ◌+◌, ◌-◌, ◌*◌, ◌/◌, ◌%◌, ◌≤◌, ◌<◌}
use native.Mathlib.Omega.{arith}
use native.Mathlib.Decide.{dec_lt}
use native.Mathlib.Nat.{mod-lt, mod-add-mod, mul-le-mul_right}
use lib.Dec.{eqb}
use borrow.Author.Tests.{le-leb, ltb-true}
use lib.ListN.{length, get_or}
use Rattle.lists.specs.Answers.{bit}
use Rattle.lists.specs.Lists.{list_from, list_to}
use Rattle.lists.proofs.Indicators.{bit_le}
use Rattle.lists.proofs.Lists.{list_to_cong, map_is}
use Rattle.field.specs.Field.{sub}
use Rattle.field.specs.Sums.{sum_to}
use Rattle.field.specs.Forms.{Registers, value}
use Rattle.field.proofs.Division.{split}
use Rattle.field.proofs.Sums.{sum_cong}
use Rattle.settings.specs.Settings.{Terms}
use Rattle.rounding.specs.Plain.{shifted, high_part, inside, verdict}
use Rattle.rounding.specs.Rounds.{gap, top, top_sum, check_opens, check_result, wrap_of, high_result, inside_result}
use Rattle.rounding.proofs.ZeroCheck.{gap-pos, check-is}
use Rattle.rounding.proofs.HighResult.{result-is}
use Rattle.rounding.proofs.BoundResult.{inside_is}
use Rattle.settings.specs.Sizes.{openings, width_of, groups}
use Rattle.book.specs.Book.{group_k, group_at}
use Rattle.slice.specs.Layout.{running_at}
use Rattle.steps.specs.Steps.{Public, public_of, shift_of, opening, checked, open_check, check_entry, group_of, after_check, running}
use Rattle.column.specs.Run.{opened_from, plain_opened}
use Rattle.column.specs.Clear.{clear_running, clear_checked, clear_opened, mask_of}
use Rattle.column.specs.Theorems.{Sound, PlainRun}
use Rattle.column.proofs.Checks.{check-opens, check_entry_lem, checked-is, every-is}
use Rattle.column.proofs.Start.{some, opens-is, step-running}
use Rattle.column.proofs.Rounds as Run
use Rattle.column.proofs.Rounds.{not_first, less_one}

-- the two kinds, by the test that the definitions ask
kind_one : (kind : ℕ) → kind ≡ 1 → eqb kind 0 ≡ false
kind_one kind e = rw e

module _ {T : Terms} {k : ℕ} {draw secret : List ℕ} (s : Sound T k draw secret) where
  abbrev r : ℕ → ℕ
  r = Run.r s

  abbrev y : ℕ → ℕ
  y = Run.y s

  abbrev ρ : ℕ → ℕ
  ρ g = Run.d s (group_at T.params g)

  abbrev R : ℕ → Registers
  R = Run.R s

  abbrev O : ℕ → ℕ → ℕ
  O = Run.O s

  abbrev w : Public
  w = public_of T (Run.M s 5)

  pos : 0 < T.params.scale.modulus
  pos = omega (arith, Run.drawn-below s 0)

  count-below : T.params.n < T.params.scale.modulus
  count-below =
      let c = split T.params.scale.modulus {b = T.params.n + 1} (omega arith) in
      omega (arith, pos, mul-le-mul_right {m = 1} {n = gap T.params.scale.modulus T.params.n} (T.params.n + 1) (gap-pos T.params.scale.modulus T.params.n pos s.gaps))

  -- y for each kind
  y_high : eqb T.params.kind 0 ≡ true → (c : ℕ) → y c ≡ sub T.params.scale.modulus (shifted T.params.scale (get_or secret c 0)) (r c)
  y_high e c =
      let f : shift_of T ≡ T.params.scale.alpha / 2 - 1 = unfold shift_of in rw e in
      Run.y_is s c ∙ rw f (sym (mod-add-mod _ _ _))

  -- a coefficient is inside by the plain meaning
  inside_plain : eqb T.params.kind 0 ≡ false → (c : ℕ) → inside_result T.params.scale T.bound (y c) (r c) ≡ bit (inside T.params.scale.modulus T.bound (get_or secret c 0))
  inside_plain e c =
      let f : shift_of T ≡ T.bound - 1 = unfold shift_of in rw e in
      let b : 0 < T.bound = ltb-true 0 T.bound (rw e at s.bounds) in
      let g : y c ≡ sub T.params.scale.modulus (get_or secret c 0 + (T.bound - 1)) (r c) = rw f at (Run.y_is s c) in
      rw g (inside_is T.params.scale s.lawful (get_or secret c 0) T.bound (r c) (s.secret_below c) (Run.drawn-below s _) b s.halves)

  -- ---- round 6

  checks : (g : ℕ) → g < groups T.params → value T.params.scale.modulus 1 (R 5) (checked w g) ≡ clear_checked T y r g
  checks g h =
      checked-is T.params.scale s.lawful T.params.n T.bound w.masked y r (R 5) T.params.kind s.kinds
      (λ c l. Run.masked-is s 4 c l)
      (λ c j l b. Run.running-is s 4 c (omega arith) l j b)
      (Run.y_below s) (λ c. Run.drawn-below s _)
      (λ e c l. rw (inside_plain (kind_one T.params.kind e) c) (bit_le _)) count-below g h

  -- what check g opens
  abbrev shown : ℕ → ℕ
  shown g = check_opens T.params.scale.modulus (group_k T.params) (ρ g) (clear_checked T y r g)

  open_check_lem : (g : ℕ) → g < groups T.params → value T.params.scale.modulus 1 (R 5) (open_check w g) ≡ shown g
  open_check_lem g h = check-opens s.lawful T.bound w.masked (Run.book s 5) s.gaps g h _ (checks g h)

  opened-check : (g : ℕ) → g < groups T.params → O 5 g ≡ shown g
  unfolding opening
  opened-check g h =
      opens-is s 5 g (unfold openings in h) ∙ open_check_lem g h

  entry : (g : ℕ) → g < groups T.params → value T.params.scale.modulus 1 (R 5) (check_entry w g (O 5 g)) ≡ check_result T.params.scale.modulus (group_k T.params) (ρ g) (shown g)
  entry g h =
      rw (opened-check g h)
      (check_entry_lem s.lawful T.bound w.masked (Run.book s 5) s.gaps g h (shown g) (mod-lt _ pos))

  settled : (c : ℕ) → c < T.params.n → R 6 (running_at 0 c) ≡ value T.params.scale.modulus 1 (R 5) (after_check w c 0 (O 5 (group_of T.params.kind c)))
  unfolding running
  settled c h = step-running s 5 0 c (omega arith) h

  -- HIGH: F − C is the high part
  high_settled : eqb T.params.kind 0 ≡ true → (c : ℕ) → c < T.params.n → R 6 (running_at 0 c) ≡ high_part T.params.scale (get_or secret c 0)
  unfolding after_check group_of
  high_settled e c h =
      let g : c < groups T.params = rw e h in
      let f : R 5 (running_at 0 c) ≡ top T.params.scale.parts (top_sum T.params.scale (y c) (r c)) = Run.running-is s 4 c (omega arith) h 0 (omega arith) ∙ (unfold clear_running in rw e) in
      let x : value T.params.scale.modulus 1 (R 5) (check_entry w c (O 5 c)) ≡ wrap_of T.params.scale (ρ c) (y c) (r c) = entry c g ∙ (unfold clear_checked in rw e) in
      settled c h
      ∙ rw e (ap₂ (sub T.params.scale.modulus) f x)
      ∙ ap (λ (z : ℕ). high_result T.params.scale (ρ c) z (r c)) (y_high e c)
      ∙ result-is T.params.scale s.lawful (get_or secret c 0) (r c) (ρ c) (s.secret_below c) (Run.drawn-below s _) (Run.drawn-below s _)

  -- BOUND: the check's result is the verdict
  bound_settled : eqb T.params.kind 0 ≡ false → R 6 (running_at 0 0) ≡ verdict T.params.scale.modulus T.bound secret
  unfolding after_check group_of verdict
  bound_settled e =
      let g : 0 < groups T.params = rw e (omega arith) in
      let sum : ℕ = sum_to T.params.n (λ (c : ℕ). inside_result T.params.scale T.bound (y c) (r c)) in
      let x : value T.params.scale.modulus 1 (R 5) (check_entry w 0 (O 5 0)) ≡ check_result T.params.scale.modulus T.params.n (ρ 0)
      (check_opens T.params.scale.modulus T.params.n (ρ 0) (T.params.n - sum)) = entry 0 g ∙ (unfold clear_checked in rw e) in
      let l : length secret ≡ T.params.n = s.secret_size in
      settled 0 (some s)
      ∙ rw e x
      ∙ check-is T.params.scale.modulus T.params.n pos s.gaps (ρ 0) (T.params.n - sum) (Run.drawn-below s _) (omega arith)
      ∙ ap (λ (z : ℕ). bit (eqb (T.params.n - z) 0)) (sum_cong T.params.n _ (λ (c : ℕ). bit (inside T.params.scale.modulus T.bound (get_or secret c 0))) (λ c h. inside_plain e c))
      ∙ (rw l at (every-is (inside T.params.scale.modulus T.bound) secret))

  -- ---- PlainRun

  -- opening o of round t + 1
  abbrev run-opens : ℕ → ℕ → ℕ
  run-opens = Run.opened-next s

  abbrev clear_opens : ℕ → ℕ → ℕ
  clear_opens t o = clear_opened T (width_of k) draw secret (suc t) o

  open_gate : (t o : ℕ) → t < 4 → o < openings T.params (suc (suc t)) → run-opens (suc t) o ≡ clear_opens (suc t) o
  unfolding clear_opened opening openings mask_of
  open_gate t o a h =
      let z : suc (suc t) - 2 ≡ t = omega arith in
      let b : o < 4 * T.params.n = rw (not_first t, le-leb (suc (suc t)) 5 (omega arith)) at h in
      rw (not_first t, le-leb (suc (suc t)) 5 (omega arith), less_one (suc t), z)
      (Run.open_factor_lem s t (o / 4) a (omega arith)
      (Run.running-is s t (o / 4) (omega arith) (omega arith)) (o / 2 % 2) (o % 2) (omega arith) (omega arith))

  open_last : (o : ℕ) → o < openings T.params 6 → run-opens 5 o ≡ clear_opens 5 o
  unfolding clear_opened opening openings mask_of
  open_last o h = open_check_lem o h

  open_is : (t o : ℕ) → t < 6 → o < openings T.params (suc t) → run-opens t o ≡ clear_opens t o
  unfolding clear_opened
  open_is zero o l h = Run.open_first s o (unfold openings in h)
  open_is (suc t) o l h = go (dec_lt t 4)
    where
      go : Dec (t < 4) → run-opens (suc t) o ≡ clear_opens (suc t) o
      go (yes a) = open_gate t o a h
      go (no a) = let e : t ≡ 4 = omega arith in rw e (open_last o (rw e at h))

  running_clear : (rounds c j : ℕ) → 1 ≤ rounds → rounds ≤ 5 → c < T.params.n → j < 2
      → R rounds (running_at j c) ≡ clear_running T (y c) (mask_of T (width_of k) draw secret c) rounds j
  unfolding mask_of
  running_clear zero c j a l h b = absurd (omega arith)
  running_clear (suc t) c j a l h b = Run.running-is s t c (omega arith) h j b

  opened_clear : (t : ℕ) → t < 6 → plain_opened T (width_of k) draw secret t ≡ list_to (openings T.params (suc t)) (clear_opened T (width_of k) draw secret (suc t))
  unfolding plain_opened opened_from
  opened_clear t l = list_to_cong (openings T.params (suc t)) _ _ (λ o h. open_is t o l h)

  answer_plain : plain_opened T (width_of k) draw secret 6 ≡ cond (eqb T.params.kind 0) (map (high_part T.params.scale) secret) (verdict T.params.scale.modulus T.bound secret ∷ [])
  unfolding plain_opened opened_from openings opening
  answer_plain = go (eqb T.params.kind 0) refl
    where
      go : (b : Bool) → eqb T.params.kind 0 ≡ b → list_to (cond b T.params.n 1) (λ (o : ℕ). R 6 (running_at 0 o))
          ≡ cond b (map (high_part T.params.scale) secret) (verdict T.params.scale.modulus T.bound secret ∷ [])
      go true e =
          let l : length secret ≡ T.params.n = s.secret_size in
          list_to_cong T.params.n _ (λ (c : ℕ). high_part T.params.scale (get_or secret c 0)) (λ c h. high_settled e c h) ∙ (rw l at (map_is (high_part T.params.scale) secret))
      go false e = unfold list_from in ap (λ (x : ℕ). x ∷ []) (bound_settled e)

pub plain_run : PlainRun
plain_run =
    record {
      running = λ T k draw secret s. running_clear s;
      opened = λ T k draw secret s. opened_clear s;
      answer = λ T k draw secret s. answer_plain s;
    }
