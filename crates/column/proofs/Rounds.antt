-- The plain run through rounds 1 to 5: the masked numbers, the factors that are opened, and the running registers.
use mathlib.Core.Path.{◌≡◌, refl, sym, ◌∙◌}
use mathlib.Core.Bool.{false}
use mathlib.Core.List.{List}
use Prim.Native.Nat.{ℕ, zero, suc, ◌+◌, ◌-◌, ◌*◌, ◌/◌, ◌%◌, ◌<◌}
use native.Mathlib.Omega.{arith}
use native.Mathlib.Nat.{mod-lt}
use lib.Dec.{eqb}
use borrow.Author.Tests.{lt-ltb, le-leb, ne_eqb}
use lib.ListN.{get_or}
use Rattle.field.specs.Field.{sub}
use Rattle.field.specs.Forms.{Registers, value}
use Rattle.settings.specs.Settings.{Terms}
use Rattle.settings.specs.Sizes.{openings, width_of}
use Rattle.book.specs.Book.{mask_at, triple_at, drawn}
use Rattle.slice.specs.Layout.{running_at}
use Rattle.steps.specs.Steps.{Public, public_of, shift_of, opening, open_factor, running}
use Rattle.steps.specs.Work.{opening_on}
use Rattle.column.specs.Clear.{clear_running, clear_factor, mask_of, masked_of}
use Rattle.column.specs.Theorems.{Sound}
use Rattle.column.proofs.Clear.{first_clear}
use Rattle.column.proofs.Gates.{Held, input_is, sum_plain, factor-is, gate_next}
use Rattle.column.proofs.Start.{regs, masks, opens, opens-is, step-masked, step-running, book_held, input_held}

-- round t + 2 is no round 1
pub not_first : (t : ℕ) → eqb (suc (suc t)) 1 ≡ false
not_first t = ne_eqb (suc (suc t)) 1 (omega arith)

pub less_one : (t : ℕ) → suc t - 1 ≡ t
less_one t = omega arith

module _ {T : Terms} {k : ℕ} {draw secret : List ℕ} (s : Sound T k draw secret) where
  -- the drawn numbers, r and y of each coefficient
  abbrev pub d : ℕ → ℕ
  d = drawn T.params (width_of k) draw

  abbrev pub r : ℕ → ℕ
  r c = d (mask_at T.params c)

  abbrev pub y : ℕ → ℕ
  y = masked_of T (width_of k) draw secret

  pub drawn-below : (x : ℕ) → d x < T.params.scale.modulus
  unfolding drawn
  drawn-below x = s.draw_below _

  pub y_is : (c : ℕ) → y c ≡ sub T.params.scale.modulus (get_or secret c 0 + shift_of T) (r c)
  unfolding masked_of mask_of
  y_is c = refl

  pub y_below : (c : ℕ) → y c < T.params.scale.modulus
  unfolding masked_of
  y_below c = mod-lt _ (omega (arith, drawn-below 0))

  -- the run
  abbrev pub R : ℕ → Registers
  R = regs s

  abbrev pub M : ℕ → ℕ → ℕ
  M = masks s

  abbrev pub O : ℕ → ℕ → ℕ
  O = opens s

  pub book : (t : ℕ) → Held T.params (R t) d
  book t = book_held s t

  -- the opening o of round t + 1
  abbrev pub opened-next : ℕ → ℕ → ℕ
  opened-next t o = opening_on (public_of T (M t)) (suc t) 1 (R t) o

  -- round 1
  pub open_first : (c : ℕ) → c < T.params.n → opened-next 0 c ≡ y c
  unfolding opening
  open_first c h =
      input_is T.bound (M 0) (book 0) c h
      ∙ rw (input_held s c h) (sym (y_is c))

  opened_first : (c : ℕ) → c < T.params.n → O 0 c ≡ y c
  opened_first c h = opens-is s 0 c (unfold openings in h) ∙ open_first c h

  -- from then on the slice holds the masked numbers
  pub masked-is : (t c : ℕ) → c < T.params.n → M (suc t) c ≡ y c
  masked-is zero c h = step-masked s 0 c ∙ rw (lt-ltb c T.params.n h) (opened_first c h)
  masked-is (suc t) c h = step-masked s (suc t) c ∙ rw (not_first t) (masked-is t c h)

  -- ---- rounds 2 to 5: round t + 2 takes digit t + 1

  abbrev pub clear : ℕ → ℕ → ℕ → ℕ
  clear t c j = clear_running T (y c) (r c) t j

  module _ (t c : ℕ) (l : t < 4) (h : c < T.params.n) (before : (j : ℕ) → j < 2 → R (suc t) (running_at j c) ≡ clear (suc t) c j) where
    abbrev w : Public
    w = public_of T (M (suc t))

    masked_below : M (suc t) c < T.params.scale.modulus
    masked_below = rw (masked-is t c h) (y_below c)

    before-masked : (j : ℕ) → j < 2 → R (suc t) (running_at j c) ≡ clear_running T (M (suc t) c) (r c) (suc t) j
    before-masked j b = rw (masked-is t c h) (before j b)

    -- the factors of gate j
    pub open_factor_lem : (j part : ℕ) → j < 2 → part < 2
        → value T.params.scale.modulus 1 (R (suc t)) (open_factor w c (suc t) j part)
        ≡ sub T.params.scale.modulus (clear_factor T (y c) (r c) (suc t) j part) (d (triple_at T.params c (2 * t + j) + part))
    open_factor_lem j part a b =
        rw (masked-is t c h, less_one t) at
        (factor-is s.lawful T.bound (M (suc t)) (book (suc t)) c h masked_below (drawn-below _) (suc t) (omega arith) (omega arith) before-masked j part a b)

    opened-factor : (j part : ℕ) → j < 2 → part < 2 → O (suc t) (4 * c + 2 * j + part) ≡ value T.params.scale.modulus 1 (R (suc t)) (open_factor w c (suc t) j part)
    unfolding opening
    opened-factor j part a b =
        let u : (4 * c + 2 * j + part) / 4 ≡ c = omega arith in
        let v : (4 * c + 2 * j + part) / 2 % 2 ≡ j = omega arith in
        let x : (4 * c + 2 * j + part) % 2 ≡ part = omega arith in
        opens-is s (suc t) (4 * c + 2 * j + part) (unfold openings in rw (not_first t, le-leb (suc (suc t)) 5 (omega arith)) (omega arith))
        ∙ rw (not_first t, le-leb (suc (suc t)) 5 (omega arith), u, v, x, less_one (suc t))

    running_gate : (j : ℕ) → j < 2 → R (suc (suc t)) (running_at j c) ≡ clear (suc (suc t)) c j
    unfolding running
    running_gate j b =
        let z : 4 * c + 2 * j + 0 ≡ 4 * c + 2 * j = omega arith in
        step-running s (suc t) j c b h
        ∙ rw (not_first t, le-leb (suc (suc t)) 5 (omega arith), less_one (suc t), rw z at (opened-factor j 0 b (omega arith)), opened-factor j 1 b (omega arith))
        (rw (masked-is t c h) at
        (gate_next s.lawful T.bound (M (suc t)) (book (suc t)) c h masked_below (drawn-below _) (suc t) (omega arith) (omega arith) before-masked s.kinds j b))

  running_first : (c j : ℕ) → c < T.params.n → j < 2 → R 1 (running_at j c) ≡ clear 1 c j
  unfolding running
  running_first c j h b =
      let l : O 0 c < T.params.scale.modulus = rw (opened_first c h) (y_below c) in
      step-running s 0 j c b h
      ∙ sum_plain s.lawful T.bound (O 0) (book 0) c h l (drawn-below _) 0 j (omega arith)
      ∙ first_clear s.lawful T.params.n T.bound (O 0 c) (r c) l (drawn-below _) T.params.kind j s.kinds b
      ∙ rw (opened_first c h)

  pub running-is : (t c : ℕ) → t < 5 → c < T.params.n → (j : ℕ) → j < 2 → R (suc t) (running_at j c) ≡ clear (suc t) c j
  running-is zero c l h j b = running_first c j h b
  running-is (suc t) c l h j b = running_gate t c (omega arith) h (running-is t c (omega arith) h) j b
