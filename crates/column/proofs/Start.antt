-- The plain column through the rounds: what it holds at the start, what a round keeps, and what a round writes.
use mathlib.Core.Path.{◌≡◌, refl, ◌∙◌}
use mathlib.Core.List.{List, [], ◌∷◌}
use Prim.Native.Nat.{ℕ, zero, suc, ◌+◌, ◌-◌, ◌*◌, ◌≤◌, ◌<◌}
use native.Mathlib.Omega.{arith}
use borrow.Author.Tests.{lt-ltb, le-ltb, le-leb, leb-true}
use lib.Dec.{leb}
use lib.ListN.{length, get_or}
use Rattle.lists.proofs.Questions.{both_yes}
use Rattle.lists.proofs.Lists.{get_d_list_to}
use Rattle.field.specs.Forms.{Registers, updated}
use Rattle.field.proofs.Forms.{updated-before, updated-at}
use Rattle.settings.specs.Settings.{Params, Terms}
use Rattle.settings.specs.Sizes.{openings, shared, width_of, places}
use Rattle.book.specs.Book.{drawn, book_value}
use Rattle.slice.specs.Layout.{input_at, running_at, column, masked_in, begun_place, begun_work}
use Rattle.steps.specs.Steps.{public_of}
use Rattle.steps.specs.Work.{opening_on, running_on}
use Rattle.column.specs.Run.{plain_book, plain_start, opened_from, plain_after}
use Rattle.column.specs.Theorems.{Sound}
use Rattle.slice.proofs.Begun.{begun-length, begun-at}
use Rattle.column.proofs.Columns.{stepped, taking, masked_after}
use Rattle.column.proofs.Slices.{length-work, column-work, masked-work}
use Rattle.column.proofs.Gates.{Held, held}

-- ---- a slice of one column

module _ (p : Params) (inputs book : List ℕ) where
  abbrev begun : Registers
  begun = column (begun_work p 1 inputs book) 0

  begun-column : (i : ℕ) → i < 1344 → begun i ≡ begun_place (shared p) p.n 1 inputs book 0 i
  unfolding column
  begun-column i h = rw (lt-ltb i 1344 h) (begun-at p 1 inputs book 0 i (omega arith) (omega arith))

  begun-book : shared p ≤ input_at 0 → (i : ℕ) → i < shared p → begun i ≡ get_or book i 0
  unfolding begun_place
  begun-book room i h =
      let z : i * 1 + 0 ≡ i = omega arith in
      begun-column i (omega arith) ∙ rw (lt-ltb i (shared p) h, z)

  begun_input : shared p ≤ input_at 0 → p.n ≤ 8 → (c : ℕ) → c < p.n → begun (input_at c) ≡ get_or inputs c 0
  unfolding begun_place
  begun_input room most c h =
      let z : (1320 + c - 1320) * 1 + 0 ≡ c = omega arith in
      begun-column (input_at c) (omega arith)
      ∙ rw (le-ltb (1320 + c) (shared p) (omega arith), le-leb 1320 (1320 + c) (omega arith), lt-ltb (1320 + c) (1320 + p.n) (omega arith), z)

-- ---- the plain run

module _ {T : Terms} {k : ℕ} {draw secret : List ℕ} (s : Sound T k draw secret) where
  pub few : T.params.n ≤ 8
  few = leb-true T.params.n 8 (both_yes (leb 1 T.params.n) (leb T.params.n 8) s.counts).1

  pub some : 1 ≤ T.params.n
  some = leb-true 1 T.params.n (both_yes (leb 1 T.params.n) (leb T.params.n 8) s.counts).0

  -- slice, registers and masked numbers after so many rounds; the numbers opened next
  abbrev slice : ℕ → List ℕ
  slice t = plain_after T (width_of k) draw secret t

  abbrev pub regs : ℕ → Registers
  regs t = column (slice t) 0

  abbrev pub masks : ℕ → ℕ → ℕ
  masks t = masked_in (slice t)

  abbrev pub opens : ℕ → ℕ → ℕ
  opens t o = get_or (opened_from T (width_of k) draw secret (suc t) (slice t)) o 0

  pub opens-is : (t o : ℕ) → o < openings T.params (suc t) → opens t o ≡ opening_on (public_of T (masks t)) (suc t) 1 (regs t) o
  unfolding opened_from
  opens-is t o h = get_d_list_to (openings T.params (suc t)) (opening_on (public_of T (masks t)) (suc t) 1 (regs t)) o 0 h

  length_slice : (t : ℕ) → length (slice t) ≡ places
  unfolding plain_after plain_start
  length_slice zero = begun-length T.params 1 secret (plain_book T (width_of k) draw secret)
  length_slice (suc t) = length-work T (suc t) (opens t) (1 ∷ []) (slice t) few ∙ length_slice t

  step_is : (t i : ℕ) → regs (suc t) i ≡ stepped (taking T (suc t) (opens t) (masks t)) (suc t) (opens t) 1 (regs t) i
  unfolding plain_after
  step_is t i = column-work T (suc t) (opens t) (1 ∷ []) (slice t) few 0 (omega arith) (omega (arith, length_slice t)) i

  pub step-masked : (t c : ℕ) → masks (suc t) c ≡ masked_after T.params.n (suc t) (opens t) (masks t) c
  unfolding plain_after
  step-masked t c = masked-work T (suc t) (opens t) (1 ∷ []) (slice t) few (omega (arith, length_slice t)) c

  -- the running register j of coefficient c after the next round
  abbrev pub next : ℕ → ℕ → ℕ → ℕ
  next t j = running_on (taking T (suc t) (opens t) (masks t)) (suc t) (opens t) 1 (regs t) j

  pub step-running : (t j c : ℕ) → j < 2 → c < T.params.n → regs (suc t) (running_at j c) ≡ next t j c
  step-running t j c l h = step_is t (running_at j c) ∙ go j l
    where
      go : (j : ℕ) → j < 2 → updated (updated (regs t) 1328 T.params.n (next t 0)) 1336 T.params.n (next t 1) (running_at j c) ≡ next t j c
      go zero l =
          updated-before (updated (regs t) 1328 T.params.n (next t 0)) 1336 T.params.n (next t 1) (1328 + c) (omega (arith, few))
          ∙ updated-at (regs t) 1328 T.params.n (next t 0) c h
      go (suc zero) l = updated-at (updated (regs t) 1328 T.params.n (next t 0)) 1336 T.params.n (next t 1) c h
      go (suc (suc j)) l = absurd (omega arith)

  -- book and inputs stay
  regs_stay : (t i : ℕ) → i < 1328 → regs t i ≡ regs 0 i
  regs_stay zero i h = refl
  regs_stay (suc t) i h =
      step_is t i
      ∙ updated-before (updated (regs t) 1328 T.params.n (next t 0)) 1336 T.params.n (next t 1) i (omega arith)
      ∙ updated-before (regs t) 1328 T.params.n (next t 0) i h
      ∙ regs_stay t i h

  pub book_held : (t : ℕ) → Held T.params (regs t) (drawn T.params (width_of k) draw)
  unfolding plain_after plain_start plain_book
  book_held t =
      held T.params (width_of k) draw (regs t)
      (λ i h. regs_stay t i (omega arith)
      ∙ begun-book T.params secret (plain_book T (width_of k) draw secret) s.room i h
      ∙ get_d_list_to (shared T.params) (book_value T.params (width_of k) draw) i 0 h)

  pub input_held : (c : ℕ) → c < T.params.n → regs 0 (input_at c) ≡ get_or secret c 0
  unfolding plain_after plain_start
  input_held c h = begun_input T.params secret (plain_book T (width_of k) draw secret) s.room few c h
