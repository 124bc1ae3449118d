-- The slices of an honest run: after every number of rounds the two sides' add up to the plain one, and all numbers are below q.
use Prim.Native.Nat.{ℕ, zero, suc, ◌+◌, ◌*◌, ◌≤◌, ◌<◌}
use mathlib.Core.Path.{◌≡◌, sym, ap, ◌∙◌}
use mathlib.Core.List.{List, [], ◌∷◌, ◌++◌}
use mathlib.Core.Bool.{Bool, true, false, cond}
use native.Mathlib.Omega.{arith}
use lib.Dec.{eqb, leb, ltb}
use lib.ListN.{length, get_or, replicate, length-append, length-replicate}
use borrow.Author.Tests.{ltb-true, leb-true, lt-ltb}
use Rattle.lists.specs.Lists.{all_below}
use Rattle.lists.proofs.Questions.{both_yes}
use Rattle.lists.proofs.Every.{below_at, every-list_to}
use Rattle.field.specs.Field.{q}
use Rattle.field.specs.Forms.{Adds}
use Rattle.settings.specs.Sizes.{width_of, openings, shared, places}
use Rattle.book.specs.Books.{multipliers}
use Rattle.book.specs.Theorems.{Laws}
use Rattle.slice.specs.Layout.{column, own_in, masked_in, weights}
use Rattle.steps.specs.Steps.{public_of}
use Rattle.steps.specs.Work.{opening_on}
use Rattle.column.specs.Run.{plain_book, plain_start, opened_from, plain_after, plain_opened}
use Rattle.column.specs.Theorems.{JoinedWork, SlicesJoin}
use Rattle.settings.specs.declared.Settings.{Settings}
use Rattle.settings.specs.Settings.{params_in, terms_of}
use Rattle.settings.proofs.Sizes.{shared-most}
use Rattle.runs.specs.Records.{PartyInput, party_input}
use Rattle.runs.specs.Demands.{Fixed, Numbers, Secret, Shares, Possible}
use Rattle.runs.specs.Progress.{work_at}
use Rattle.runs.proofs.PartyStates.{Which}
use Rattle.runs.proofs.PartyStates.Which.{server, phone}
use Rattle.runs.proofs.Whole.{allowed}
use Rattle.runs.proofs.Start.{below-begun, start-joined}

-- both sides' inputs, the secret that they add up to, and a draw
pub record Joint (k : ℕ) (s : Settings) (serial : ℕ) (keys0 keys1 secret draw in_a in_b : List ℕ) : Type 0 where
  pub fixed : Fixed k s serial keys0 keys1
  pub secret_ok : Secret s secret
  pub draw_ok : Possible k s draw
  pub server_ok : Shares k s in_a
  pub phone_ok : Shares k s in_b
  pub adds : (j c : ℕ) → j < s.shape.n → c < width_of k
      → Adds q (get_or (multipliers keys0 keys1) c 0) (get_or in_a (j * width_of k + c) 0) (get_or in_b (j * width_of k + c) 0) (get_or secret j 0)

-- one side of a run: its slices are exact, their numbers below q
pub record Fair (k : ℕ) (s : Settings) (serial : ℕ) (numbers : ℕ → List ℕ) (h : PartyInput) : Type 0 where
  pub which : Which h
  pub most : s.shape.n ≤ 8
  pub some : 1 ≤ s.shape.n
  pub sized : length (weights k h.number h.keys) ≡ width_of k
  pub exact : (R : ℕ) → length (work_at k s serial numbers h R) ≡ width_of k * places
  pub low : (R i : ℕ) → get_or (work_at k s serial numbers h R) i 0 < q

pub length-weights : (k number : ℕ) (keys : List ℕ) → length keys ≡ k → length (weights k number keys) ≡ width_of k
unfolding weights
length-weights k number keys e = by (eqb number 0)
  where
    by : (b : Bool) → length (cond b (1 ∷ keys ++ replicate k 0) (0 ∷ replicate k 0 ++ keys)) ≡ width_of k
    by true = omega (arith, length-append keys (replicate k 0), length-replicate {A = ℕ} k 0)
    by false = omega (arith, length-append (replicate k 0) keys, length-replicate {A = ℕ} k 0)

-- a side's numbers for openings are below q: it could keep them
pub opening-below : (t : SlicesJoin) (s : Settings) (round : ℕ) (κs work : List ℕ) → s.shape.n ≤ 8 → 1 ≤ s.shape.n
    → length work ≡ length κs * places → ((i : ℕ) → get_or work i 0 < q)
    → (c o : ℕ) → c < length κs → o < openings (params_in s) round
    → opening_on (public_of (terms_of s) (masked_in work)) round (get_or κs c 0) (column work c) o < q
unfolding own_in
opening-below t s round κs work most some e h c o l m =
    rw (← t.own (terms_of s) round (λ i. 0) κs work most some e c o l m)
    ((t.bounded (terms_of s) round (λ i. 0) κs work (omega arith) most some e h (λ i. omega arith)).1 _)

-- what is known of the server's input h and the phone's o, of their books and slices, and of the plain column
pub record Slices (k : ℕ) (s : Settings) (serial : ℕ) (numbers plain : ℕ → List ℕ) (keys0 keys1 : List ℕ) (h o : PartyInput) : Type 0 where
  pub joined : (R : ℕ) → JoinedWork q keys0 keys1 (work_at k s serial numbers h R) (work_at k s serial numbers o R) (plain R)
  pub plain_low : (R i : ℕ) → get_or (plain R) i 0 < q
  pub fair_a : Fair k s serial numbers h
  pub fair_b : Fair k s serial numbers o
  pub book_a : Numbers (shared (params_in s) * width_of k) h.book
  pub book-b : Numbers (shared (params_in s) * width_of k) o.book

module _ (t : SlicesJoin) (b : Laws) (k : ℕ) (s : Settings) (serial : ℕ)
    (keys0 keys1 secret draw in_a in_b : List ℕ) (g : Joint k s serial keys0 keys1 secret draw in_a in_b) where
  abbrev numbers : ℕ → List ℕ
  numbers R = plain_opened (terms_of s) (width_of k) draw secret R

  abbrev plain : ℕ → List ℕ
  plain R = plain_after (terms_of s) (width_of k) draw secret R

  abbrev A : PartyInput
  A = party_input k s 0 keys0 keys1 draw in_a

  abbrev B : PartyInput
  B = party_input k s 1 keys0 keys1 draw in_b

  abbrev slice : PartyInput → ℕ → List ℕ
  slice h R = work_at k s serial numbers h R

  most : s.shape.n ≤ 8
  most = leb-true s.shape.n 8 (both_yes (leb 1 s.shape.n) (leb s.shape.n 8) (allowed s g.fixed.settings).count).1

  some : 1 ≤ s.shape.n
  some = leb-true 1 s.shape.n (both_yes (leb 1 s.shape.n) (leb s.shape.n 8) (allowed s g.fixed.settings).count).0

  set_is : s.shape.set < 2
  set_is = ltb-true s.shape.set 2 (allowed s g.fixed.settings).set-bit

  widths : length (multipliers keys0 keys1) ≡ width_of k
  widths = omega (arith, length-append keys0 keys1, g.fixed.server_count, g.fixed.phone_count)

  joined : (R : ℕ) → JoinedWork q keys0 keys1 (slice A R) (slice B R) (plain R)
  unfolding work_at plain_after plain_opened
  joined zero =
      rw (← widths)
      (start-joined (terms_of s) keys0 keys1 draw secret in_a in_b (omega arith) most (shared-most s.shape set_is most)
      (b.books (params_in s) (length (multipliers keys0 keys1)) (multipliers keys0 keys1) draw)
      (rw widths g.adds))
  joined (suc R) =
      rw g.fixed.server_count at
      (t.taken (terms_of s) keys0 keys1 (slice A R) (slice B R) (plain R) (omega arith) most some
      (g.fixed.server_count ∙ sym g.fixed.phone_count) (joined R) (suc R) (λ (o : ℕ). get_or (numbers R) o 0))

  -- ---- numbers below q

  -- opened numbers, from the plain column before the round
  numbers_from : (R : ℕ) → ((i : ℕ) → get_or (plain R) i 0 < q) → (o : ℕ) → get_or (numbers R) o 0 < q
  unfolding plain_opened opened_from all_below
  numbers_from R h o =
      below_at q (numbers R) o (omega arith)
      (every-list_to (λ (x : ℕ). ltb x q) (openings (params_in s) (suc R)) _
      (λ x l. lt-ltb _ q (opening-below t s (suc R) (1 ∷ []) (plain R) most some (omega (arith, (joined R).exact)) h 0 x (omega arith) l)))

  plain_low : (R i : ℕ) → get_or (plain R) i 0 < q
  unfolding plain_after plain_start plain_book plain_opened all_below
  plain_low zero i =
      below_at q (plain 0) i (omega arith)
      (below-begun (params_in s) 1 secret _ q (omega arith) g.secret_ok.below
      (every-list_to (λ (x : ℕ). ltb x q) (shared (params_in s)) _
      (λ x l. lt-ltb _ q ((b.values (params_in s) (width_of k) draw).below (omega arith) g.draw_ok.below x))))
  plain_low (suc R) i =
      (t.bounded (terms_of s) (suc R) _ (1 ∷ []) (plain R) (omega arith) most some (omega (arith, (joined R).exact))
      (plain_low R) (numbers_from R (plain_low R))).1 i

  numbers-low : (R o : ℕ) → get_or (numbers R) o 0 < q
  numbers-low R o = numbers_from R (plain_low R) o

  -- a side's slices
  side-low : (h : PartyInput) → length h.keys ≡ k → all_below q h.inputs ≡ true → all_below q h.book ≡ true
      → ((R : ℕ) → length (slice h R) ≡ width_of k * places)
      → (R i : ℕ) → get_or (slice h R) i 0 < q
  unfolding work_at
  side-low h e ins bk l zero i =
      below_at q (slice h 0) i (omega arith) (below-begun (params_in s) (width_of k) h.inputs h.book q (omega arith) ins bk)
  side-low h e ins bk l (suc R) i =
      (t.bounded (terms_of s) (suc R) _ (weights k h.number h.keys) (slice h R) (omega arith) most some
      (l R ∙ ap (λ (x : ℕ). x * places) (sym (length-weights k h.number h.keys e))) (side-low h e ins bk l R) (numbers-low R)).1 i

  -- ---- the two sides

  pub slices : Slices k s serial numbers plain keys0 keys1 A B
  slices =
      let x = b.books (params_in s) (width_of k) (multipliers keys0 keys1) draw in
      let below-a = x.server_below (omega arith) in
      let below-b = x.phone_below (omega arith) g.draw_ok.below in
      let exact-a : (R : ℕ) → length (slice A R) ≡ width_of k * places = λ R. (joined R).exact₁ ∙ ap (λ (x : ℕ). x * places) widths in
      let exact-b : (R : ℕ) → length (slice B R) ≡ width_of k * places = λ R. (joined R).exact₂ ∙ ap (λ (x : ℕ). x * places) widths in
      record {
        joined = joined;
        plain_low = plain_low;
        fair_a = record {
          which = server;
          most = most;
          some = some;
          sized = length-weights k 0 keys0 g.fixed.server_count;
          exact = exact-a;
          low = side-low A g.fixed.server_count g.server_ok.below below-a exact-a;
        };
        fair_b = record {
          which = phone;
          most = most;
          some = some;
          sized = length-weights k 1 keys1 g.fixed.phone_count;
          exact = exact-b;
          low = side-low B g.fixed.phone_count g.phone_ok.below below-b exact-b;
        };
        book_a = record { size_is = x.server_length; below = below-a };
        book-b = record { size_is = x.phone_length; below = below-b };
      }
