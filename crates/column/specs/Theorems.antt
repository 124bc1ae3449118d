-- What is proved of the rounds, as types: joined columns stay joined (ColumnsJoin), and the plain run opens the plain meaning (PlainRun).
use Rattle.std.specs.Prelude.{ℕ, suc, ◌+◌, ◌*◌, ◌%◌, ◌<◌, ◌≤◌, ◌≡◌, true, cond, List, [], ◌∷◌, map, eqb, ltb, length, get_or}
use Rattle.lists.specs.Lists.{list_to}
use Rattle.field.specs.Forms.{Registers, Adds, Join}
use Rattle.settings.specs.Settings.{Terms}
use Rattle.settings.specs.Questions.{count_ok}
use Rattle.rounding.specs.Plain.{high_part, verdict}
use Rattle.rounding.specs.Rounds.{gap}
use Rattle.settings.specs.Theorems.{Lawful}
use Rattle.settings.specs.Sizes.{openings, shared, width_of, draw_length, places}
use Rattle.book.specs.Books.{multipliers}
use Rattle.slice.specs.Layout.{input_at, running_at, column, own_in, masked_in, weights}
use Rattle.steps.specs.Steps.{Public, public_of}
use Rattle.steps.specs.Work.{opening_on, running_on, taken_work}
use Rattle.column.specs.Run.{plain_after, plain_opened}
use Rattle.column.specs.Clear.{clear_running, clear_opened, mask_of, masked_of}

-- ---- ColumnsJoin. r₁, r₂ the two sides' registers in one column, v the plain ones, m what the column adds up to, as a factor

pub record ColumnsJoin : Type 0 where
  pub opening : (w : Public) → 0 < w.params.scale.modulus → {m κ₁ κ₂ : ℕ} {r₁ r₂ v : Registers} → Join w.params.scale.modulus m κ₁ κ₂ r₁ r₂ v
      → (round o : ℕ)
      → Adds w.params.scale.modulus m (opening_on w round κ₁ r₁ o) (opening_on w round κ₂ r₂ o) (opening_on w round 1 v o)
  pub running : (w : Public) → 0 < w.params.scale.modulus → {m κ₁ κ₂ : ℕ} {r₁ r₂ v : Registers} → Join w.params.scale.modulus m κ₁ κ₂ r₁ r₂ v
      → (round : ℕ) (opened : ℕ → ℕ) (which j : ℕ)
      → Adds w.params.scale.modulus m (running_on w round opened κ₁ r₁ which j) (running_on w round opened κ₂ r₂ which j) (running_on w round opened 1 v which j)

-- two working slices and a plain column: every register adds up, and all three hold the same masked numbers
pub record JoinedWork (m : ℕ) (keys0 keys1 w₁ w₂ plain : List ℕ) : Type 0 where
  pub adds : (c place : ℕ) → c < length (multipliers keys0 keys1) → Adds m (get_or (multipliers keys0 keys1) c 0) (column w₁ c place) (column w₂ c place) (column plain 0 place)
  pub masked₁ : (j : ℕ) → masked_in w₁ j ≡ masked_in plain j
  pub masked₂ : (j : ℕ) → masked_in w₂ j ≡ masked_in plain j
  pub exact₁ : length w₁ ≡ length (multipliers keys0 keys1) * places
  pub exact₂ : length w₂ ≡ length (multipliers keys0 keys1) * places
  pub exact : length plain ≡ places

pub record SlicesJoin : Type 0 where
  -- the two sides' numbers for an opening add up, in every column
  pub opening : (T : Terms) (keys0 keys1 w₁ w₂ plain : List ℕ)
      → 0 < T.params.scale.modulus → length keys0 ≡ length keys1
      → JoinedWork T.params.scale.modulus keys0 keys1 w₁ w₂ plain
      → (round c o : ℕ) → c < length (multipliers keys0 keys1)
      → Adds T.params.scale.modulus (get_or (multipliers keys0 keys1) c 0)
      (opening_on (public_of T (masked_in w₁)) round (get_or (weights (length keys0) 0 keys0) c 0) (column w₁ c) o)
      (opening_on (public_of T (masked_in w₂)) round (get_or (weights (length keys0) 1 keys1) c 0) (column w₂ c) o)
      (opening_on (public_of T (masked_in plain)) round 1 (column plain 0) o)
  -- taking the same opened numbers keeps them joined
  pub taken : (T : Terms) (keys0 keys1 w₁ w₂ plain : List ℕ)
      → 0 < T.params.scale.modulus → T.params.n ≤ 8 → 1 ≤ T.params.n → length keys0 ≡ length keys1
      → JoinedWork T.params.scale.modulus keys0 keys1 w₁ w₂ plain
      → (round : ℕ) (opened : ℕ → ℕ)
      → JoinedWork T.params.scale.modulus keys0 keys1
      (taken_work T round opened (weights (length keys0) 0 keys0) w₁)
      (taken_work T round opened (weights (length keys0) 1 keys1) w₂)
      (taken_work T round opened (1 ∷ []) plain)
  -- and a side then holds its own numbers for the openings
  pub own : (T : Terms) (round : ℕ) (opened : ℕ → ℕ) (κs work : List ℕ)
      → T.params.n ≤ 8 → 1 ≤ T.params.n → length work ≡ length κs * places
      → (c o : ℕ) → c < length κs → o < openings T.params round
      → own_in (taken_work T round opened κs work) c o ≡ opening_on (public_of T (masked_in work)) round (get_or κs c 0) (column work c) o
  -- its numbers stay below the modulus, and its length stays
  pub bounded : (T : Terms) (round : ℕ) (opened : ℕ → ℕ) (κs work : List ℕ)
      → 0 < T.params.scale.modulus → T.params.n ≤ 8 → 1 ≤ T.params.n → length work ≡ length κs * places
      → ((x : ℕ) → get_or work x 0 < T.params.scale.modulus) → ((o : ℕ) → opened o < T.params.scale.modulus)
      → (length (taken_work T round opened κs work) ≡ length work)
      × ((x : ℕ) → get_or (taken_work T round opened κs work) x 0 < T.params.scale.modulus)

-- ---- PlainRun: the plain run, whatever the draw

-- what PlainRun asks of a scale, settings, secret and draw; k keys a side
pub record Sound (T : Terms) (k : ℕ) (draw secret : List ℕ) : Type 0 where
  pub lawful : Lawful T.params.scale
  pub kinds : T.params.kind < 2
  pub counts : count_ok T.params.n ≡ true
  pub bounds : cond (eqb T.params.kind 0) (eqb T.bound 0) (ltb 0 T.bound) ≡ true
  pub halves : 2 * T.bound < T.params.scale.modulus
  pub room : shared T.params ≤ input_at 0
  pub gaps : T.params.scale.modulus % (T.params.n + 1) ≤ gap T.params.scale.modulus T.params.n
  pub secret_size : length secret ≡ T.params.n
  pub secret_below : (j : ℕ) → get_or secret j 0 < T.params.scale.modulus
  pub draw_size : length draw ≡ draw_length T.params (width_of k)
  pub draw_below : (x : ℕ) → get_or draw x 0 < T.params.scale.modulus

pub record PlainRun : Type 0 where
  -- the running registers after rounds 1 to 5
  pub running : (T : Terms) (k : ℕ) (draw secret : List ℕ)
      → Sound T k draw secret
      → (rounds j which : ℕ)
      → 1 ≤ rounds → rounds ≤ 5 → j < T.params.n → which < 2
      → column (plain_after T (width_of k) draw secret rounds) 0 (running_at which j)
      ≡ clear_running T (masked_of T (width_of k) draw secret j) (mask_of T (width_of k) draw secret j) rounds which
  -- the openings of rounds 1 to 6
  pub opened : (T : Terms) (k : ℕ) (draw secret : List ℕ)
      → Sound T k draw secret
      → (rounds : ℕ)
      → rounds < 6
      → plain_opened T (width_of k) draw secret rounds
      ≡ list_to (openings T.params (suc rounds)) (clear_opened T (width_of k) draw secret (suc rounds))
  -- round 7 opens the high parts, or the verdict, by the plain meaning
  pub answer : (T : Terms) (k : ℕ) (draw secret : List ℕ)
      → Sound T k draw secret
      → plain_opened T (width_of k) draw secret 6 ≡ cond (eqb T.params.kind 0) (map (high_part T.params.scale) secret) (verdict T.params.scale.modulus T.bound secret ∷ [])
