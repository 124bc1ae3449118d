-- The numbers that a side joins with a message's, and their checks.
use mathlib.Core.Path.{◌≡◌, sym, ap, ap₂, ◌∙◌}
use mathlib.Core.List.{List}
use Prim.Native.Nat.{ℕ, ◌+◌, ◌*◌, ◌≤◌, ◌<◌}
use native.Mathlib.Decide.{dec_lt}
use native.Mathlib.Nat.{add_assoc}
use native.Mathlib.Omega.{arith}
use lib.ListN.{length, get_or}
use borrow.Author.Tests.{eq-eqb}
use Rattle.lists.specs.Lists.{fill, all_to}
use Rattle.lists.proofs.Fill.{front_at, front-behind}
use Rattle.lists.proofs.Every.{all_to-same}
use Rattle.field.specs.Field.{q, add}
use Rattle.settings.specs.Sizes.{key_count, width, openings, most_openings, field_count, most_fields, message_length}
use Rattle.message.specs.Message.{field_in}
use Rattle.message.specs.Fields.{fields_read}
use Rattle.slice.specs.Layout.{masked_in, weights}
use Rattle.steps.specs.Steps.{public_of}
use Rattle.steps.specs.declared.Context.{Context}
use Rattle.steps.specs.Context.{public_by, ContextOf}
use Rattle.column.specs.Held.{Holds, HeldAll}
use Rattle.column.proofs.Tables.{column-all}
use Rattle.settings.proofs.Sizes.{openings-most}
use Rattle.settings.specs.Settings.{params_of, params_in, terms_of}
use Rattle.state.specs.declared.Side.{Side}
use Rattle.state.specs.State.{Whole}
use Rattle.opening.specs.Check.{accepts}
use Rattle.opening.specs.Opening.{part_column, prepared, due_header, incoming, opened, passes}
use Rattle.opening.specs.Work.{PreparedHeld, joined_at, part_at, checked_at}

-- ---- The numbers that the side has

-- worked out by columns, with the round's context
pub prepared_held : (s : Side) (work ws own : List ℕ) (known : Context) → ContextOf s.settings s.round (masked_in work) known
    → ws ≡ weights key_count s.number s.keys
    → Holds (public_by known.settings (masked_in work)) known.round ws work (record { count = width; skip = 0 })
    (openings (params_of known.settings.shape) known.round) own
    → PreparedHeld s work own
unfolding prepared
prepared_held s work ws own known made f held c o h l =
    (rw (made.settings_kept, made.round_kept) at held) c o h l ∙ rw (f, column-all c)

-- as `take_work` asks for them
pub holds-all : (s : Side) (work own ws : List ℕ) → ws ≡ weights key_count s.number s.keys
    → length ws ≡ width → PreparedHeld s work own
    → HeldAll (public_of (terms_of s.settings) (masked_in work)) s.round ws work own
unfolding prepared
holds-all s work own ws f l h = λ c b o m. rw f (h c o (omega arith) m)

-- ---- The numbers that the message has

-- `fields` holds its fields
abbrev pub Fields : Side → List ℕ → List ℕ → Type 0
Fields s msg fields = (o f : ℕ) → o < openings (params_in s.settings) s.round → f < 1 + key_count → get_or fields (o * (1 + key_count) + f) 0 ≡ incoming key_count s msg o f

pub read_fields : (s : Side) (msg z fields : List ℕ) → s.settings.shape.n ≤ 8 → length z ≡ most_fields key_count
    → length msg ≡ message_length key_count (params_in s.settings) s.round → fields ≡ fields_read key_count (due_header s) msg z → Fields s msg fields
unfolding fields_read incoming
read_fields s msg z fields few room long e o f h l =
    let n = field_count key_count (params_in s.settings) s.round in
    rw (e, eq-eqb _ _ long) (front_at z n (field_in n msg) (o * (1 + key_count) + f) (omega (arith, openings-most (params_in s.settings) s.round few)) (omega arith))

-- ---- The opened numbers

-- `numbers` holds them in front of zeros: the side's shares and the message's, joined
pub record Joins (s : Side) (work own msg fields numbers : List ℕ) : Type 0 where
  pub whole : Whole s
  pub holds : PreparedHeld s work own
  pub reads : Fields s msg fields
  pub front : (o : ℕ) → o < openings (params_in s.settings) s.round → get_or numbers o 0 ≡ joined_at own fields o
  pub behind : (o : ℕ) → openings (params_in s.settings) s.round ≤ o → get_or numbers o 0 ≡ 0

pub shares_join : (s : Side) (work own msg fields z numbers : List ℕ) → Whole s → PreparedHeld s work own → Fields s msg fields
    → length z ≡ most_openings → ((o : ℕ) → get_or z o 0 ≡ 0) → numbers ≡ fill z 0 (openings (params_in s.settings) s.round) (joined_at own fields)
    → Joins s work own msg fields numbers
shares_join s work own msg fields z numbers whole holds reads room none e =
    let count = openings (params_in s.settings) s.round in
    let few = openings-most (params_in s.settings) s.round whole.ready.shape.most in
    record {
      whole = whole;
      holds = holds;
      reads = reads;
      front = λ o h. rw e (front_at z count (joined_at own fields) o (omega (arith, few)) h);
      behind = λ o h. rw e (front-behind z count (joined_at own fields) o h ∙ none o);
    }

module _ {s : Side} {work own msg fields numbers : List ℕ} (j : Joins s work own msg fields numbers) where
  abbrev count : ℕ
  count = openings (params_in s.settings) s.round

  joined_is : (o : ℕ) → o < count → joined_at own fields o ≡ opened key_count s work msg o
  unfolding joined_at opened
  joined_is o h =
      let first : most_openings * 0 + o ≡ o = omega arith in
      let share : o * (1 + key_count) + 0 ≡ o * (1 + key_count) = omega arith in
      ap₂ (add q) (ap (λ (k : ℕ). get_or own k 0) (sym first) ∙ j.holds 0 o (omega arith) h)
      (ap (λ (k : ℕ). get_or fields k 0) (sym share) ∙ j.reads o 0 h (omega arith))

  pub opened-is : (o : ℕ) → o < count → get_or numbers o 0 ≡ opened key_count s work msg o
  opened-is o h = j.front o h ∙ joined_is o h

  pub opened-below : (o : ℕ) → get_or numbers o 0 < q
  unfolding joined_at
  opened-below o = go (dec_lt o count)
    where
      go : Dec (o < count) → get_or numbers o 0 < q
      go (yes h) = rw (j.front o h) (omega arith)
      go (no h) = rw (j.behind o (omega arith)) (omega arith)

  -- the check of an opening
  checked-is : (o : ℕ) → o < count → checked_at s own fields numbers o ≡ passes key_count s work msg o
  unfolding checked_at part_at passes accepts opened
  checked-is o h =
      all_to-same key_count _ _
      (λ i l. rw (
        opened-is o h,
        j.holds (part_column key_count s.number i) o (omega (arith, j.whole.side2)) h,
        add_assoc (o * (1 + key_count)) 1 i,
        j.reads o (1 + i) h (omega arith),
      ))

  pub checks-same : all_to count (checked_at s own fields numbers) ≡ all_to count (passes key_count s work msg)
  checks-same = all_to-same count _ _ checked-is
