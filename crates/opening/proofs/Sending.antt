-- The message that a side writes.
use mathlib.Core.Path.{◌≡◌, ap, ap₂, ◌∙◌}
use mathlib.Core.Bool.{Bool, true, false, cond}
use mathlib.Core.List.{List, ◌∷◌}
use Prim.Native.Nat.{ℕ, suc, ◌+◌, ◌-◌, ◌*◌, ◌/◌, ◌%◌, ◌^◌, ◌≤◌, ◌<◌}
use native.Mathlib.Omega.{arith}
use lib.Dec.{eqb, ltb, lit<}
use lib.ListN.{length, get_or}
use borrow.Author.Tests.{lt-ltb, eq-eqb, ne_eqb}
use Rattle.lists.specs.Lists.{all_below, fill, list_from, list_to, join_to}
use Rattle.lists.proofs.Every.{below_at, every-list_to}
use Rattle.lists.proofs.Lists.{length-list_from, list_from-moved, runs-join}
use Rattle.lists.proofs.Fill.{fill-same}
use Rattle.field.specs.Field.{q}
use Rattle.field.proofs.Forms.{value-below}
use Rattle.settings.specs.Sizes.{key_count, bytes_for, openings, field_bits, most_openings, most_fields, message_bits, message_length}
use Rattle.settings.specs.Settings.{params_in, terms_of}
use Rattle.message.specs.Message.{header_number, message_of}
use Rattle.message.specs.Fields.{HeaderFits}
use Rattle.message.specs.declared.Header.{Header}
use Rattle.slice.specs.Layout.{column, own_in, masked_in, weights}
use Rattle.slice.proofs.Kept.{column-below}
use Rattle.steps.specs.Steps.{public_of, opening}
use Rattle.state.specs.declared.Side.{Side}
use Rattle.state.specs.State.{Whole}
use Rattle.opening.specs.Opening.{own_header, prepared, outgoing, part_column, message}
use Rattle.column.specs.Choice.{column_at}
use Rattle.column.specs.Held.{Holds}
use Rattle.settings.proofs.Sizes.{openings-most}
use native.Mathlib.Decide.{dec_lt}
use Rattle.opening.specs.Work.{columns_to, field_column, OutgoingHeld, outgoing_field, in_turn}
use Rattle.opening.proofs.Columns.{columns_at}

-- ---- numbers below q

module _ (work : List ℕ) (small : all_below q work ≡ true) where
  place-below : (j : ℕ) → get_or work j 0 < q
  place-below j = below_at q work j (lit< tt) small

  prepared-below : (s : Side) (c o : ℕ) → prepared key_count s work c o < q
  unfolding prepared
  prepared-below s c o =
      value-below q (get_or (weights key_count s.number s.keys) c 0) (column work c) (lit< tt) (column-below work c q (lit< tt) place-below)
      (opening (public_of (terms_of s.settings) (masked_in work)) s.round o)

  own_below : (c o : ℕ) → own_in work c o < q
  unfolding own_in
  own_below c o = place-below (c * 1536 + (1344 + o))

  outgoing-below : (s : Side) (c o : ℕ) → outgoing key_count s work c o < q
  unfolding outgoing
  outgoing-below s c o = go (eqb s.number 0)
    where
      go : (b : Bool) → cond b (prepared key_count s work c o) (own_in work c o) < q
      go true = prepared-below s c o
      go false = own_below c o

  field_below : (s : Side) (x : ℕ) → outgoing_field s work x < q
  unfolding outgoing_field
  field_below s x = outgoing-below s _ _

  -- they fit the fields of a message
  pub fields_small : (s : Side) (n : ℕ) → all_below (2 ^ field_bits) (list_to n (outgoing_field s work)) ≡ true
  unfolding all_below
  fields_small s n = every-list_to (λ (x : ℕ). ltb x (2 ^ field_bits)) n (outgoing_field s work) (λ x h. lt-ltb (outgoing_field s work x) (2 ^ field_bits) (omega (arith, field_below s x)))

-- ---- the columns of outgoing numbers

-- the server works its numbers out: the share's column, and those of the parts under the phone's keys
server-column : (s : Side) (f : ℕ) → s.number ≡ 0 → column_at key_count f ≡ field_column s f
unfolding column_at
server-column s f e = go (dec_lt 0 f)
  where
    go : Dec (0 < f) → cond (eqb f 0) 0 (f + key_count) ≡ cond (eqb f 0) 0 (part_column key_count (1 - s.number) (f - 1))
    go (yes h) = rw (ne_eqb f 0 (omega arith), e) (omega arith)
    go (no h) = let z : f ≡ 0 = omega arith in rw (eq-eqb f 0 z)

pub server_held : (s : Side) (work ws sent : List ℕ) → s.number ≡ 0 → ws ≡ weights key_count s.number s.keys
    → Holds (public_of (terms_of s.settings) (masked_in work)) s.round ws work (record { count = 1 + key_count; skip = key_count })
    (openings (params_in s.settings) s.round) sent
    → OutgoingHeld s work sent
unfolding outgoing prepared
server_held s work ws sent e f held d o h l =
    held d o h l
    ∙ rw (f, server-column s d e, eq-eqb s.number 0 e)

-- the phone kept its own when it took the round
pub phone_held : (s : Side) (work z sent : List ℕ) (m : ℕ) → s.number < 2 → (s.number ≡ 0 → ⊥) → s.settings.shape.n ≤ 8 → m ≡ openings (params_in s.settings) s.round
    → length z ≡ most_fields key_count → sent ≡ columns_to m (own_in work) z (1 + key_count) → OutgoingHeld s work sent
unfolding outgoing
phone_held s work z sent m two e few k long is f o h l =
    let one : s.number ≡ 1 = omega arith in
    let most = openings-most (params_in s.settings) s.round few in
    ap (λ (x : List ℕ). get_or x (most_openings * f + o) 0) is ∙ columns_at m (own_in work) z (omega (arith, most)) (1 + key_count) f o (omega arith) h (omega arith)
    ∙ rw (ne_eqb s.number 0 e) (ap (λ (c : ℕ). own_in work c o) (phone-column one))
  where
    phone-column : s.number ≡ 1 → f ≡ field_column s f
    phone-column one = go (dec_lt 0 f)
      where
        go : Dec (0 < f) → f ≡ cond (eqb f 0) 0 (part_column key_count (1 - s.number) (f - 1))
        go (yes b) = rw (ne_eqb f 0 (omega arith), one) (omega arith)
        go (no b) = let z : f ≡ 0 = omega arith in rw (eq-eqb f 0 z) z

-- ---- the fields in turn

-- from the columns of outgoing numbers
pub turns_are : (s : Side) (work fields sent : List ℕ) (n : ℕ) → n ≡ openings (params_in s.settings) s.round → OutgoingHeld s work sent
    → fill fields 0 ((1 + key_count) * n) (in_turn sent) ≡ fill fields 0 ((1 + key_count) * n) (outgoing_field s work)
unfolding outgoing_field
turns_are s work fields sent n k held =
    fill-same fields 0 ((1 + key_count) * n) _ _ (λ x h. held (x % (1 + key_count)) (x / (1 + key_count)) (omega arith) (omega arith))

-- ---- the message

module _ (s : Side) (work : List ℕ) where
  abbrev part_of : ℕ → ℕ → ℕ
  part_of o i = outgoing key_count s work (part_column key_count (1 - s.number) i) o

  abbrev opening_fields : ℕ → List ℕ
  opening_fields o = outgoing key_count s work 0 o ∷ list_to key_count (part_of o)

  first_is : (o : ℕ) → outgoing key_count s work 0 o ≡ outgoing_field s work ((1 + key_count) * o)
  unfolding outgoing_field
  first_is o =
      let a : (1 + key_count) * o % (1 + key_count) ≡ 0 = omega arith in
      let b : (1 + key_count) * o / (1 + key_count) ≡ o = omega arith in
      rw (a, b)

  part-is : (o i : ℕ) → i < key_count → part_of o (0 + i) ≡ outgoing_field s work (suc ((1 + key_count) * o) + i)
  unfolding outgoing_field
  part-is o i h =
      let a : (suc ((1 + key_count) * o) + i) % (1 + key_count) ≡ 1 + i = omega arith in
      let b : (suc ((1 + key_count) * o) + i) / (1 + key_count) ≡ o = omega arith in
      let c : 1 + i - 1 ≡ 0 + i = omega arith in
      rw (a, b, ne_eqb (1 + i) 0 (omega arith), c)

  fields_of : (o : ℕ) → opening_fields o ≡ list_from ((1 + key_count) * o) (1 + key_count) (outgoing_field s work)
  unfolding list_from
  fields_of o = ap₂ {A = ℕ} {B = List ℕ} (λ x l. x ∷ l) (first_is o) (list_from-moved 0 (suc ((1 + key_count) * o)) key_count (part_of o) (outgoing_field s work) (part-is o))

  pub fields-joined : (n : ℕ) → list_to ((1 + key_count) * n) (outgoing_field s work) ≡ join_to n opening_fields
  fields-joined n = runs-join (1 + key_count) (outgoing_field s work) opening_fields fields_of 0 n

  pub message-is : (header : Header) (fs : List ℕ) → header ≡ own_header s
      → fs ≡ list_to ((1 + key_count) * openings (params_in s.settings) s.round) (outgoing_field s work)
      → message_of (header_number header) fs ≡ message key_count s work
  unfolding message
  message-is header fs e f = rw (e, f, fields-joined (openings (params_in s.settings) s.round))

pub header_fits : (s : Side) (header : Header) → header ≡ own_header s → Whole s → HeaderFits header
header_fits s header e h = rw e (record { sender_fits = h.side2; settings_fit = h.ready; round_fits = omega (arith, h.round_most) })

pub bytes_are : (s : Side) (fs : List ℕ) (f : ℕ → ℕ) → fs ≡ list_to ((1 + key_count) * openings (params_in s.settings) s.round) f
    → bytes_for (message_bits (length fs)) ≡ message_length key_count (params_in s.settings) s.round
unfolding message_length
bytes_are s fs f e = ap (λ (n : ℕ). bytes_for (message_bits n)) (ap length e ∙ length-list_from 0 _ f)
