-- What a side has for the openings of a round: the same numbers when it takes and when it sends, and they are what its message tells.
use Prim.Native.Nat.{ℕ, suc, ◌+◌, ◌*◌, ◌-◌, ◌^◌, ◌<◌}
use mathlib.Core.Path.{◌≡◌, sym, ap, ap₂, ◌∙◌}
use mathlib.Core.List.{List, ◌∷◌}
use mathlib.Core.Bool.{true}
use native.Mathlib.Omega.{arith}
use native.Mathlib.Numerals.{add-one, one-add}
use native.Mathlib.Nat.{zero-add, add-zero, mul-le-mul_right, mul_comm}
use lib.Dec.{ltb}
use lib.ListN.{length, get_or}
use borrow.Author.Tests.{lt-ltb}
use Rattle.lists.specs.Lists.{every, all_below, list_to, join_to}
use Rattle.lists.proofs.Every.{every-join, every-list_to}
use Rattle.lists.proofs.Lists.{length-list_from, list_to_cong, join-at, ahead_fixed, join_cong}
use Rattle.field.specs.Field.{q}
use Rattle.settings.specs.Schedule.{rounds, send_step, take_step}
use Rattle.settings.specs.Sizes.{openings, field_count, places}
use Rattle.message.specs.Message.{header_number, message_of, header_in, field_in, fields_ok, header_with}
use Rattle.message.specs.Fields.{HeaderFits}
use Rattle.message.specs.Theorems.{Sized, RoundTrip}
use Rattle.message.proofs.RoundTrip.{sized-q}
use Rattle.slice.specs.Layout.{weights}
use Rattle.column.specs.Theorems.{SlicesJoin}
use Rattle.state.specs.declared.Side.{Side}
use Rattle.opening.specs.Opening.{part_column, prepared, outgoing, message, own_header}
use Rattle.side.specs.Side.{begun_side}
use Rattle.settings.specs.declared.Settings.{Settings}
use Rattle.settings.specs.Questions.{settings_ok}
use Rattle.settings.specs.Settings.{params_in, terms_of}
use Rattle.settings.proofs.Ready.{settings_ok_ready}
use Rattle.runs.specs.Records.{PartyInput}
use Rattle.runs.specs.Progress.{work_at, side_at, party_at, message_at}
use Rattle.runs.specs.Messages.{own_number, opening_fields, round_fields, round_message}
use Rattle.runs.proofs.PartyStates.{input_as, Which, which_below, at-send, at_take}
use Rattle.runs.proofs.PartyStates.Which.{server, phone}
use Rattle.runs.proofs.Slices.{Fair, opening-below}

module _ (k : ℕ) (s : Settings) (serial : ℕ) (numbers : ℕ → List ℕ) where
  abbrev number_of : PartyInput → ℕ → ℕ → ℕ → ℕ
  number_of = own_number k s serial numbers

  abbrev opening_of : PartyInput → ℕ → ℕ → List ℕ
  opening_of = opening_fields k s serial numbers

  abbrev fields_of : PartyInput → ℕ → List ℕ
  fields_of = round_fields k s serial numbers

  -- when it takes
  pub prepared-is : (h : PartyInput) (R : ℕ) → Which h → R < rounds → (c j : ℕ)
      → prepared k (side_at k s serial numbers h (take_step h.number R)) (work_at k s serial numbers h R) c j ≡ number_of h R c j
  unfolding prepared own_number side_at begun_side party_at
  prepared-is h R u r c j = rw (at_take k s serial numbers h R u r).round

  -- when it sends: the server works them out, the phone has kept them
  module _ (t : SlicesJoin) where
    pub outgoing-is : (h : PartyInput) → Which h → Fair k s serial numbers h → (R : ℕ) → R < rounds → (c j : ℕ) → c < 1 + 2 * k → j < openings (params_in s) (suc R)
        → outgoing k (side_at k s serial numbers h (send_step h.number R)) (work_at k s serial numbers h (R + h.number)) c j ≡ number_of h R c j
    unfolding outgoing prepared own_number side_at begun_side party_at work_at
    outgoing-is _ (server {keys} {inputs} {book}) v R r c j l m = rw (add-zero R, (at-send k s serial numbers (input_as 0 keys inputs book) R server r).round)
    outgoing-is _ (phone {keys} {inputs} {book}) v R r c j l m =
        rw (add-one R)
        (t.own (terms_of s) (suc R) _ (weights k 1 keys) (work_at k s serial numbers (input_as 1 keys inputs book) R) v.most v.some
        (v.exact R ∙ ap (λ (x : ℕ). x * places) (sym v.sized)) c j (omega (arith, v.sized)) m)

  pub sharing_below : SlicesJoin → (h : PartyInput) → Fair k s serial numbers h → (R c j : ℕ) → c < 1 + 2 * k → j < openings (params_in s) (suc R) → number_of h R c j < q
  unfolding own_number
  sharing_below t h v R c j l m =
      opening-below t s (suc R) (weights k h.number h.keys) (work_at k s serial numbers h R) v.most v.some
      (v.exact R ∙ ap (λ (x : ℕ). x * places) (sym v.sized)) (v.low R) c j (omega (arith, v.sized)) m

  -- ---- Its message

  pub part-inside : (o : PartyInput) → Which o → (i : ℕ) → i < k → part_column k (1 - o.number) i < 1 + 2 * k
  part-inside _ server i l = omega arith
  part-inside _ phone i l = omega arith

  piece_length : (o : PartyInput) (R j : ℕ) → length (opening_of o R j) ≡ 1 + k
  piece_length o R j = ap suc (length-list_from 0 k _) ∙ sym (one-add k)

  pub fields-length : (o : PartyInput) (R : ℕ) → length (fields_of o R) ≡ field_count k (params_in s) (suc R)
  unfolding round_fields
  fields-length o R = ahead_fixed (1 + k) (openings (params_in s) (suc R)) (opening_of o R) (piece_length o R) ∙ mul_comm (openings (params_in s) (suc R)) (1 + k)

  -- what any side sends, from its numbers for the openings
  result : (x : Side) (work : List ℕ) (share : ℕ → ℕ → ℕ)
      → ((i : ℕ) → i < k → part_column k (1 - x.number) i < 1 + 2 * k)
      → ((c j : ℕ) → c < 1 + 2 * k → j < openings (params_in x.settings) x.round → outgoing k x work c j ≡ share c j)
      → message k x work ≡ message_of (header_number (own_header x))
      (join_to (openings (params_in x.settings) x.round) (λ (j : ℕ). share 0 j ∷ list_to k (λ (i : ℕ). share (part_column k (1 - x.number) i) j)))
  unfolding message
  result x work share inside e =
      ap (message_of (header_number (own_header x)))
      (join_cong 0 (openings (params_in x.settings) x.round) _ _
      (λ j l. let z : 0 + j ≡ j = zero-add j in
      rw z
      (ap₂ ◌∷◌ (e 0 j (omega arith) l)
      (list_to_cong k (λ (i : ℕ). outgoing k x work (part_column k (1 - x.number) i) j) (λ (i : ℕ). share (part_column k (1 - x.number) i) j)
      (λ i m. e (part_column k (1 - x.number) i) j (inside i m) l)))))

  pub message-is : (t : SlicesJoin) (o : PartyInput) → Fair k s serial numbers o → (R : ℕ) → R < rounds
      → message_at k s serial numbers o (suc R) ≡ round_message k s serial numbers o R
  unfolding party_at side_at begun_side round_fields
  message-is t o v R r =
      let a = at-send k s serial numbers o R v.which r in
      let x : Side = side_at k s serial numbers o (send_step o.number R) in
      sym a.message-is
      ∙ ap (λ (work : List ℕ). message k x work) a.slice_is
      ∙ result x (work_at k s serial numbers o (R + o.number)) (number_of o R) (part-inside o v.which) (λ c j l m. outgoing-is t o v.which v R r c j l (rw a.round at m))
      ∙ in-round x.round a.round
    where
      in-round : (round : ℕ) → round ≡ suc R
          → message_of (header_number (header_with o.number s round serial)) (join_to (openings (params_in s) round) (opening_of o R))
          ≡ message_of (header_number (header_with o.number s (suc R) serial)) (fields_of o R)
      in-round round e = rw e

  -- ---- Read by the receiver

  header_ok : (number : ℕ) → number < 2 → settings_ok s ≡ true → (R : ℕ) → R < rounds → HeaderFits (header_with number s (suc R) serial)
  header_ok number u e R l = record { sender_fits = u; settings_fit = settings_ok_ready s e; round_fits = omega arith }

  module _ (t : SlicesJoin) (m : RoundTrip) (e : settings_ok s ≡ true) (f : serial < 4294967296) (o : PartyInput) (v : Fair k s serial numbers o) (R : ℕ) (r : R < rounds) where
    abbrev header : ℕ
    header = header_number (header_with o.number s (suc R) serial)

    fields-below : all_below q (fields_of o R) ≡ true
    unfolding round_fields all_below every
    fields-below =
        every-join (λ (x : ℕ). ltb x q) 0 (openings (params_in s) (suc R)) (opening_of o R)
        (λ j l. rw (lt-ltb (number_of o R 0 (0 + j)) q (sharing_below t o v R 0 (0 + j) (omega arith) (omega arith)))
        (every-list_to (λ (x : ℕ). ltb x q) k _ (λ i b. lt-ltb _ q (sharing_below t o v R _ (0 + j) (part-inside o v.which i b) (omega arith)))))

    header-below : header < 2 ^ 64
    header-below = m.header_size (header_with o.number s (suc R) serial) (header_ok o.number (which_below o v.which) e R r) (omega arith)

    sized : Sized header (fields_of o R)
    sized = sized-q header (fields_of o R) header-below fields-below

    pub header_read : header_in (field_count k (params_in s) (suc R)) (message_at k s serial numbers o (suc R)) ≡ header
    header_read = rw (message-is t o v R r, ← fields-length o R) (m.header header (fields_of o R) sized)

    pub fields_read : fields_ok (field_count k (params_in s) (suc R)) (message_at k s serial numbers o (suc R)) ≡ true
    fields_read = rw (message-is t o v R r, ← fields-length o R) (m.fields_pass header (fields_of o R) header-below fields-below)

    -- field x of opening j
    pub field_read : (j x : ℕ) → j < openings (params_in s) (suc R) → x < 1 + k
        → field_in (field_count k (params_in s) (suc R)) (message_at k s serial numbers o (suc R)) (j * (1 + k) + x) ≡ get_or (opening_of o R j) x 0
    unfolding round_fields
    field_read j x l b =
        let n = openings (params_in s) (suc R) in
        let a : length (join_to j (opening_of o R)) + x ≡ j * (1 + k) + x = omega (arith, ahead_fixed (1 + k) j (opening_of o R) (piece_length o R)) in
        rw (message-is t o v R r, ← fields-length o R)
        (m.field header (fields_of o R) sized (j * (1 + k) + x) (omega (arith, fields-length o R, mul-le-mul_right (1 + k) l)))
        ∙ (rw a at (join-at n (opening_of o R) 0 j x l (omega (arith, piece_length o R j))))
