-- What is written is read again.
use mathlib.Core.Path.{◌≡◌, refl, sym, ap, ◌∙◌}
use mathlib.Core.Bool.{true}
use mathlib.Core.List.{List, [], ◌∷◌}
use Prim.Native.Nat.{ℕ, zero, suc, ◌+◌, ◌-◌, ◌*◌, ◌%◌, ◌/◌, ◌^◌, ◌≤◌, ◌<◌}
use native.Mathlib.Nat.{div-one, mul-mod_left}
use native.Mathlib.Omega.{arith}
use lib.Dec.{ltb, lit≤}
use borrow.Author.Tests.{lt-ltb, eq-eqb}
use lib.Arith.{digits_div, digits_mod}
use lib.Pow.{high, low, shr-shr}
use lib.ListN.{length, get_or, replicate}
use lib.Seq.{take-length}
use Rattle.lists.specs.Lists.{all_below, list_from}
use Rattle.lists.proofs.Questions.{and_yes, skip}
use Rattle.lists.proofs.Every.{below_at, below_more, all_to_yes}
use Rattle.field.specs.Field.{q}
use Rattle.settings.specs.Sizes.{key_count, bytes_for, header_bits, field_bits, field_count, message_bits, message_length}
use Rattle.message.specs.Bits.{padding, packed, number_of}
use Rattle.message.specs.Message.{header_number, header_with, fields_behind, message_of, header_in, field_in, fields_ok, ask_form}
use Rattle.settings.specs.Settings.{params_of}
use Rattle.message.specs.declared.Header.{Header}
use Rattle.message.specs.Fields.{HeaderFits}
use Rattle.message.specs.Theorems.{Sized, RoundTrip}
use Rattle.message.proofs.Numbers.{Bytes}
use Rattle.message.proofs.Packing.{length-packed, packed-bytes, number-packed, up_down}
use Rattle.message.proofs.Writing.{below_field, behind_lt}

-- ---- the number of a header and fields

-- the fields, each below 2 ^ 23
abbrev Small : List ℕ → Type 0
Small fs = (j : ℕ) → get_or fs j 0 < 2 ^ field_bits

behind-header : (x : ℕ) (fs : List ℕ) → Small fs → fields_behind x fs / 2 ^ (23 * length fs) ≡ x
unfolding fields_behind
behind-header x [] h = div-one x
behind-header x (f ∷ fs) h =
    let e : 23 * suc (length fs) ≡ 23 * length fs + 23 = omega arith in
    rw (e, ← shr-shr (fields_behind (x * 2 ^ 23 + f) fs) (23 * length fs) 23, behind-header (x * 2 ^ 23 + f) fs (λ j. h (suc j)))
    (high x 23 (h 0))

behind-field : (x : ℕ) (fs : List ℕ) → Small fs → (j : ℕ) → j < length fs → fields_behind x fs / 2 ^ (23 * (length fs - 1 - j)) % 2 ^ 23 ≡ get_or fs j 0
unfolding fields_behind
behind-field x [] h j l = absurd (omega arith)
behind-field x (f ∷ fs) h zero l =
    let e : 23 * (suc (length fs) - 1 - 0) ≡ 23 * length fs = omega arith in
    rw (e, behind-header (x * 2 ^ 23 + f) fs (λ j. h (suc j))) (low x 23 (h 0))
behind-field x (f ∷ fs) h (suc j) l =
    let e : 23 * (suc (length fs) - 1 - suc j) ≡ 23 * (length fs - 1 - j) = omega arith in
    rw e (behind-field (x * 2 ^ 23 + f) fs (λ k. h (suc k)) j (omega arith))

-- ---- a message

module _ (h : ℕ) (fs : List ℕ) where
  size : length (message_of h fs) ≡ bytes_for (message_bits (length fs))
  unfolding message_of
  size = length-packed (message_bits (length fs)) (fields_behind h fs)

  bytes : Bytes (message_of h fs)
  unfolding message_of
  bytes = packed-bytes (message_bits (length fs)) (fields_behind h fs)

  module _ (s : Sized h fs) where
    abbrev p : ℕ
    p = padding (message_bits (length fs))

    number_is : number_of (message_of h fs) ≡ fields_behind h fs * 2 ^ p
    unfolding message_of
    number_is = number-packed (message_bits (length fs)) (fields_behind h fs) (rw take-length at (behind_lt h 64 fs s.fields_fit s.header_fits (length fs) (omega arith)))

    header : header_in (length fs) (message_of h fs) ≡ h
    header = rw (number_is, up_down (fields_behind h fs) p (23 * length fs) (p + 23 * length fs) refl) (behind-header h fs (below_field fs s.fields_fit))

    field : (f : ℕ) → f < length fs → field_in (length fs) (message_of h fs) f ≡ get_or fs f 0
    unfolding field_in
    field f l =
        let e = 23 * (length fs - 1 - f) in
        rw (number_is, up_down (fields_behind h fs) p e (p + e) refl) (behind-field h fs (below_field fs s.fields_fit) f l)

    filling : number_of (message_of h fs) % 2 ^ p ≡ 0
    filling = rw number_is (mul-mod_left (fields_behind h fs) (2 ^ p))

-- ---- question 12

pub sized-q : (h : ℕ) (fs : List ℕ) → h < 2 ^ header_bits → all_below q fs ≡ true → Sized h fs
sized-q h fs l e = record { header_fits = l; fields_fit = below_more q (2 ^ 23) (lit≤ tt) fs e }

fields_pass : (h : ℕ) (fs : List ℕ) → h < 2 ^ header_bits → all_below q fs ≡ true → fields_ok (length fs) (message_of h fs) ≡ true
unfolding fields_ok
fields_pass h fs l e =
    let s = sized-q h fs l e in
    and_yes _ _
    (all_to_yes (length fs) (λ (f : ℕ). ltb (field_in (length fs) (message_of h fs) f) q)
    (λ f b. rw (field h fs s f b) (lt-ltb (get_or fs f 0) q (below_at q fs f (lit≤ tt) e))))
    (eq-eqb _ 0 (filling h fs s))

-- ---- the header's number

header_size : (h : Header) → HeaderFits h → h.serial < 2 ^ 32 → header_number h < 2 ^ header_bits
unfolding header_number
header_size h f l = omega arith

-- the last of several parts, and those before it
last-part : (m a b c d : ℕ) → b < m → d < m → a * m + b ≡ c * m + d → (a ≡ c) × (b ≡ d)
last-part m a b c d h k e =
    (sym (digits_div a h) ∙ ap (λ (x : ℕ). x / m) e ∙ digits_div c k, sym (digits_mod a h) ∙ ap (λ (x : ℕ). x % m) e ∙ digits_mod c k)

header_tells : (h h' : Header) → HeaderFits h → h.serial < 2 ^ 32 → HeaderFits h' → h'.serial < 2 ^ 32 → header_number h ≡ header_number h' → h ≡ h'
unfolding header_number
header_tells h h' f l f' l' e =
    let a = last-part (2 ^ 32) _ h.serial _ h'.serial l l' e in
    let b = last-part (2 ^ 23) _ _ _ _ (bound-fits h f) (bound-fits h' f') a.0 in
    let c = last-part (2 ^ 3) _ _ _ _ f.round_fits f'.round_fits b.0 in
    let d = last-part (2 ^ 3) _ _ _ _ (less_one h f) (less_one h' f') c.0 in
    let k = last-part (2 ^ 1) _ _ _ _ f.settings_fit.shape.kinds f'.settings_fit.shape.kinds d.0 in
    let s = last-part (2 ^ 1) _ _ _ _ f.settings_fit.shape.sets f'.settings_fit.shape.sets k.0 in
    let same : h.settings.shape.n ≡ h'.settings.shape.n = some_less _ _ f.settings_fit.shape.some f'.settings_fit.shape.some d.1 in
    let made : h ≡ header_of h'.sender h'.settings.shape.set h'.settings.shape.kind h'.settings.shape.n
    h'.settings.bound h'.round h'.serial = rw (← s.0, ← s.1, ← k.1, ← same, ← b.1, ← c.1, ← a.1) in
    made
  where
    header_of : ℕ → ℕ → ℕ → ℕ → ℕ → ℕ → ℕ → Header
    header_of sender set kind n bound round serial = header_with sender (record { shape = record { set = set; kind = kind; n = n }; bound = bound }) round serial

    bound-fits : (g : Header) → HeaderFits g → g.settings.bound < 2 ^ 23
    bound-fits g i = omega (arith, i.settings_fit.bound_most)

    less_one : (g : Header) → HeaderFits g → g.settings.shape.n - 1 < 2 ^ 3
    less_one g i = omega (arith, i.settings_fit.shape.most)

    some_less : (n n' : ℕ) → 1 ≤ n → 1 ≤ n' → n - 1 ≡ n' - 1 → n ≡ n'
    some_less n n' g g' i = omega arith

-- ---- what the other side sends

accepted : (k : ℕ) (due : Header) (fs : List ℕ) → HeaderFits due → due.serial < 2 ^ 32
    → length fs ≡ field_count k (params_of due.settings.shape) due.round → all_below q fs ≡ true
    → (rest : ℕ) → ask_form k due (message_of (header_number due) fs) rest ≡ rest
unfolding ask_form message_length
accepted k due fs f h c e rest =
    let x = header_number due in
    let l = header_size due f h in
    rw (← c)
    (sym
    (skip _ rest 10 _ (eq-eqb _ _ (size x fs))
    (skip _ rest 11 _ (eq-eqb _ _ (header x fs (sized-q x fs l e)))
    (skip _ rest 12 rest (fields_pass x fs l e) refl))))

sample : message_of (header_number (header_with 0 (record { shape = record { set = 0; kind = 0; n = 1 }; bound = 0 }) 1 1)) (1 ∷ replicate key_count 0)
    ≡ 0x00 ∷ 0x80 ∷ 0x00 ∷ 0x00 ∷ 0x00 ∷ 0x00 ∷ 0x00 ∷ 0x01 ∷ 0x00 ∷ 0x00 ∷ 0x02 ∷ replicate 12 0x00
unfolding message_of packed fields_behind header_number list_from
sample = refl

pub round_trip : RoundTrip
round_trip =
    record {
      bytes = bytes;
      size = size;
      header = header;
      field = field;
      filling = filling;
      fields_pass = fields_pass;
      header_size = header_size;
      header_tells = header_tells;
      accepted = accepted;
      sample = sample;
    }
