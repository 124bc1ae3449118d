-- What passes questions 10 to 12 is told by its fields (FieldsTell): header, fields and padding are all its bits.
use Prim.Native.Nat.{ℕ, zero, suc, ◌+◌, ◌-◌, ◌*◌, ◌%◌, ◌/◌, ◌^◌, ◌≤◌, ◌<◌}
use mathlib.Core.Path.{◌≡◌, sym, ap, ap₂, ◌∙◌}
use mathlib.Core.Bool.{true}
use mathlib.Core.List.{List}
use native.Mathlib.Nat.{mod-add-div'}
use native.Mathlib.Omega.{arith}
use lib.Dec.{ltb, lit≤}
use lib.ListN.{length}
use lib.Pow.{shr-shr}
use lib.Seq.{ext_get_or}
use borrow.Author.Tests.{eqb-true}
use Rattle.lists.specs.Lists.{all_below, all_to}
use Rattle.lists.proofs.Every.{below_at}
use Rattle.lists.proofs.Questions.{both_yes}
use Rattle.field.specs.Field.{q}
use Rattle.settings.specs.Sizes.{field_bits, message_bits}
use Rattle.message.specs.Bits.{padding, number_of}
use Rattle.message.specs.Fields.{first_bits}
use Rattle.message.specs.Message.{field_in, fields_ok}
use Rattle.message.specs.Theorems.{FieldsTell}
use Rattle.message.proofs.Numbers.{byte_is}
use Rattle.message.proofs.Form.{fields_of, form-passed}

-- ---- Numbers

-- a number by its high part and its low one
same_parts : (x y m : ℕ) → x / m ≡ y / m → x % m ≡ y % m → x ≡ y
same_parts x y m high low =
    sym (mod-add-div' x m) ∙ ap₂ (λ (a b : ℕ). a + b * m) low high ∙ mod-add-div' y m

-- by what stands before so many fields of 23 bits, the fields, and the p bits behind them
module _ (p fields x y : ℕ)
    (before : x / 2 ^ (p + field_bits * fields) ≡ y / 2 ^ (p + field_bits * fields))
    (each : (f : ℕ) → f < fields → x / 2 ^ (p + field_bits * (fields - 1 - f)) % 2 ^ field_bits ≡ y / 2 ^ (p + field_bits * (fields - 1 - f)) % 2 ^ field_bits) where
  -- the first fields
  same_first : (f : ℕ) → f ≤ fields → x / 2 ^ (p + field_bits * (fields - f)) ≡ y / 2 ^ (p + field_bits * (fields - f))
  same_first zero l =
      let all : fields - 0 ≡ fields = omega arith in
      rw all before
  same_first (suc f) l =
      let behind : ℕ = p + field_bits * (fields - 1 - f) in
      let here : p + field_bits * (fields - suc f) ≡ behind = omega arith in
      let more : behind + field_bits ≡ p + field_bits * (fields - f) = omega arith in
      let shifted : (z : ℕ) → z / 2 ^ behind / 2 ^ field_bits ≡ z / 2 ^ (p + field_bits * (fields - f)) =
      λ z. shr-shr z behind field_bits ∙ ap (λ (e : ℕ). z / 2 ^ e) more in
      rw here
      (same_parts (x / 2 ^ behind) (y / 2 ^ behind) (2 ^ field_bits)
      (shifted x ∙ same_first f (omega arith) ∙ sym (shifted y)) (each f (omega arith)))

  same_number : x % 2 ^ p ≡ y % 2 ^ p → x ≡ y
  same_number low =
      let end : p + field_bits * (fields - fields) ≡ p = omega arith in
      same_parts x y (2 ^ p) (rw end at (same_first fields (omega arith))) low

-- ---- Bytes

same_bytes : (a b : List ℕ) → all_below 256 a ≡ true → all_below 256 b ≡ true → length a ≡ length b → number_of a ≡ number_of b → a ≡ b
unfolding first_bits
same_bytes a b ha hb size number =
    ext_get_or 0 a b size (λ i l.
    sym (byte_is a (λ j. below_at 256 a j (lit≤ tt) ha) i l)
    ∙ ap₂ (λ (n x : ℕ). x / 2 ^ (8 * n - 8 * suc i) % 256) size number
    ∙ byte_is b (λ j. below_at 256 b j (lit≤ tt) hb) i (omega arith))

-- ---- Messages

-- the padding is zero
filled : (fields : ℕ) (msg : List ℕ) → fields_ok fields msg ≡ true → number_of msg % 2 ^ padding (message_bits fields) ≡ 0
unfolding fields_ok
filled fields msg e = eqb-true _ 0 (both_yes (all_to fields (λ (f : ℕ). ltb (field_in fields msg f) q)) _ e).1

pub fields_tell : FieldsTell
unfolding field_in
fields_tell k due a b ha hb ea eb same =
    let fields = fields_of k due in
    let x = (form-passed k due a 0 ea).0 in
    let y = (form-passed k due b 0 eb).0 in
    same_bytes a b ha hb (eqb-true _ _ x.ten ∙ sym (eqb-true _ _ y.ten))
    (same_number (padding (message_bits fields)) fields (number_of a) (number_of b)
    (eqb-true _ _ x.eleven ∙ sym (eqb-true _ _ y.eleven)) same (filled fields a x.twelve ∙ sym (filled fields b y.twelve)))
