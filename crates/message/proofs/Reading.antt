-- The parts of a message as fields of its bits, and questions 11 and 12 asked of what is read.
use mathlib.Core.Path.{◌≡◌, refl, sym, ap, ◌∙◌}
use mathlib.Core.Bool.{Bool, true, false, true≢false, ◌&&◌}
use mathlib.Core.List.{List}
use Prim.Native.Nat.{ℕ, ◌+◌, ◌-◌, ◌*◌, ◌%◌, ◌/◌, ◌^◌, ◌≤◌, ◌<◌}
use native.Mathlib.Nat.{mod-eq_of_lt}
use native.Mathlib.Omega.{arith}
use lib.Dec.{eqb, ltb}
use lib.ListN.{length}
use lib.Pow.{mod-pow-add}
use Rattle.lists.specs.Answers.{ask}
use Rattle.lists.specs.Lists.{fill, every, all_below, all_to, list_to}
use Rattle.lists.proofs.Every.{every-at, every-list_to, all_to-at, all_to_yes}
use Rattle.lists.proofs.Fill.{fill-same, whole_is}
use Rattle.lists.proofs.Lists.{length-list_from, get_d_list_to}
use Rattle.field.specs.Field.{q}
use Rattle.settings.specs.Sizes.{bytes_for, message_bits}
use Rattle.message.specs.Bits.{padding, number_of}
use Rattle.message.specs.Message.{header_in, field_in, fields_ok, ask_parts}
use Rattle.message.specs.Fields.{first_bits, bits_at, field_at, ends_at}
use Rattle.message.specs.declared.Ends.{Ends}
use Rattle.message.proofs.Numbers.{Bytes, first_all, first_lt, first_less}

-- two fields side by side are one
halves : (s : List ℕ) → 64 ≤ 8 * length s → bits_at s 0 32 * 2 ^ 32 + bits_at s 32 32 ≡ bits_at s 0 64
unfolding bits_at
halves s h = rw (first_less s 32 32 h) (sym (mod-pow-add (first_bits s 64) 32 32))

module _ (fields : ℕ) (message : List ℕ) (exact : length message ≡ bytes_for (message_bits fields)) where
  field-at : (f : ℕ) → f < fields → bits_at message (64 + 23 * f) 23 ≡ field_in fields message f
  unfolding bits_at first_bits field_in
  field-at f h =
      let e : 8 * length message - (64 + 23 * f + 23) ≡ padding (message_bits fields) + 23 * (fields - 1 - f) = omega arith in
      rw e

  pub padding-at : bits_at message (64 + 23 * fields) (8 * length message - (64 + 23 * fields)) ≡ number_of message % 2 ^ padding (message_bits fields)
  unfolding bits_at
  padding-at =
      let e : 64 + 23 * fields + (8 * length message - (64 + 23 * fields)) ≡ 8 * length message = omega arith in
      let p : 8 * length message - (64 + 23 * fields) ≡ padding (message_bits fields) = omega arith in
      ap (λ (b : ℕ). first_bits message b % 2 ^ (8 * length message - (64 + 23 * fields))) e
      ∙ ap (λ (x : ℕ). x % 2 ^ (8 * length message - (64 + 23 * fields))) (first_all message)
      ∙ ap (λ (w : ℕ). number_of message % 2 ^ w) p

  pub header_at : Bytes message → bits_at message 0 64 ≡ header_in fields message
  unfolding bits_at first_bits
  header_at bytes =
      let e : 8 * length message - 64 ≡ padding (message_bits fields) + 23 * fields = omega arith in
      mod-eq_of_lt (first_lt message bytes 64 (omega arith)) ∙ ap (λ (w : ℕ). number_of message / 2 ^ w) e

  -- the header's number, from its two halves
  pub halves-at : Bytes message → bits_at message 0 32 * 2 ^ 32 + bits_at message 32 32 ≡ header_in fields message
  halves-at bytes = halves message (omega arith) ∙ header_at bytes

-- ---- questions 11 and 12, of what is read

-- every number of a list that is written whole is below m
below_filled : (m n : ℕ) (s : List ℕ) (f : ℕ → ℕ) → length s ≡ n → all_below m (fill s 0 n f) ≡ all_to n (λ (k : ℕ). ltb (f k) m)
unfolding all_below
below_filled m n s f e = ap (all_below m) (whole_is s n f e) ∙ go (every t (list_to n f)) (all_to n (λ (k : ℕ). t (f k))) refl refl
  where
    t : ℕ → Bool
    t x = ltb x m

    go : (a b : Bool) → a ≡ every t (list_to n f) → b ≡ all_to n (λ (k : ℕ). t (f k)) → every t (list_to n f) ≡ all_to n (λ (k : ℕ). t (f k))
    go true true p r = sym p ∙ r
    go false false p r = sym p ∙ r
    go true false p r =
        absurd (true≢false (sym (all_to_yes n _ (λ k h. ap t (sym (get_d_list_to n f k 0 h)) ∙ every-at t (list_to n f) k 0 (sym p) (omega (arith, length-list_from 0 n f)))) ∙ sym r))
    go false true p r = absurd (true≢false (sym (every-list_to t n f (λ k h. all_to-at n _ k (sym r) h)) ∙ sym p))

ask_both : (x y z : Bool) → ask x 11 (ask y 12 (ask z 12 0)) ≡ ask x 11 (ask (y && z) 12 0)
unfolding ask
ask_both false y z = refl
ask_both true false z = refl
ask_both true true z = refl

-- the questions in the order in which they are asked of the numbers read, and the fields among these
pub parts_is : (due : ℕ) (message ys zs : List ℕ) (ends : Ends) (h width : ℕ) → Bytes message → length message ≡ bytes_for (message_bits (length ys))
    → width ≡ 8 * length message - message_bits (length ys) → ends ≡ ends_at (length ys) message width → zs ≡ fill ys 0 (length ys) (field_at message)
    → h ≡ ends.high * 2 ^ 32 + ends.low → (r : ℕ) → r ≡ ask (eqb h due) 11 (ask (all_below q zs) 12 (ask (eqb ends.padding 0) 12 0))
    → (r ≡ ask_parts due (length ys) message 0) × (zs ≡ fill ys 0 (length ys) (field_in (length ys) message))
unfolding fields_ok
parts_is due message ys zs ends h width bytes exact wide is filled head r e =
    let n = length ys in
    let a : h ≡ header_in n message = head ∙ ap (λ (x : Ends). x.high * 2 ^ 32 + x.low) is ∙ halves-at n message exact bytes in
    let fs : zs ≡ fill ys 0 n (field_in n message) = filled ∙ fill-same ys 0 n _ _ (λ f l. field-at n message exact f l) in
    let b : all_below q zs ≡ all_to n (λ (f : ℕ). ltb (field_in n message f) q) = ap (all_below q) fs ∙ below_filled q n ys (field_in n message) refl in
    let d : ends.padding ≡ number_of message % 2 ^ padding (message_bits n) =
    ap (λ (x : Ends). x.padding) is ∙ ap (bits_at message (message_bits n)) wide ∙ padding-at n message exact in
    (e ∙ rw (a, b, d) (ask_both (eqb (header_in n message) due) (all_to n (λ (f : ℕ). ltb (field_in n message f) q)) (eqb (number_of message % 2 ^ padding (message_bits n)) 0)), fs)
