-- Fields put behind one another.
use mathlib.Core.Path.{◌≡◌, refl, sym, ap, ◌∙◌}
use mathlib.Core.Bool.{true}
use mathlib.Core.List.{List, [], ◌∷◌, ◌++◌}
use Prim.Native.Nat.{ℕ, zero, suc, ◌+◌, ◌-◌, ◌*◌, ◌%◌, ◌/◌, ◌^◌, ◌≤◌, ◌<◌}
use native.Mathlib.Nat.{add-zero, mul-one, mul_assoc, mul-add-mod_self_right}
use native.Mathlib.Numerals.{add-one}
use native.Mathlib.Omega.{arith}
use lib.Dec.{lit<}
use lib.Arith.{digits_lt}
use lib.Pow.{pow-add}
use lib.ListN.{length, get_or, take}
use lib.Seq.{take-suc, take-length}
use Rattle.lists.specs.Lists.{all_below, fill, in_front}
use Rattle.lists.proofs.Every.{below_at}
use Rattle.lists.proofs.Lists.{prefix_is, get_d_list_to}
use Rattle.settings.specs.Sizes.{bytes_for, field_bits, header_bits, message_bits}
use Rattle.message.specs.Bits.{padding, packed}
use Rattle.message.specs.Message.{fields_behind, message_of}
use Rattle.message.specs.Fields.{first_bits, put_bits, put_fields, byte_of}
use Rattle.message.proofs.Numbers.{Bytes, first_less, first_lt, byte_is}
use Rattle.message.proofs.Packing.{length-packed, up_down, first_front, front-fill, front-over, put-packed}

-- ---- the number of a header and fields

behind_append : (x : ℕ) (fs gs : List ℕ) → fields_behind x (fs ++ gs) ≡ fields_behind (fields_behind x fs) gs
unfolding fields_behind
behind_append x [] gs = refl
behind_append x (f ∷ fs) gs = behind_append (x * 2 ^ field_bits + f) fs gs

pub behind-none : (x : ℕ) → fields_behind x [] ≡ x
unfolding fields_behind
behind-none x = refl

pub behind_more : (x : ℕ) (fs : List ℕ) (i : ℕ) → i < length fs → fields_behind x (take (suc i) fs) ≡ fields_behind x (take i fs) * 2 ^ field_bits + get_or fs i 0
unfolding fields_behind
behind_more x fs i h = rw (take-suc fs i 0 h) (behind_append x (take i fs) (get_or fs i 0 ∷ []))

pub below_field : (fs : List ℕ) → all_below (2 ^ field_bits) fs ≡ true → (j : ℕ) → get_or fs j 0 < 2 ^ field_bits
below_field fs e j = below_at (2 ^ field_bits) fs j (lit< tt) e

-- the number of the first fields behind x
pub behind_lt : (x a : ℕ) (fs : List ℕ) → all_below (2 ^ field_bits) fs ≡ true → x < 2 ^ a → (i : ℕ) → i ≤ length fs → fields_behind x (take i fs) < 2 ^ (a + field_bits * i)
behind_lt x a fs e h zero l = rw (behind-none x, add-zero a) h
behind_lt x a fs e h (suc i) l =
    let s : a + 23 * suc i ≡ a + 23 * i + 23 = omega arith in
    rw (behind_more x fs i l, s, pow-add 2 (a + 23 * i) 23) (digits_lt (behind_lt x a fs e h i (omega arith)) (below_field fs e i))

-- ---- the loop: the first i fields are behind the header

abbrev pub put_to : List ℕ → List ℕ → ℕ → List ℕ
put_to s fs i = in_front (packed (message_bits i) (fields_behind (first_bits s header_bits) (take i fs))) s

module _ (s : List ℕ) (bytes : Bytes s) where
  -- a buffer's own first bytes
  front_same : (m : ℕ) → m ≤ length s → in_front (packed (8 * m) (first_bits s (8 * m))) s ≡ s
  unfolding packed
  front_same m h =
      prefix_is (packed (8 * m) (first_bits s (8 * m))) s 0 (omega (arith, length-packed (8 * m) (first_bits s (8 * m))))
      (λ x l. go x (omega (arith, length-packed (8 * m) (first_bits s (8 * m)))))
    where
      go : (x : ℕ) → x < m → get_or s x 0 ≡ get_or (packed (8 * m) (first_bits s (8 * m))) x 0
      go x l =
          let n = bytes_for (8 * m) in
          let p = padding (8 * m) in
          let e = 8 * (m - 1 - x) in
          let i : 8 * m ≡ 8 * suc x + e = omega arith in
          sym
          (get_d_list_to n (byte_of n (first_bits s (8 * m) * 2 ^ p)) x 0 (omega arith)
          ∙ ap (λ (y : ℕ). y % 256)
          (up_down (first_bits s (8 * m)) p e (8 * (n - 1 - x)) (omega arith)
          ∙ ap (λ (b : ℕ). first_bits s b / 2 ^ e) i
          ∙ sym (first_less s (8 * suc x) e (omega arith)))
          ∙ byte_is s bytes x (omega arith))

  pub put-none : (fs : List ℕ) → header_bits ≤ 8 * length s → s ≡ put_to s fs 0
  put-none fs h = rw (behind-none (first_bits s header_bits)) (sym (front_same 8 (omega arith)))

  pub put-more : (fs : List ℕ) → all_below (2 ^ field_bits) fs ≡ true → header_bits ≤ 8 * length s → (i : ℕ) → i < length fs → put_bits (put_to s fs i) (64 + 23 * i) 23 (get_or fs i 0) ≡ put_to s fs (i + 1)
  put-more fs e h i l =
      let x = fields_behind (first_bits s header_bits) (take i fs) in
      let m : 64 + 23 * (i + 1) ≡ 64 + 23 * i + 23 = omega arith in
      rw (m, add-one i, behind_more (first_bits s header_bits) fs i l)
      (put-packed s bytes (64 + 23 * i) 23 x (get_or fs i 0) (behind_lt (first_bits s header_bits) 64 fs e (first_lt s bytes 64 h) i (omega arith)))

  -- the last bits of field i are those that the first i + 1 fields leave in a byte
  pub put-head :
      (fs : List ℕ) → all_below (2 ^ field_bits) fs ≡ true → header_bits ≤ 8 * length s → (i u : ℕ) → i < length fs → u < 8
      → get_or fs i 0 % 2 ^ u ≡ first_bits (put_to s fs (i + 1)) (64 + 23 * (i + 1)) % 2 ^ u
  put-head fs e h i u l small =
      let x = first_bits s header_bits in
      let first = first_front s bytes (64 + 23 * suc i) (fields_behind x (take (suc i) fs)) (behind_lt x 64 fs e (first_lt s bytes 64 h) (suc i) l) in
      let b = fields_behind x (take i fs) in
      let k : 23 ≡ 23 - u + u = omega arith in
      let apart : b * 2 ^ 23 ≡ b * 2 ^ (23 - u) * 2 ^ u =
      ap (λ (m : ℕ). b * 2 ^ m) k ∙ ap (λ (y : ℕ). b * y) (pow-add 2 (23 - u) u) ∙ sym (mul_assoc b (2 ^ (23 - u)) (2 ^ u)) in
      rw (add-one i, first, behind_more x fs i l, apart) (sym (mul-add-mod_self_right (b * 2 ^ (23 - u)) (2 ^ u) (get_or fs i 0)))

  pub put_all : (fs : List ℕ) → put_to s fs (length fs) ≡ put_fields s fs
  unfolding put_fields
  put_all fs = rw (take-length fs)

  -- ---- the whole message

  pub put_message_is : (t : List ℕ) (h : ℕ) (fs : List ℕ) → h < 2 ^ 64 → 8 ≤ length s → t ≡ fill s 0 8 (byte_of 8 h) → put_fields t fs ≡ in_front (message_of h fs) s
  unfolding put_fields message_of
  put_message_is t h fs l r e =
      let f : t ≡ in_front (packed 64 h) s = e ∙ ap (λ (x : ℕ). fill s 0 8 (byte_of 8 x)) (sym (mul-one h)) ∙ sym (front-fill s 64 h r) in
      rw (f, first_front s bytes 64 h l) (front-over s 64 (64 + 23 * length fs) h (fields_behind h fs) (omega arith))
