-- Bytes as one number, and the bits of it that stand in front.
use mathlib.Core.Path.{◌≡◌, refl, sym, ap, ◌∙◌}
use mathlib.Core.List.{List, [], ◌∷◌, ◌++◌}
use Prim.Native.Nat.{ℕ, suc, ◌+◌, ◌-◌, ◌*◌, ◌%◌, ◌/◌, ◌^◌, ◌≤◌, ◌<◌}
use native.Mathlib.Nat.{div-one, one-mul, mul-suc, mul_comm, mul_assoc, add-mul, zero-add, lt_of_lt_of_le}
use native.Mathlib.Omega.{arith}
use lib.Dec.{lit<}
use lib.Arith.{digits_lt}
use lib.Pow.{pow-add, pow_mono, shl_exact, shr_lt, shr-shr, high, low, field, mod-mod-pow}
use native.Mathlib.Decide.{dec_lt}
use lib.ListN.{length, get_or, take, drop, length-append, take-append-drop, get_or-eq_default}
use lib.Seq.{take-suc, take-add, length-take-le, get_or-drop}
use Rattle.std.proofs.Common.{length-drop}
use Rattle.std.proofs.lemmas.List.{length-take, get_or-take, take_more}
use Rattle.settings.specs.Sizes.{bytes_for}
use Rattle.message.specs.Bits.{padding, number_on, number_of}
use Rattle.message.specs.Fields.{first_bits, bits_at}

-- what a slice of u8 holds
abbrev pub Bytes : List ℕ → Type 0
Bytes s = (j : ℕ) → get_or s j 0 < 256

-- ---- the number of a list in parts

pub pow_byte : (n : ℕ) → 2 ^ (8 * suc n) ≡ 256 * 2 ^ (8 * n)
pow_byte n = rw (mul-suc 8 n, pow-add 2 (8 * n) 8) (mul_comm (2 ^ (8 * n)) 256)

on_is : (x : ℕ) (s : List ℕ) → number_on x s ≡ x * 2 ^ (8 * length s) + number_of s
unfolding number_on
on_is x [] = omega arith
on_is x (b ∷ s) =
    let p = 2 ^ (8 * length s) in
    on_is (x * 256 + b) s
    ∙ rw (add-mul, mul_assoc, ← pow_byte (length s)) (omega (arith, on_is (0 * 256 + b) s, ap (λ (y : ℕ). y * p) (zero-add b)))

on_append : (x : ℕ) (s t : List ℕ) → number_on x (s ++ t) ≡ number_on (number_on x s) t
unfolding number_on
on_append x [] t = refl
on_append x (b ∷ s) t = on_append (x * 256 + b) s t

pub number_append : (s t : List ℕ) → number_of (s ++ t) ≡ number_of s * 2 ^ (8 * length t) + number_of t
number_append s t = on_append 0 s t ∙ on_is (number_of s) t

number_one : (b : ℕ) → number_of (b ∷ []) ≡ b
unfolding number_on
number_one b = zero-add b

pub number_lt : (s : List ℕ) → Bytes s → number_of s < 2 ^ (8 * length s)
unfolding number_on
number_lt [] h = lit< tt
number_lt (b ∷ s) h =
    rw (on_is (0 * 256 + b) s, zero-add b, pow_byte (length s))
    (digits_lt (h 0) (number_lt s (λ j. h (suc j))))

pub bytes_take : (s : List ℕ) → Bytes s → (m : ℕ) → Bytes (take m s)
bytes_take s bytes m j = go (dec_lt j m)
  where
    go : Dec (j < m) → get_or (take m s) j 0 < 256
    go (yes h) = rw (get_or-take m s j 0 h) (bytes j)
    go (no h) = rw (get_or-eq_default (take m s) 0 {n = j} (omega (arith, length-take m s))) (lit< tt)

-- ---- the first bits

module _ (s : List ℕ) where
  pub first_all : first_bits s (8 * length s) ≡ number_of s
  unfolding first_bits
  first_all =
      let e : 8 * length s - 8 * length s ≡ 0 = omega arith in
      rw e (div-one (number_of s))

  pub first_less : (a k : ℕ) → a + k ≤ 8 * length s → first_bits s a ≡ first_bits s (a + k) / 2 ^ k
  unfolding first_bits
  first_less a k h =
      let e : 8 * length s - a ≡ 8 * length s - (a + k) + k = omega arith in
      rw e (sym (shr-shr (number_of s) (8 * length s - (a + k)) k))

  pub first_lt : Bytes s → (a : ℕ) → a ≤ 8 * length s → first_bits s a < 2 ^ a
  unfolding first_bits
  first_lt h a l =
      let e : a + (8 * length s - a) ≡ 8 * length s = omega arith in
      shr_lt a (8 * length s - a) (rw e (number_lt s h))

-- more bytes behind do not change them
pub first_append : (s t : List ℕ) → Bytes t → (a : ℕ) → a ≤ 8 * length s → first_bits (s ++ t) a ≡ first_bits s a
unfolding first_bits
first_append s t h a l =
    let e : 8 * (length s + length t) - a ≡ 8 * length t + (8 * length s - a) = omega arith in
    rw (length-append s t, e, number_append s t, ← shr-shr (number_of s * 2 ^ (8 * length t) + number_of t) (8 * length t) (8 * length s - a))
    (ap (λ (x : ℕ). x / 2 ^ (8 * length s - a)) (high (number_of s) (8 * length t) (number_lt t h)))

module _ (s : List ℕ) (bytes : Bytes s) where
  pub bytes_drop : (m : ℕ) → Bytes (drop m s)
  bytes_drop m j = rw (get_or-drop m s j 0) (bytes (m + j))

  first_take : (m : ℕ) → m ≤ length s → first_bits s (8 * m) ≡ number_of (take m s)
  first_take m h =
      let e : length (take m s) ≡ m = length-take-le m s h in
      ap (λ (l : List ℕ). first_bits l (8 * m)) (sym (take-append-drop m s))
      ∙ first_append (take m s) (drop m s) (bytes_drop m) (8 * m) (omega arith)
      ∙ ap (λ (n : ℕ). first_bits (take m s) (8 * n)) (sym e)
      ∙ first_all (take m s)

  -- one byte more
  pub first_more : (i : ℕ) → i < length s → first_bits s (8 * suc i) ≡ first_bits s (8 * i) * 2 ^ 8 + get_or s i 0
  first_more i h =
      rw (first_take (suc i) h, first_take i (omega arith), take-suc s i 0, number_append (take i s) (get_or s i 0 ∷ []), number_one (get_or s i 0))

  -- a byte by itself
  pub byte_is : (i : ℕ) → i < length s → first_bits s (8 * suc i) % 256 ≡ get_or s i 0
  byte_is i h = rw (first_more i h) (low (first_bits s (8 * i)) 8 (bytes i))

  -- the k bytes from place i on as a field of bits
  pub number_part : (i k : ℕ) → i + k ≤ length s → number_of (take k (drop i s)) ≡ bits_at s (8 * i) (8 * k)
  unfolding bits_at
  number_part i k h =
      let part = take k (drop i s) in
      let size : length part ≡ k = length-take-le k (drop i s) (omega (arith, length-drop i s)) in
      let place : 8 * i + 8 * k ≡ 8 * (i + k) = omega arith in
      let small : number_of part < 2 ^ (8 * k) = rw size at (number_lt part (bytes_take (drop i s) (bytes_drop i) k)) in
      rw (place, first_take (i + k) h, take-add i k s, number_append (take i s) part, size)
      (sym (low (number_of (take i s)) (8 * k) small))

-- ---- the number of the first bytes

pub number_none : 0 ≡ number_of []
unfolding number_on
number_none = refl

pub number_more : (s : List ℕ) (k : ℕ) → k < length s → number_of (take k s) * 256 + get_or s k 0 ≡ number_of (take (k + 1) s)
number_more s k h = rw (take_more s k 0 h, number_append (take k s) (get_or s k 0 ∷ []), number_one (get_or s k 0))

-- fewer than 8 bytes leave room for one more
pub number_small : (s : List ℕ) → Bytes s → (k : ℕ) → k < 8 → number_of (take k s) < 2 ^ 56
number_small s bytes k h =
    lt_of_lt_of_le (number_lt (take k s) (bytes_take s bytes k))
    (pow_mono {i = 8 * length (take k s)} {j = 56} (omega (arith, length-take k s)))

-- ---- a field of bits is read from the bytes that it touches

pub filled : (u w : ℕ) → 8 * bytes_for (u + w) ≡ u + w + padding (u + w)
filled u w = omega arith

ends : (at w : ℕ) → 8 * (at / 8) + 8 * bytes_for (at % 8 + w) ≡ at + w + padding (at % 8 + w)
ends at w = omega arith

within : (at w n : ℕ) → at + w ≤ 8 * n → at + w + padding (at % 8 + w) ≤ 8 * n
within at w n h = omega arith

inner_field : (y m a w k : ℕ) → m ≡ a + w + k → y % 2 ^ m / 2 ^ k % 2 ^ w ≡ y / 2 ^ k % 2 ^ w
inner_field y m a w k e = rw (e, field y (a + w) k) (mod-mod-pow (y / 2 ^ k) a w)

pub bits-local :
    (s : List ℕ) (at w : ℕ) → at + w ≤ 8 * length s →
    bits_at s (8 * (at / 8)) (8 * bytes_for (at % 8 + w)) / 2 ^ padding (at % 8 + w) % 2 ^ w ≡ bits_at s at w
unfolding bits_at
bits-local s at w h =
    let n = bytes_for (at % 8 + w) in
    let p = padding (at % 8 + w) in
    let e : 8 * (at / 8) + 8 * n ≡ at + w + p = ends at w in
    rw (e, inner_field (first_bits s (at + w + p)) (8 * n) (at % 8) w p (filled (at % 8) w), ← first_less s (at + w) p (within at w (length s) h))

-- 1 shifted by a field's width
pub one_shl : (w : ℕ) → w ≤ 32 → 1 * 2 ^ w % 2 ^ 64 ≡ 2 ^ w
one_shl w h = shl_exact {a = 1} 1 w 64 (lit< tt) (omega arith) ∙ one-mul (2 ^ w)
