-- Numbers packed into bytes, and fields put behind one another.
use mathlib.Core.Path.{◌≡◌, refl, sym, ap, ◌∙◌}
use mathlib.Core.List.{List, ◌++◌}
use Prim.Native.Nat.{ℕ, zero, suc, ◌+◌, ◌-◌, ◌*◌, ◌%◌, ◌/◌, ◌^◌, ◌≤◌, ◌<◌}
use native.Mathlib.Nat.{div-one, div-eq_of_lt, zero-add, mul_assoc, add-mul, add_assoc, mul-add-mod_self_right, mul-add-div_right, mod-lt, lt_of_lt_of_le}
use native.Mathlib.Omega.{arith}
use native.Mathlib.Decide.{dec_lt}
use lib.Dec.{lit<}
use lib.Arith.{digits_lt}
use lib.Pow.{pow-add, pow_pos, pow_mono, shl_exact, shl_lt, shr-shr, shl-shr, split, high}
use lib.ListN.{length, get_or, drop, get_or-eq_default, length-drop}
use borrow.Rule.Slice.PartMut.{put_mid, mid_of}
use Rattle.lists.proofs.Part.{fill-part}
use lib.Seq.{length-take-le, ext_get_or, drop-append-add, drop-drop}
use Rattle.lists.specs.Lists.{list_from, list_to, fill, in_front}
use Rattle.lists.proofs.Lists.{length-list_from, get_d_list_to}
use Rattle.lists.proofs.Fill.{length-fill, fill-before, fill-behind, fill-at, front_at, front-behind, front-is}
use Rattle.settings.specs.Sizes.{bytes_for}
use Rattle.message.specs.Bits.{padding, packed, number_on, number_of}
use Rattle.message.specs.Fields.{first_bits, put_bits, byte_of}
use Rattle.message.proofs.Numbers.{Bytes, bytes_drop, first_less, first_append, byte_is, filled}

-- ---- a packed number is read again

pub length-packed : (bits x : ℕ) → length (packed bits x) ≡ bytes_for bits
unfolding packed
length-packed bits x = length-list_from 0 (bytes_for bits) (byte_of (bytes_for bits) (x * 2 ^ padding bits))

pub packed-bytes : (bits x : ℕ) → Bytes (packed bits x)
unfolding packed
packed-bytes bits x j = go (dec_lt j (bytes_for bits))
  where
    go : Dec (j < bytes_for bits) → get_or (packed bits x) j 0 < 256
    go (yes h) = rw (get_d_list_to (bytes_for bits) (byte_of (bytes_for bits) (x * 2 ^ padding bits)) j 0 h) (mod-lt _ (lit< tt))
    go (no h) = rw (get_or-eq_default (packed bits x) 0 {n = j} (omega (arith, length-packed bits x))) (lit< tt)

-- the bytes of y from byte i on, behind those before
bytes-join : (y n i m : ℕ) → i + m ≡ n → number_on (y / 2 ^ (8 * (n - i))) (list_from i m (byte_of n y)) ≡ y
unfolding number_on list_from
bytes-join y n i zero e =
    let z : 8 * (n - i) ≡ 0 = omega arith in
    rw z (div-one y)
bytes-join y n i (suc m) e =
    let a : 8 * (n - i) ≡ 8 * (n - 1 - i) + 8 = omega arith in
    let d : 8 * (n - suc i) ≡ 8 * (n - 1 - i) = omega arith in
    let x = y / 2 ^ (8 * (n - 1 - i)) in
    let top : y / 2 ^ (8 * (n - i)) * 256 + x % 256 ≡ y / 2 ^ (8 * (n - suc i)) = rw (a, d, ← shr-shr y (8 * (n - 1 - i)) 8) (split x 8) in
    ap (λ (z : ℕ). number_on z (list_from (suc i) m (byte_of n y))) top ∙ bytes-join y n (suc i) m (omega arith)

pub number-packed : (bits x : ℕ) → x < 2 ^ bits → number_of (packed bits x) ≡ x * 2 ^ padding bits
unfolding packed
number-packed bits x h =
    let n = bytes_for bits in
    let y = x * 2 ^ padding bits in
    let e : bits + padding bits ≡ 8 * (n - 0) = omega arith in
    let small : y < 2 ^ (8 * (n - 0)) = rw e at (shl_lt bits (padding bits) h) in
    ap (λ (z : ℕ). number_on z (list_to n (byte_of n y))) (sym (div-eq_of_lt small)) ∙ bytes-join y n 0 n (zero-add n)

pub first_packed : (bits x : ℕ) → x < 2 ^ bits → first_bits (packed bits x) bits ≡ x
unfolding first_bits
first_packed bits x h = rw (length-packed bits x, number-packed bits x h) (shl-shr x (padding bits))

-- ---- a buffer with a packed number in front

-- as a run of stores
pub front-fill : (s : List ℕ) (bits x : ℕ) → bytes_for bits ≤ length s → in_front (packed bits x) s ≡ fill s 0 (bytes_for bits) (byte_of (bytes_for bits) (x * 2 ^ padding bits))
unfolding packed
front-fill s bits x h = sym (front-is s (bytes_for bits) (byte_of (bytes_for bits) (x * 2 ^ padding bits)) h)

pub first_front : (s : List ℕ) → Bytes s → (bits x : ℕ) → x < 2 ^ bits → first_bits (in_front (packed bits x) s) bits ≡ x
first_front s b bits x h =
    let p = packed bits x in
    first_append p (drop (length p) s) (bytes_drop s b (length p)) bits (omega (arith, length-packed bits x)) ∙ first_packed bits x h

drop_more : (s t : List ℕ) (n : ℕ) → length s ≤ n → drop n (s ++ drop (length s) t) ≡ drop n t
drop_more s t n h =
    let e : length s + (n - length s) ≡ n = omega arith in
    (rw e at (drop-append-add s (drop (length s) t) (n - length s))) ∙ (rw e at (drop-drop (n - length s) (length s) t))

-- more bits over fewer
pub front-over : (s : List ℕ) (a b x y : ℕ) → a ≤ b → in_front (packed b y) (in_front (packed a x) s) ≡ in_front (packed b y) s
front-over s a b x y h =
    let p = packed b y in
    ap (λ (t : List ℕ). p ++ t) (drop_more (packed a x) s (length p) (omega (arith, length-packed a x, length-packed b y)))

-- a field put behind what is packed
pub put-packed : (s : List ℕ) → Bytes s → (at w x v : ℕ) → x < 2 ^ at → put_bits (in_front (packed at x) s) at w v ≡ in_front (packed (at + w) (x * 2 ^ w + v)) s
unfolding put_bits
put-packed s b at w x v h = rw (first_front s b at x h) (front-over s at (at + w) x (x * 2 ^ w + v) (omega arith))

-- ---- a field put into the bytes that it touches

-- p bits up and p + e bits down
pub up_down : (v p e m : ℕ) → m ≡ p + e → v * 2 ^ p / 2 ^ m ≡ v / 2 ^ e
up_down v p e m h = rw (h, ← shr-shr (v * 2 ^ p) p e, shl-shr v p)

pub drop-low : (v w x e m : ℕ) → x < 2 ^ w → m ≡ w + e → (v * 2 ^ w + x) / 2 ^ m ≡ v / 2 ^ e
drop-low v w x e m l h = rw (h, ← shr-shr (v * 2 ^ w + x) w e, high v w l)

-- what stands above a field does not change it
low_field : (a b m r w p : ℕ) → m ≡ r + w + p → (a * 2 ^ m + b) / 2 ^ p % 2 ^ w ≡ b / 2 ^ p % 2 ^ w
low_field a b m r w p e =
    let f : a * 2 ^ m ≡ a * 2 ^ r * 2 ^ w * 2 ^ p = rw (e, pow-add 2 (r + w) p, pow-add 2 r w) (simp mul_assoc) in
    rw (f, mul-add-div_right (pow_pos p) (a * 2 ^ r * 2 ^ w) b) (mul-add-mod_self_right (a * 2 ^ r) (2 ^ w) (b / 2 ^ p))

regroup : (a b x u w p m : ℕ) → m ≡ u + w + p → ((a * 2 ^ u + b) * 2 ^ w + x) * 2 ^ p ≡ a * 2 ^ m + (b * 2 ^ w + x) * 2 ^ p
regroup a b x u w p m e = rw (e, pow-add 2 (u + w) p, pow-add 2 u w) (simp (add-mul, mul_assoc, add_assoc))

pad_local : (at w : ℕ) → padding (at + w) ≡ padding (at % 8 + w)
pad_local at w = omega arith

bytes_local : (at w : ℕ) → bytes_for (at + w) ≡ at / 8 + bytes_for (at % 8 + w)
bytes_local at w = omega arith

-- bits behind byte j, counted from the field's first byte and from the front
behind-same : (at w j : ℕ) → at / 8 ≤ j → j < bytes_for (at + w) → 8 * (bytes_for (at % 8 + w) - 1 - (j - at / 8)) ≡ 8 * (bytes_for (at + w) - 1 - j)
behind-same at w j l h = omega arith

behind_sum : (at w j : ℕ) → at / 8 ≤ j → j < bytes_for (at + w) → 8 * bytes_for (at % 8 + w) ≡ 8 * (j - at / 8) + 8 + 8 * (bytes_for (at + w) - 1 - j)
behind_sum at w j l h = omega arith

before-sum : (at w j : ℕ) → j < at / 8 → 8 * (bytes_for (at + w) - 1 - j) ≡ padding (at + w) + (w + (at - 8 * suc j))
before-sum at w j h = omega arith

module _ (s : List ℕ) (bytes : Bytes s) (at w x : ℕ) (some : 1 ≤ w) (small : x < 2 ^ w) (room : at + w ≤ 8 * length s) where
  abbrev v : ℕ
  v = first_bits s at

  abbrev n : ℕ
  n = bytes_for (at % 8 + w)

  abbrev p : ℕ
  p = padding (at % 8 + w)

  abbrev m : ℕ
  m = bytes_for (at + w)

  -- the whole, and the part that is stored
  abbrev whole : ℕ → ℕ
  whole = byte_of m ((v * 2 ^ w + x) * 2 ^ padding (at + w))

  abbrev stored : ℕ → ℕ
  stored = byte_of n ((v % 2 ^ (at % 8) * 2 ^ w + x) * 2 ^ p)

  -- a byte before the field
  before : (j : ℕ) → j < at / 8 → get_or s j 0 ≡ whole j
  before j h =
      let e = at - 8 * suc j in
      let i : 8 * suc j + e ≡ at = omega arith in
      sym
      (ap (λ (y : ℕ). y % 256)
      (up_down (v * 2 ^ w + x) (padding (at + w)) (w + e) (8 * (m - 1 - j)) (before-sum at w j h)
      ∙ drop-low v w x e (w + e) small refl
      ∙ ap (λ (b : ℕ). first_bits s b / 2 ^ e) (sym i)
      ∙ sym (first_less s (8 * suc j) e (omega arith)))
      ∙ byte_is s bytes j (omega arith))

  -- a byte of the field
  inside : (j : ℕ) → at / 8 ≤ j → j < m → stored (j - at / 8) ≡ whole j
  inside j l h =
      let u = at % 8 in
      let apart : (v * 2 ^ w + x) * 2 ^ p ≡ v / 2 ^ u * 2 ^ (8 * n) + (v % 2 ^ u * 2 ^ w + x) * 2 ^ p =
      ap (λ (y : ℕ). (y * 2 ^ w + x) * 2 ^ p) (sym (split v u)) ∙ regroup (v / 2 ^ u) (v % 2 ^ u) x u w p (8 * n) (filled u w) in
      rw (behind-same at w j l h, pad_local at w, apart)
      (sym (low_field (v / 2 ^ u) ((v % 2 ^ u * 2 ^ w + x) * 2 ^ p) (8 * n) (8 * (j - at / 8)) 8 (8 * (m - 1 - j)) (behind_sum at w j l h)))

  pub put_local : fill s (at / 8) n stored ≡ put_bits s at w x
  unfolding put_bits
  put_local =
      ext_get_or 0 _ _ (simp length-fill) (λ j h. go j (simp length-fill at h) (dec_lt j (at / 8)) (dec_lt j m))
      ∙ sym (front-fill s (at + w) (v * 2 ^ w + x) (omega arith))
    where
      go : (j : ℕ) → j < length s → Dec (j < at / 8) → Dec (j < m) → get_or (fill s (at / 8) n stored) j 0 ≡ get_or (fill s 0 m whole) j 0
      go j h (yes a) d = fill-before s (at / 8) n stored j a ∙ before j a ∙ sym (front_at s m whole j (omega arith) (omega arith))
      go j h (no a) (yes b) =
          let i = at / 8 in
          let e : i + (j - i) ≡ j = omega arith in
          (rw e at (fill-at s i n stored (j - i) (omega (arith, bytes_local at w)) (omega (arith, bytes_local at w))))
          ∙ inside j (omega arith) b
          ∙ sym (front_at s m whole j (omega arith) b)
      go j h (no a) (no b) =
          fill-behind s (at / 8) n stored j (omega (arith, bytes_local at w))
          ∙ sym (front-behind s m whole j (omega arith))

-- ---- the code's shifts lose no bit: a has u bits, v is the field

module _ (a u v w : ℕ) (ha : a < 2 ^ u) (hu : u < 8) (hv : v < 2 ^ w) (hw : w ≤ 32) where
  join_lt : a * 2 ^ w + v < 2 ^ (u + w)
  join_lt = rw (pow-add 2 u w) (digits_lt ha hv)

  head_exact : a * 2 ^ w % 2 ^ 64 ≡ a * 2 ^ w
  head_exact = shl_exact u w 64 ha (omega arith)

  pub sum_small : a * 2 ^ w % 2 ^ 64 + v < 2 ^ 40
  sum_small = rw head_exact (lt_of_lt_of_le join_lt (pow_mono {i = u + w} {j = 40} (omega arith)))

  exact : (a * 2 ^ w % 2 ^ 64 + v) * 2 ^ (8 * bytes_for (u + w) - u - w) % 2 ^ 64 ≡ (a * 2 ^ w + v) * 2 ^ padding (u + w)
  exact =
      let e : 8 * bytes_for (u + w) - u - w ≡ padding (u + w) = omega arith in
      rw (e, head_exact) (shl_exact (u + w) (padding (u + w)) 64 join_lt (omega arith))

-- a number's bytes, written into a part of a buffer
pub part_written :
    (s t : List ℕ) (a k n x : ℕ) → k ≡ n → a + n ≤ length s →
    (let m = length (mid_of a k s) in t ≡ fill (mid_of a k s) 0 m (byte_of m x)) →
    put_mid a k s t ≡ fill s a n (byte_of n x)
part_written s t a k n x e room stored =
    let size : length (mid_of a k s) ≡ k = length-take-le k (drop a s) (omega (arith, length-drop a s)) in
    ap (put_mid a k s) (rw size at stored) ∙ rw e (fill-part s a n (byte_of n x) room n (omega arith))

-- the bits before the field in its first byte
pub head_lt : (s : List ℕ) (at a : ℕ) → a ≡ first_bits s at % 2 ^ (at % 8) → a < 2 ^ (at % 8)
head_lt s at a e = rw e (mod-lt _ (pow_pos (at % 8)))

-- what the code stores, with a the bits before the field in its first byte
pub put_is :
    (s : List ℕ) → Bytes s → (at w x a : ℕ) (t : List ℕ) → 1 ≤ w → w ≤ 32 → x < 2 ^ w → at + w ≤ 8 * length s → a ≡ first_bits s at % 2 ^ (at % 8) →
    (let n = bytes_for (at % 8 + w) in t ≡ fill s (at / 8) n (byte_of n ((a * 2 ^ w % 2 ^ 64 + x) * 2 ^ (8 * n - at % 8 - w) % 2 ^ 64))) →
    t ≡ put_bits s at w x
put_is s bytes at w x a t some few small room kept stored =
    let n = bytes_for (at % 8 + w) in
    stored
    ∙ ap (λ (y : ℕ). fill s (at / 8) n (byte_of n y)) (exact a (at % 8) x w (head_lt s at a kept) (omega arith) small few)
    ∙ ap (λ (y : ℕ). fill s (at / 8) n (byte_of n ((y * 2 ^ w + x) * 2 ^ padding (at % 8 + w)))) kept
    ∙ put_local s bytes at w x some small room
