-- Text put byte by byte: bytes behind bytes, what is put where there is room, and the loops that put.
use Prim.Native.Nat.{ℕ, suc, ◌+◌, ◌≤◌, ◌<◌}
use mathlib.Core.Path.{◌≡◌, refl, sym, ap, ◌∙◌}
use mathlib.Core.Bool.{Bool, true, false, cond}
use mathlib.Core.List.{List, [], ◌∷◌, ◌++◌, append-nil, append_assoc}
use native.Mathlib.Numerals.{add-one}
use native.Mathlib.Omega.{arith}
use native.Mathlib.Decide.{dec_lt}
use lib.Dec.{ltb}
use borrow.Author.Tests.{lt-ltb, le-ltb}
use lib.ListN.{length, get_or, set, take, length-set}
use lib.Seq.{take-suc-set}
use Rattle.std.proofs.lemmas.List.{take_more}
use Rattle.text.specs.declared.TextBuffer.{TextBuffer}
use Rattle.text.specs.Text.{Text, text_at, text_of, put, puts, Puts, decimal, numbers_text, hex_byte, hex_bytes}

pub puts_append : (t : Text) (xs bs : List ℕ) → puts (puts t xs) bs ≡ puts t (xs ++ bs)
unfolding puts
puts_append t [] bs = refl
puts_append t (a ∷ xs) bs = puts_append (put t a) xs bs

-- nothing, and one part behind another
pub puts_none : (s : TextBuffer) → Puts s s []
unfolding puts
puts_none s = record { same_slice = refl; text = refl }

pub puts_then : {s a b : TextBuffer} (xs ys : List ℕ) → Puts s a xs → Puts a b ys → Puts s b (xs ++ ys)
puts_then {s = s} xs ys p q =
    record { same_slice = q.same_slice ∙ p.same_slice; text = q.text ∙ ap (λ (t : Text). puts t ys) p.text ∙ puts_append (text_of s) xs ys }

-- ---- room

put-length : (t : Text) (b : ℕ) → length (put t b).bytes ≡ length t.bytes
unfolding put
put-length t b = go (ltb t.at (length t.bytes))
  where
    go : (c : Bool) → length (cond c (text_at (set t.bytes t.at b) (t.at + 1)) t).bytes ≡ length t.bytes
    go true = length-set t.bytes t.at b
    go false = refl

-- the slice keeps its length
pub puts-length : (t : Text) (bs : List ℕ) → length (puts t bs).bytes ≡ length t.bytes
unfolding puts
puts-length t [] = refl
puts-length t (b ∷ bs) = puts-length (put t b) bs ∙ put-length t b

put-within : (t : Text) (b : ℕ) → t.at ≤ length t.bytes → (put t b).at ≤ length t.bytes
unfolding put
put-within t b h = go (dec_lt t.at (length t.bytes))
  where
    go : Dec (t.at < length t.bytes) → (put t b).at ≤ length t.bytes
    go (yes l) = rw (lt-ltb t.at (length t.bytes) l) (omega (arith, l))
    go (no l) = rw (le-ltb t.at (length t.bytes) (omega (arith, l))) h

-- the next place stays within it, or at its end
pub puts-within : (t : Text) (bs : List ℕ) → t.at ≤ length t.bytes → (puts t bs).at ≤ length t.bytes
unfolding puts
puts-within t [] h = h
puts-within t (b ∷ bs) h =
    let w : (put t b).at ≤ length t.bytes = put-within t b h in
    rw (put-length t b) at (puts-within (put t b) bs (rw (put-length t b) w))

put-room : (out : List ℕ) (at b : ℕ) → at < length out → put (text_at out at) b ≡ text_at (set out at b) (suc at)
unfolding put
put-room out at b h = rw (lt-ltb at (length out) h, add-one at) refl

-- where there is room for all, the next place is behind them
pub puts-at : (out : List ℕ) (at : ℕ) (bs : List ℕ) → at + length bs ≤ length out → (puts (text_at out at) bs).at ≡ at + length bs
unfolding puts
puts-at out at [] h = omega arith
puts-at out at (b ∷ bs) h =
    ap (λ (t : Text). (puts t bs).at) (put-room out at b (omega arith))
    ∙ puts-at (set out at b) (suc at) bs (omega (arith, length-set out at b))
    ∙ omega arith

-- and they stand behind what stood in front
pub puts-front : (out : List ℕ) (at : ℕ) (bs : List ℕ) → at + length bs ≤ length out → take (at + length bs) (puts (text_at out at) bs).bytes ≡ take at out ++ bs
unfolding puts
puts-front out at [] h = let e : at + 0 ≡ at = omega arith in rw e (sym (append-nil (take at out)))
puts-front out at (b ∷ bs) h =
    let e : at + suc (length bs) ≡ suc at + length bs = omega arith in
    rw e
    (ap (λ (t : Text). take (suc at + length bs) (puts t bs).bytes) (put-room out at b (omega arith))
    ∙ puts-front (set out at b) (suc at) bs (omega (arith, length-set out at b))
    ∙ ap (λ (l : List ℕ). l ++ bs) (take-suc-set out at b (omega arith))
    ∙ append_assoc (take at out) (b ∷ []) bs)

-- a slice and a place that bytes were put into
module _ (out : List ℕ) (at : ℕ) (bs now : List ℕ) (r : ℕ) (e : text_at now r ≡ puts (text_at out at) bs) where
  pub length-put : length now ≡ length out
  length-put = ap (λ (t : Text). length t.bytes) e ∙ puts-length (text_at out at) bs

  pub within-put : at ≤ length out → r ≤ length now
  within-put h = omega (arith, length-put, ap (λ (t : Text). t.at) e, puts-within (text_at out at) bs h)

  pub at-put : at + length bs ≤ length out → r ≡ at + length bs
  at-put h = ap (λ (t : Text). t.at) e ∙ puts-at out at bs h

  pub front-put : at + length bs ≤ length out → take r now ≡ take at out ++ bs
  front-put h = rw (at-put h) (ap (λ (t : Text). take (at + length bs) t.bytes) e ∙ puts-front out at bs h)

-- ---- the loops: what has been put, of all that is to be put

numbers_push : (ns : List ℕ) (n : ℕ) → numbers_text (ns ++ n ∷ []) ≡ numbers_text ns ++ (32 ∷ decimal n)
unfolding numbers_text
numbers_push [] n = append-nil (32 ∷ decimal n)
numbers_push (m ∷ ns) n = ap (λ (r : List ℕ). (32 ∷ decimal m) ++ r) (numbers_push ns n) ∙ sym (append_assoc (32 ∷ decimal m) (numbers_text ns) (32 ∷ decimal n))

hex_push : (bs : List ℕ) (b : ℕ) → hex_bytes (bs ++ b ∷ []) ≡ hex_bytes bs ++ hex_byte b
unfolding hex_bytes
hex_push [] b = append-nil (hex_byte b)
hex_push (d ∷ bs) b = ap (λ (r : List ℕ). hex_byte d ++ r) (hex_push bs b) ∙ sym (append_assoc (hex_byte d) (hex_bytes bs) (hex_byte b))

pub bytes_more : {s a b : TextBuffer} (bytes : List ℕ) (i : ℕ) → i < length bytes → Puts s a (take i bytes) → Puts a b (get_or bytes i 0 ∷ []) → Puts s b (take (i + 1) bytes)
bytes_more bytes i h p q = rw (take_more bytes i 0 h) (puts_then (take i bytes) (get_or bytes i 0 ∷ []) p q)

pub numbers_more : {s a b d : TextBuffer} (ns : List ℕ) (i : ℕ) → i < length ns → Puts s a (numbers_text (take i ns)) → Puts a b (32 ∷ [])
    → Puts b d (decimal (get_or ns i 0)) → Puts s d (numbers_text (take (i + 1) ns))
numbers_more ns i h p q r =
    let n : ℕ = get_or ns i 0 in
    rw (take_more ns i 0 h, numbers_push) (puts_then (numbers_text (take i ns)) (32 ∷ decimal n) p (puts_then (32 ∷ []) (decimal n) q r))

pub hex_more : {s a b : TextBuffer} (bytes : List ℕ) (i : ℕ) → i < length bytes → Puts s a (hex_bytes (take i bytes)) → Puts a b (hex_byte (get_or bytes i 0))
    → Puts s b (hex_bytes (take (i + 1) bytes))
hex_more bytes i h p q = rw (take_more bytes i 0 h, hex_push) (puts_then (hex_bytes (take i bytes)) (hex_byte (get_or bytes i 0)) p q)
