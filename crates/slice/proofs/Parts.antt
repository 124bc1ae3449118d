-- A slice of which a part was written, as code leaves it (`put_mid`), by its places.
use mathlib.Core.Path.{◌≡◌, sym, ap, ◌∙◌}
use mathlib.Core.List.{List, ◌++◌}
use Prim.Native.Nat.{ℕ, ◌+◌, ◌-◌, ◌≤◌, ◌<◌}
use native.Mathlib.Decide.{dec_lt}
use native.Mathlib.Omega.{arith}
use borrow.Author.Rules.{rules}
use borrow.Rule.Slice.PartMut.{put_mid}
use lib.ListN.{length, get_or, replicate, take, drop}
use lib.Seq.{ext_get_or}
use Rattle.std.proofs.lemmas.List.{places, get_or-replicate, length-replicate, get_or_past}
use Rattle.lists.specs.Lists.{fill}
use Rattle.lists.proofs.Fill.{length-fill, fill-before, fill-at, fill-behind}

module _ (a k : ℕ) (s ys : List ℕ) (room : a + k ≤ length s) (long : length ys ≡ k) where
  pub put-length : length (put_mid a k s ys) ≡ length s
  put-length = search (rules, places)

  pub put-before : (j : ℕ) → j < a → get_or (put_mid a k s ys) j 0 ≡ get_or s j 0
  put-before j h = search (rules, places)

  pub put-at : (j : ℕ) → j < k → get_or (put_mid a k s ys) (a + j) 0 ≡ get_or ys j 0
  put-at j h = search (rules, places)

  pub put-behind : (j : ℕ) → a + k ≤ j → get_or (put_mid a k s ys) j 0 ≡ get_or s j 0
  put-behind j h = search (rules, places)

  -- a part that was written by an index function
  pub put-fill : (f : ℕ → ℕ) → ((i : ℕ) → i < k → get_or ys i 0 ≡ f i) → put_mid a k s ys ≡ fill s a k f
  put-fill f each = ext_get_or 0 _ _ (put-length ∙ sym (length-fill s a k f)) (λ j l. go j (dec_lt j a) (dec_lt j (a + k)))
    where
      go : (j : ℕ) → Dec (j < a) → Dec (j < a + k) → get_or (put_mid a k s ys) j 0 ≡ get_or (fill s a k f) j 0
      go j (yes h) _ = put-before j h ∙ sym (fill-before s a k f j h)
      go j (no h) (yes l) =
          let at : a + (j - a) ≡ j = omega arith in
          rw at at (put-at (j - a) (omega arith) ∙ each (j - a) (omega arith) ∙ sym (fill-at s a k f (j - a) room (omega arith)))
      go j (no h) (no l) = put-behind j (omega arith) ∙ sym (fill-behind s a k f j (omega arith))

-- zeros up to the end
pub all_cleared : (s : List ℕ) (n : ℕ) → length s ≤ n → ((k : ℕ) → k < n → get_or s k 0 ≡ 0) → (k : ℕ) → get_or s k 0 ≡ 0
all_cleared s n h each k = go (dec_lt k n)
  where
    go : Dec (k < n) → get_or s k 0 ≡ 0
    go (yes p) = each k p
    go (no p) = get_or_past s k 0 (omega arith)

-- zeros up to a place, and from there on to another, e
module _ (at e : ℕ) (s ys : List ℕ) (order : at ≤ e) (room : e ≤ length s) (zeros : ys ≡ replicate (length (take (e - at) (drop at s))) 0) where
  count : length (take (e - at) (drop at s)) ≡ e - at
  count = search (rules, places)

  long : length ys ≡ e - at
  long = ap length zeros ∙ length-replicate (length (take (e - at) (drop at s))) 0 ∙ count

  pub cleared : ((k : ℕ) → k < at → get_or s k 0 ≡ 0) → (k : ℕ) → k < e → get_or (put_mid at (e - at) s ys) k 0 ≡ 0
  cleared before k l = go (dec_lt k at)
    where
      go : Dec (k < at) → get_or (put_mid at (e - at) s ys) k 0 ≡ 0
      go (yes p) = put-before at (e - at) s ys (omega arith) long k p ∙ before k p
      go (no p) =
          let there : at + (k - at) ≡ k = omega arith in
          let put = put-at at (e - at) s ys (omega arith) long (k - at) (omega arith) in
          rw there at put
          ∙ ap (λ (z : List ℕ). get_or z (k - at) 0) zeros
          ∙ get_or-replicate (length (take (e - at) (drop at s))) (k - at) 0 0 (omega (arith, count))

  -- e the end
  pub cleared_last : length s ≤ e → ((k : ℕ) → k < at → get_or s k 0 ≡ 0) → (k : ℕ) → get_or (put_mid at (e - at) s ys) k 0 ≡ 0
  cleared_last end before = all_cleared _ e (omega (arith, put-length at (e - at) s ys (omega arith) long)) (cleared before)

-- a part that was cleared, as a run
pub zeros-fill : (a e : ℕ) (s ys : List ℕ) → a ≤ e → e ≤ length s → length ys ≡ length (take (e - a) (drop a s)) → ((k : ℕ) → get_or ys k 0 ≡ 0)
    → put_mid a (e - a) s ys ≡ fill s a (e - a) (λ (k : ℕ). 0)
zeros-fill a e s ys order room long zeros =
    let part : length (take (e - a) (drop a s)) ≡ e - a = search (rules, places) in
    put-fill a (e - a) s ys (omega arith) (long ∙ part) (λ (k : ℕ). 0) (λ k h. zeros k)

-- a part that is a part of another slice
pub copied : (a i e : ℕ) (s t ys : List ℕ) (f : ℕ → ℕ) → a ≤ length s → i ≤ e → e ≤ length t → e - i ≡ a → ys ≡ take (e - i) (drop i t)
    → ((j : ℕ) → j < a → get_or t (i + j) 0 ≡ f j) → ys ++ drop a s ≡ fill s 0 a f
copied a i e s t ys f room order within count part each =
    put-fill 0 a s ys (omega arith) long f (λ j h. ap (λ (z : List ℕ). get_or z j 0) part ∙ search (rules, places) ∙ each j h)
  where
    long : length ys ≡ a
    long = ap length part ∙ search (rules, places)
