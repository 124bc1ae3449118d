-- A list with places replaced that stand at equal distances, and what stands where in it.
use mathlib.Core.Path.{◌≡◌, refl, ◌∙◌}
use mathlib.Core.Logic.{◌≢◌}
use mathlib.Core.List.{List}
use Prim.Native.Nat.{ℕ, zero, suc, ◌+◌, ◌*◌, ◌≤◌, ◌<◌}
use native.Mathlib.Decide.{dec_lt}
use native.Mathlib.Nat.{mul-le-mul_left}
use native.Mathlib.Numerals.{add-one}
use native.Mathlib.Omega.{arith}
use lib.ListN.{length, get_or, set, length-set}
use lib.Seq.{get_or-set_same, get_or-set_other}
use Rattle.lists.specs.Lists.{fill_by}

module _ (step : ℕ) where
  -- a turn of a loop that stores f n
  pub stride-none : (s : List ℕ) (i : ℕ) (f : ℕ → ℕ) → fill_by step s i 0 f ≡ s
  unfolding fill_by
  stride-none s i f = refl

  pub stride-more : (s₀ s : List ℕ) (i n x : ℕ) (f : ℕ → ℕ) → s ≡ fill_by step s₀ i n f → x ≡ f n → set s (i + step * n) x ≡ fill_by step s₀ i (n + 1) f
  unfolding fill_by
  stride-more s₀ s i n x f e h = rw (add-one, e, h)

  pub length-stride : (s : List ℕ) (i n : ℕ) (f : ℕ → ℕ) → length (fill_by step s i n f) ≡ length s
  unfolding fill_by
  length-stride s i zero f = refl
  length-stride s i (suc n) f = length-set (fill_by step s i n f) (i + step * n) (f n) ∙ length-stride s i n f

  -- a place that is none of them is as it was
  pub stride-other : (s : List ℕ) (i n : ℕ) (f : ℕ → ℕ) (p : ℕ) → ((k : ℕ) → k < n → p ≢ i + step * k) → get_or (fill_by step s i n f) p 0 ≡ get_or s p 0
  unfolding fill_by
  stride-other s i zero f p h = refl
  stride-other s i (suc n) f p h =
      get_or-set_other (fill_by step s i n f) (i + step * n) p (f n) 0 (h n (omega arith)) ∙ stride-other s i n f p (λ k l. h k (omega arith))

  -- the place of f k
  pub stride-at : (s : List ℕ) (i n : ℕ) (f : ℕ → ℕ) (k : ℕ) → 1 ≤ step → i + step * k < length s → k < n → get_or (fill_by step s i n f) (i + step * k) 0 ≡ f k
  unfolding fill_by
  stride-at s i zero f k pos one h = absurd (omega arith)
  stride-at s i (suc n) f k pos one h = go (dec_lt k n) (λ p. stride-at s i n f k pos one p)
    where
      go : Dec (k < n) → (k < n → get_or (fill_by step s i n f) (i + step * k) 0 ≡ f k) → get_or (set (fill_by step s i n f) (i + step * n) (f n)) (i + step * k) 0 ≡ f k
      go (yes p) ih =
          let m : step * suc k ≤ step * n = mul-le-mul_left step p in
          get_or-set_other (fill_by step s i n f) (i + step * n) (i + step * k) (f n) 0 (omega arith) ∙ ih p
      go (no p) ih =
          let e : n ≡ k = omega arith in
          rw e (get_or-set_same (fill_by step s i k f) (i + step * k) (f k) 0 (omega (arith, length-stride s i k f)))
