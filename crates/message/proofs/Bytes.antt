-- The bytes of a number, written one after another from the last to the first.
use mathlib.Core.Path.{◌≡◌, ap, ◌∙◌}
use mathlib.Core.List.{List}
use Prim.Native.Nat.{ℕ, suc, ◌+◌, ◌-◌, ◌*◌, ◌/◌, ◌%◌, ◌^◌, ◌≤◌}
use native.Mathlib.Nat.{div-div-eq-div-mul, mul_comm, zero-add}
use native.Mathlib.Omega.{arith}
use lib.ListN.{set}
use Rattle.lists.specs.Lists.{fill}
use Rattle.lists.proofs.Fill.{fill_first, fill-same}
use Rattle.message.specs.Fields.{byte_of}
use Rattle.message.proofs.Numbers.{pow_byte}

module _ (start out : List ℕ) (count x rest m : ℕ) (inside : suc m ≤ count) (left : rest ≡ x / 2 ^ (8 * (count - suc m))) where
  -- what is left of the number after one byte more
  pub rest_less : rest / 256 ≡ x / 2 ^ (8 * (count - m))
  rest_less =
      let more : count - m ≡ suc (count - suc m) = omega arith in
      rw (left, more, pow_byte (count - suc m), mul_comm 256 (2 ^ (8 * (count - suc m)))) (div-div-eq-div-mul x (2 ^ (8 * (count - suc m))) 256)

  -- and the byte stands in front of those written
  pub byte_written : out ≡ fill start (suc m) (count - suc m) (λ (j : ℕ). byte_of count x (suc m + j))
      → set out m (rest % 256) ≡ fill start m (count - m) (λ (j : ℕ). byte_of count x (m + j))
  byte_written written =
      let more : count - m ≡ suc (count - suc m) = omega arith in
      let last : count - 1 - (m + 0) ≡ count - suc m = omega arith in
      let byte : rest % 256 ≡ byte_of count x (m + 0) = rw (left, last) in
      rw (written, byte, more)
      (fill_first start m (count - suc m) (λ (j : ℕ). byte_of count x (m + j)) (λ (j : ℕ). byte_of count x (suc m + j))
      (λ k h. let e : suc m + k ≡ m + suc k = omega arith in ap (byte_of count x) e))

-- all bytes
pub bytes-all : (start out : List ℕ) (count x : ℕ) → out ≡ fill start 0 (count - 0) (λ (j : ℕ). byte_of count x (0 + j)) → out ≡ fill start 0 count (byte_of count x)
bytes-all start out count x written =
    let b : count - 0 ≡ count = omega arith in
    rw b at written ∙ fill-same start 0 count _ (byte_of count x) (λ k h. ap (byte_of count x) (zero-add k))
