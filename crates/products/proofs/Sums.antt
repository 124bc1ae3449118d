-- What both sides add number by number is the sum, shared.
use Prim.Native.Nat.{ℕ, ◌+◌, ◌*◌, ◌<◌}
use mathlib.Core.Path.{◌≡◌}
use mathlib.Core.List.{List}
use native.Mathlib.Nat.{mod-lt, mul-le-mul_right}
use native.Mathlib.Omega.{arith}
use lib.ListN.{length, get_or}
use Rattle.lists.proofs.Lists.{get_d_list_to}
use Rattle.field.specs.Field.{q, add}
use Rattle.field.proofs.Forms.{add-join}
use Rattle.settings.specs.Sizes.{width_of}
use Rattle.book.specs.Books.{multipliers}
use Rattle.runs.specs.Demands.{Numbers}
use Rattle.products.specs.Shared.{SharedPolynomial, sum_of}
use Rattle.products.proofs.Listed.{listed}
use Rattle.products.proofs.Joined.{Joined, shared, phone_below, both_add}

module _ (n : ℕ) (xs ys : List ℕ) (size : length xs ≡ n) where
  abbrev term : ℕ → ℕ
  term i = add q (get_or xs i 0) (get_or ys i 0)

  sum-at : (i : ℕ) → i < n → get_or (sum_of xs ys) i 0 ≡ term i
  unfolding sum_of
  sum-at i l = get_d_list_to (length xs) term i 0 (omega arith)

  sum_below : Numbers n (sum_of xs ys)
  unfolding sum_of
  sum_below = rw size (listed n term (λ i l. mod-lt _ (omega arith)))

module _ (k : ℕ) (keys0 keys1 secret server phone secret' server' phone' : List ℕ) (p : SharedPolynomial k keys0 keys1 secret server phone)
    (p' : SharedPolynomial k keys0 keys1 secret' server' phone') where
  abbrev width : ℕ
  width = width_of k

  sums_add : Joined 256 width (multipliers keys0 keys1) (sum_of secret secret') (sum_of server server') (sum_of phone phone')
  sums_add i c h l =
      let x = i * width + c in
      let inside : i * width + c < 256 * width = omega (arith, mul-le-mul_right width h) in
      rw (
        sum-at 256 secret secret' p.secret_below.size_is i h,
        sum-at (256 * width) server server' p.server_below.size_is x inside,
        sum-at (256 * width) phone phone' (phone_below p).size_is x inside,
      )
      (add-join (omega arith) (both_add p i c h l) (both_add p' i c h l))

  pub summed : SharedPolynomial k keys0 keys1 (sum_of secret secret') (sum_of server server') (sum_of phone phone')
  summed =
      shared (sum_below 256 secret secret' p.secret_below.size_is)
      (sum_below (256 * width) server server' p.server_below.size_is)
      (sum_below (256 * width) phone phone' (phone_below p).size_is)
      sums_add
