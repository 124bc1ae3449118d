-- The phone's numbers are what is missing to the secret just if they are below q and both sides' numbers add up. The proofs of Products, Sums
-- and Inputs show the second and conclude the first.
use Prim.Native.Nat.{ℕ, ◌+◌, ◌*◌, ◌/◌, ◌%◌, ◌<◌}
use mathlib.Core.Path.{◌≡◌, sym, ap, ◌∙◌}
use mathlib.Core.List.{List}
use native.Mathlib.Nat.{mod-lt, div-lt_iff_lt-mul, div-add-mod'}
use native.Mathlib.Omega.{arith}
use lib.ListN.{length, get_or}
use lib.Seq.{ext_get_or}
use Rattle.lists.proofs.Every.{below_at}
use Rattle.field.specs.Field.{q}
use Rattle.field.specs.Forms.{Adds}
use Rattle.field.proofs.Forms.{missing_same}
use Rattle.settings.specs.Sizes.{width_of}
use Rattle.book.specs.Books.{multipliers}
use Rattle.runs.specs.Records.{missing_shares}
use Rattle.runs.specs.Demands.{Numbers}
use Rattle.runs.proofs.Start.{length_missing, below_missing, missing_adds}
use Rattle.products.specs.Shared.{SharedPolynomial}

-- of n coefficients, number c at both sides adds up to factor c times the coefficient
abbrev pub Joined : ℕ → ℕ → List ℕ → List ℕ → List ℕ → List ℕ → Type 0
Joined n width factors secret server phone =
    (i c : ℕ) → i < n → c < width
    → Adds q (get_or factors c 0) (get_or server (i * width + c) 0) (get_or phone (i * width + c) 0) (get_or secret i 0)

-- ---- what adds up is what is missing

module _ (n width : ℕ) (factors secret server phone : List ℕ) (pos : 0 < width) (size : length secret ≡ n) (numbers : Numbers (n * width) phone)
    (adds : Joined n width factors secret server phone) where
  abbrev missing : List ℕ
  missing = missing_shares width factors secret server

  same_at : (i c : ℕ) → i < n → c < width → get_or phone (i * width + c) 0 ≡ get_or missing (i * width + c) 0
  same_at i c h l =
      missing_same q (get_or factors c 0) (get_or server (i * width + c) 0) _ _ (get_or secret i 0)
      (adds i c h l)
      (missing_adds width factors secret server i c (omega arith) l)
      (below_at q phone (i * width + c) (omega arith) numbers.below)
      (below_at q missing (i * width + c) (omega arith) (below_missing width factors secret server))

  pub is_missing : phone ≡ missing
  is_missing =
      ext_get_or 0 phone missing (numbers.size_is ∙ sym (length_missing width factors secret server ∙ ap (λ (m : ℕ). m * width) size))
      (λ x l. let inside : x < n * width = omega (arith, numbers.size_is) in
      rw (div-add-mod' x width) at (same_at (x / width) (x % width) ((div-lt_iff_lt-mul pos).1 inside) (mod-lt x pos)))

-- ---- shared polynomials

module _ {k : ℕ} {keys0 keys1 secret server phone : List ℕ} where
  pub shared : Numbers 256 secret → Numbers (256 * width_of k) server → Numbers (256 * width_of k) phone
      → Joined 256 (width_of k) (multipliers keys0 keys1) secret server phone
      → SharedPolynomial k keys0 keys1 secret server phone
  shared a b c adds =
      record {
        secret_below = a;
        server_below = b;
        phone_is = is_missing 256 (width_of k) (multipliers keys0 keys1) secret server phone (omega arith) a.size_is c adds;
      }

  module _ (p : SharedPolynomial k keys0 keys1 secret server phone) where
    pub phone_below : Numbers (256 * width_of k) phone
    phone_below =
        rw p.phone_is
        (record {
          size_is = length_missing (width_of k) (multipliers keys0 keys1) secret server ∙ ap (λ (m : ℕ). m * width_of k) p.secret_below.size_is;
          below = below_missing (width_of k) (multipliers keys0 keys1) secret server;
        })

    pub both_add : Joined 256 (width_of k) (multipliers keys0 keys1) secret server phone
    both_add i c h l =
        rw p.phone_is (missing_adds (width_of k) (multipliers keys0 keys1) secret server i c (omega (arith, p.secret_below.size_is)) l)
