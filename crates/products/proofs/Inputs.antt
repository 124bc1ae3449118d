-- The coefficients at some places make a secret, and both sides' numbers for them are its shares.
use Prim.Native.Nat.{ℕ, ◌+◌, ◌*◌, ◌<◌}
use mathlib.Core.Path.{◌≡◌}
use mathlib.Core.Bool.{true}
use mathlib.Core.List.{List}
use native.Mathlib.Omega.{arith}
use lib.ListN.{get_or}
use Rattle.lists.specs.Lists.{all_below}
use Rattle.lists.proofs.Lists.{get_d_list_to}
use Rattle.lists.proofs.Every.{below_at}
use Rattle.field.specs.Field.{q}
use Rattle.settings.specs.Sizes.{width_of}
use Rattle.settings.specs.declared.Settings.{Settings}
use Rattle.book.specs.Books.{multipliers}
use Rattle.book.proofs.Books.{get_d_in_order}
use Rattle.runs.specs.Demands.{Numbers}
use Rattle.products.specs.Shared.{SharedPolynomial, coefficients, inputs_at}
use Rattle.products.specs.Theorems.{Matching}
use Rattle.products.proofs.Listed.{listed, in_order_lem}
use Rattle.products.proofs.Joined.{Joined, is_missing, phone_below, both_add}

module _ (n : ℕ) (place : ℕ → ℕ) (polynomial : List ℕ) where
  abbrev chosen : ℕ → ℕ
  chosen i = get_or polynomial (place i) 0

  coefficients-at : (i : ℕ) → i < n → get_or (coefficients n place polynomial) i 0 ≡ chosen i
  unfolding coefficients
  coefficients-at i h = get_d_list_to n chosen i 0 h

  coefficients-below : all_below q polynomial ≡ true → Numbers n (coefficients n place polynomial)
  unfolding coefficients
  coefficients-below small = listed n chosen (λ i l. below_at q polynomial (place i) (omega arith) small)

module _ (n width : ℕ) (place : ℕ → ℕ) (numbers : List ℕ) where
  abbrev taken : ℕ → ℕ → ℕ
  taken i c = get_or numbers (place i * width + c) 0

  inputs-at : (i c : ℕ) → i < n → c < width → get_or (inputs_at n width place numbers) (i * width + c) 0 ≡ taken i c
  unfolding inputs_at
  inputs-at i c h l = get_d_in_order n width taken i c h l

  inputs-below : 0 < width → all_below q numbers ≡ true → Numbers (n * width) (inputs_at n width place numbers)
  unfolding inputs_at
  inputs-below pos small = in_order_lem n width taken pos (λ i c h l. below_at q numbers (place i * width + c) (omega arith) small)

inputs-add : (n width : ℕ) (place : ℕ → ℕ) (factors secret server phone : List ℕ) → ((i : ℕ) → i < n → place i < 256)
    → Joined 256 width factors secret server phone
    → Joined n width factors (coefficients n place secret) (inputs_at n width place server) (inputs_at n width place phone)
inputs-add n width place factors secret server phone inside adds i c h l =
    rw (coefficients-at n place secret i h, inputs-at n width place server i c h l, inputs-at n width place phone i c h l)
    (adds (place i) c (inside i h) l)

pub matching : (k : ℕ) (s : Settings) (place : ℕ → ℕ) → ((i : ℕ) → i < s.shape.n → place i < 256)
    → (keys0 keys1 secret server phone : List ℕ)
    → SharedPolynomial k keys0 keys1 secret server phone
    → Matching k s place keys0 keys1 secret server phone
matching k s place inside keys0 keys1 secret server phone p =
    let n = s.shape.n in
    let width = width_of k in
    let factors = multipliers keys0 keys1 in
    let secret-numbers = coefficients-below n place secret p.secret_below.below in
    let phone-numbers = inputs-below n width place phone (omega arith) (phone_below p).below in
    record {
      secret_is = secret-numbers;
      shares_are = inputs-below n width place server (omega arith) p.server_below.below;
      missing_is = is_missing n width factors _ _ _ (omega arith) secret-numbers.size_is phone-numbers
          (inputs-add n width place factors secret server phone inside (both_add p));
    }
