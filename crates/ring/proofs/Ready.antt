-- What the questions have shown where each was answered yes, and what the steps of a product leave.
use mathlib.Core.Path.{◌≡◌, refl, sym, ap, ◌∙◌}
use mathlib.Core.Bool.{true, ◌&&◌}
use mathlib.Core.List.{List}
use Prim.Native.Nat.{ℕ, ◌*◌}
use native.Mathlib.Nat.{mod-lt}
use native.Mathlib.Omega.{arith}
use lib.Dec.{eqb}
use lib.ListN.{length, get_or}
use borrow.Author.Tests.{eqb-true, ne_eqb}
use Rattle.lists.specs.Lists.{fill, all_below}
use Rattle.lists.proofs.Fill.{whole_is}
use Rattle.lists.proofs.Lists.{length-list_from, get_d_list_to, list_to_get_d}
use Rattle.lists.proofs.Every.{below_at}
use Rattle.lists.proofs.Questions.{passed, both_yes}
use Rattle.field.specs.Field.{q, mul}
use Rattle.settings.specs.declared.Refusal.{Refusal}
use Rattle.settings.specs.Refusals.{number_of}
use Rattle.settings.proofs.Refused.{number_nonzero}
use Rattle.ring.specs.Ntt.{pointwise}
use Rattle.ring.specs.Layers.{Below}
use Rattle.ring.specs.Calls.{called, ring_no}
use Rattle.ring.proofs.Lazy.{everywhere}

pub low : (w : List ℕ) → true ≡ all_below q w → Below q w
low w h i = below_at q w i (omega arith) (sym h)

-- a product that is not refused has a row of 256 numbers
pub row-size : (public row out : List ℕ) → ring_no public row out ≡ 0 → length row ≡ 256
unfolding ring_no
row-size public row out e =
    let five = passed (eqb (length public) 256 && eqb (length row) 256 && eqb (length out) 256) 4 _ e in
    let all = both_yes (eqb (length public) 256 && eqb (length row) 256) (eqb (length out) 256) five.0 in
    eqb-true _ _ (both_yes (eqb (length public) 256) (eqb (length row) 256) all.0).1

-- two rows multiplied number by number
pub pointwise-low : (w u v : List ℕ) → w ≡ pointwise u v → Below q w
unfolding pointwise
pointwise-low w u v e =
    everywhere w q (omega arith) (ap length e ∙ length-list_from 0 256 entry)
    (λ i l. rw (e, get_d_list_to 256 entry i 0 l) (mod-lt (get_or u i 0 * get_or v i 0) {m = q} (omega arith)))
  where
    entry : ℕ → ℕ
    entry i = mul q (get_or u i 0) (get_or v i 0)

-- a row that is copied number by number
pub copied : (out row now : List ℕ) (i : ℕ) → length out ≡ 256 → length row ≡ 256 → i ≡ 256 → now ≡ fill out 0 i (λ (k : ℕ). get_or row k 0) → now ≡ row
copied out row now i long whole all e = rw (e, all, whole_is out 256 (λ (k : ℕ). get_or row k 0) long, ← whole) (list_to_get_d row)

-- a call by its first no
pub refuses : (e : Refusal) (refusal : ℕ) (result out : List ℕ) → number_of e ≡ refusal → record { refused = number_of e; out = out } ≡ called refusal result out
refuses e refusal result out h = rw (← h, ne_eqb (number_of e) 0 (number_nonzero e)) refl

pub goes : (refusal : ℕ) (result out out' : List ℕ) → 0 ≡ refusal → out' ≡ result → record { refused = 0; out = out' } ≡ called refusal result out
goes refusal result out out' e m = rw (← e, m) refl
