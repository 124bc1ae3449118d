-- The transform and its inverse undo each other: each layer of the transform takes its layer of the inverse back, up to the factor 2.
use mathlib.Core.Path.{◌≡◌, sym, ap, ◌∙◌}
use mathlib.Core.List.{List}
use Prim.Native.Nat.{ℕ, zero, suc, ◌*◌, ◌-◌, ◌^◌, ◌≤◌, ◌<◌}
use native.Mathlib.Nat.{mul_comm, pow-suc}
use native.Mathlib.Omega.{arith}
use lib.ListN.{length, get_or}
use lib.Seq.{ext_get_or}
use Rattle.field.specs.Field.{q}
use Rattle.field.specs.Congruence.{◌⊩◌≈◌}
use Rattle.field.proofs.Congruence.{≈_refl, ≈_eq, ≈_trans, ≈_lt}
use Rattle.ring.specs.Ntt.{forward_low, forward_high, inverse_low, inverse_high, ntt, inverse_ntt, scaled}
use Rattle.ring.specs.Layers.{forward_factor, inverse_factor, forward_layer, inverse_layer, forward_to, inverse_from}
use Rattle.ring.proofs.Layers.{sizes, length_forward, length_inverse_layer}
use Rattle.ring.proofs.Table.{factors_inverse}
use Rattle.ring.proofs.Back.{Times, sum_back, difference_back, product-back, layer-back}
use Rattle.ring.proofs.Standard.{ntt-is, inverse_is}
use Rattle.ring.proofs.Laws.{length-scaled, scaled_near, eight_back, back_to, ntt-size, ntt-below}

forward_back : (k : ℕ) → k < 8 → (s : ℕ) (x u : List ℕ) → length x ≡ 256 → length u ≡ 256
    → Times s u (inverse_layer k x) → Times (2 * s) (forward_layer k u) x
unfolding forward_layer inverse_layer forward_low forward_high inverse_low inverse_high
forward_back k small s =
    layer-back inverse_low inverse_high forward_low forward_high (2 ^ (7 - k)) (2 ^ k) (sizes k small) (inverse_factor (2 ^ k)) (forward_factor (2 ^ k)) s
    (λ b l x y u v h g.
    let e = ≈_trans (≈_eq (mul_comm (forward_factor (2 ^ k) b) (inverse_factor (2 ^ k) b))) (factors_inverse k b small l) in
    let d = product-back q (omega arith) s _ _ _ v e g in
    (sum_back q (omega arith) s x y u _ h d, difference_back q (omega arith) s x y u _ h d))

-- k layers and back
layers_onto : (k : ℕ) → k ≤ 8 → (s : ℕ) (x u : List ℕ) → length x ≡ 256 → length u ≡ 256
    → Times s u (inverse_from k x) → Times (s * 2 ^ k) (forward_to k u) x
unfolding forward_to inverse_from
layers_onto zero h s x u lx lu same i l = ≈_trans (same i l) (≈_eq (omega arith))
layers_onto (suc k) h s x u lx lu same i l =
    ≈_trans
    (forward_back k (omega arith) (s * 2 ^ k) x (forward_to k u) lx (length_forward k u ∙ lu)
    (layers_onto k (omega arith) s (inverse_layer k x) u (length_inverse_layer k x ∙ lx) lu same) i l)
    (≈_eq (rw (pow-suc 2 k) (omega arith)))

-- ---- The two laws

pub back : (w : List ℕ) → length w ≡ 256 → ((i : ℕ) → i < 256 → get_or w i 0 < q) → inverse_ntt (ntt w) ≡ w
back w size low = back_to (ntt w) w (ntt-size w size) size low (λ i l. rw (ntt-is w) (≈_refl (get_or (forward_to 8 w) i 0)))

pub onto : (t : List ℕ) → length t ≡ 256 → ((i : ℕ) → i < 256 → get_or t i 0 < q) → ntt (inverse_ntt t) ≡ t
onto t size low =
    ap ntt (inverse_is t)
    ∙ ext_get_or 0 _ _ (whole ∙ sym size)
    (λ i l. let h : i < 256 = omega (arith, whole) in
    ≈_lt (near i h) (ntt-below u full i h) (low i h))
  where
    u : List ℕ
    u = scaled (inverse_from 8 t)

    full : length u ≡ 256
    full = length-scaled (inverse_from 8 t)

    whole : length (ntt u) ≡ 256
    whole = ntt-size u full

    near : (i : ℕ) → i < 256 → q ⊩ get_or (ntt u) i 0 ≈ get_or t i 0
    near i h =
        rw (ntt-is u)
        (≈_trans (layers_onto 8 (omega arith) 8347681 t u size full (scaled_near (inverse_from 8 t)) i h) (eight_back (get_or t i 0)))
