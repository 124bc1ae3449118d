-- The standard's loops are the layers: every number that steers them is computed, whatever the list is.
use mathlib.Core.Path.{◌≡◌, refl}
use mathlib.Core.List.{List}
use Prim.Native.Nat.{ℕ}
use Rattle.ring.specs.Ntt.{while, forward_turn, forward_len, forward_end, ntt, inverse_turn, inverse_len, inverse_end, scaled, inverse_ntt}
use Rattle.ring.specs.Layers.{layer, forward_factor, inverse_factor, forward_layer, inverse_layer, forward_to, inverse_from}

pub ntt-is : (w : List ℕ) → ntt w ≡ forward_to 8 w
unfolding while forward_turn forward_len forward_end ntt layer forward_factor forward_layer forward_to
ntt-is w = refl

pub inverse_is : (w : List ℕ) → inverse_ntt w ≡ scaled (inverse_from 8 w)
unfolding while inverse_turn inverse_len inverse_end inverse_ntt layer inverse_factor inverse_layer inverse_from
inverse_is w = refl

pub whole_loops : (w : List ℕ) → ((forward_end w).m ≡ 255) × ((forward_end w).len ≡ 0) × ((inverse_end w).m ≡ 1) × ((inverse_end w).len ≡ 256)
unfolding while forward_turn forward_len forward_end inverse_turn inverse_len inverse_end
whole_loops w = (refl, refl, refl, refl)
