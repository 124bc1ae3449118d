-- Lists that are given number by number: their size, and their numbers below q.
use Prim.Native.Nat.{ℕ, ◌*◌, ◌/◌, ◌%◌, ◌<◌}
use native.Mathlib.Nat.{mod-lt, div-lt_iff_lt-mul}
use lib.Dec.{ltb}
use borrow.Author.Tests.{lt-ltb}
use Rattle.lists.specs.Lists.{all_below, list_to}
use Rattle.lists.proofs.Lists.{length-list_from}
use Rattle.lists.proofs.Every.{every-list_to}
use Rattle.field.specs.Field.{q}
use Rattle.book.specs.Books.{in_order}
use Rattle.runs.specs.Demands.{Numbers}

pub listed : (n : ℕ) (f : ℕ → ℕ) → ((i : ℕ) → i < n → f i < q) → Numbers n (list_to n f)
unfolding all_below
listed n f h =
    record { size_is = length-list_from 0 n f; below = every-list_to (λ (x : ℕ). ltb x q) n f (λ i l. lt-ltb (f i) q (h i l)) }

-- the same for a list in the order of a side's numbers
pub in_order_lem : (n width : ℕ) (f : ℕ → ℕ → ℕ) → 0 < width → ((i c : ℕ) → i < n → c < width → f i c < q)
    → Numbers (n * width) (in_order n width f)
in_order_lem n width f pos h =
    listed (n * width) (λ (x : ℕ). f (x / width) (x % width))
    (λ x l. h (x / width) (x % width) ((div-lt_iff_lt-mul pos).1 l) (mod-lt x pos))
