-- The check of an opening says yes just where the parts add up (CheckPasses).
use Prim.Native.Nat.{ℕ, ◌+◌, ◌*◌, ◌<◌}
use mathlib.Core.Path.{◌≡◌}
use mathlib.Core.Bool.{true}
use mathlib.Core.List.{List}
use native.Mathlib.Nat.{one-mul}
use lib.ListN.{get_or}
use borrow.Author.Tests.{eq-eqb, eqb-true}
use Rattle.lists.proofs.Every.{all_to_yes, all_to-at}
use Rattle.field.specs.Field.{q}
use Rattle.field.specs.Congruence.{◌⊩◌≈◌}
use Rattle.field.specs.Forms.{Adds}
use Rattle.field.proofs.Congruence.{≈_refl, ≈_eq, ≈_sym, ≈_trans, ≈_mul, ≈_mod}
use Rattle.opening.specs.Check.{Given, joined, accepts}
use Rattle.opening.specs.Theorems.{CheckPasses}

module _ (k : ℕ) (keys : List ℕ) (own other : Given) where
  -- key × the joined number, before it is reduced
  key-joined : (key : ℕ) → q ⊩ get_or keys key 0 * joined own other ≈ get_or keys key 0 * (own.share + other.share)
  key-joined key = ≈_mul (≈_refl (get_or keys key 0)) (≈_mod (own.share + other.share))

  honest : (x : ℕ) → Adds q 1 own.share other.share x
      → ((key : ℕ) → key < k → Adds q (get_or keys key 0) (own.part key) (other.part key) x) → accepts k keys own other ≡ true
  unfolding accepts
  honest x shares parts = all_to_yes k _ (λ key l. eq-eqb _ _ (parts_same key l).path)
    where
      shares_same : q ⊩ own.share + other.share ≈ x
      shares_same = ≈_trans shares.total (≈_eq (one-mul x))

      parts_same : (key : ℕ) → key < k → q ⊩ own.part key + other.part key ≈ get_or keys key 0 * joined own other
      parts_same key l = ≈_trans (parts key l).total (≈_sym (≈_trans (key-joined key) (≈_mul (≈_refl (get_or keys key 0)) shares_same)))

  passed : accepts k keys own other ≡ true → (key : ℕ) → key < k
      → Adds q (get_or keys key 0) (own.part key) (other.part key) (own.share + other.share)
  unfolding accepts
  passed e key l =
      let same : q ⊩ own.part key + other.part key ≈ get_or keys key 0 * joined own other = record { path = eqb-true _ _ (all_to-at k _ key e l) } in
      record { total = ≈_trans same (key-joined key) }

pub check-passes : CheckPasses
check-passes =
    record {
      honest = λ k keys own other x shares parts. honest k keys own other x shares parts;
      passed = λ k keys own other e key l. passed k keys own other e key l;
    }
