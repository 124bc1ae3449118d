-- A message in due form that is not the one that was sent differs from it in a share, or in a part beside the same share.
use Prim.Native.Nat.{ℕ, zero, suc, ◌+◌, ◌*◌, ◌/◌, ◌%◌, ◌<◌}
use mathlib.Core.Path.{◌≡◌, refl}
use mathlib.Core.Logic.{◌≢◌, ◌⊎◌, inl, inr}
use mathlib.Core.Bool.{Bool, true, false}
use mathlib.Core.List.{List}
use native.Mathlib.Nat.{mod-lt, mod-add-div', div-lt_iff_lt-mul}
use native.Mathlib.Decide.{dec_lt}
use native.Mathlib.Omega.{arith}
use lib.Dec.{eqb}
use borrow.Author.Tests.{eqb-true, eqb-false}
use Rattle.lists.specs.Lists.{all_below}
use Rattle.settings.specs.Settings.{params_in}
use Rattle.settings.specs.Sizes.{openings, field_count}
use Rattle.message.specs.Message.{field_in, ask_form}
use Rattle.message.proofs.Tells.{fields_tell}
use Rattle.state.specs.declared.Side.{Side}
use Rattle.opening.specs.Opening.{due_header, incoming, given}

-- ---- The first place at which two functions differ

pub record First (f g : ℕ → ℕ) (n : ℕ) : Type 0 where
  pub place : ℕ
  pub inside : place < n
  pub differs : f place ≢ g place
  pub before : (x : ℕ) → x < place → f x ≡ g x

module _ (f g : ℕ → ℕ) where
  first_difference : (n : ℕ) → First f g n ⊎ ((x : ℕ) → x < n → f x ≡ g x)
  first_difference zero = inr (λ x l. absurd (omega arith))
  first_difference (suc n) = go (eqb (f n) (g n)) refl (first_difference n)
    where
      last : (x : ℕ) → ((y : ℕ) → y < n → f y ≡ g y) → f n ≡ g n → x < suc n → f x ≡ g x
      last x same e l =
          elim (dec_lt x n) [
            | yes b ↦ same x b
            | no b ↦
                let here : x ≡ n = omega arith in
                rw here e
          ]

      go : (b : Bool) → eqb (f n) (g n) ≡ b → First f g n ⊎ ((x : ℕ) → x < n → f x ≡ g x) → First f g (suc n) ⊎ ((x : ℕ) → x < suc n → f x ≡ g x)
      go b e (inl d) = inl (record { place = d.place; inside = omega (arith, d.inside); differs = d.differs; before = d.before })
      go true e (inr same) = inr (λ x l. last x same (eqb-true (f n) (g n) e) l)
      go false e (inr same) = inl (record { place = n; inside = omega arith; differs = eqb-false (f n) (g n) e; before = same })

-- ---- Messages

module _ (k : ℕ) (s : Side) (forged msg : List ℕ) where
  abbrev fields : ℕ
  fields = field_count k (params_in s.settings) s.round

  pub data Difference : Type 0 where
    share_differs : (o : ℕ) → o < openings (params_in s.settings) s.round → (given k s forged o).share ≢ (given k s msg o).share → Difference
    part_differs : (o : ℕ) → o < openings (params_in s.settings) s.round → (given k s forged o).share ≡ (given k s msg o).share
        → (key : ℕ) → key < k → (given k s forged o).part key ≢ (given k s msg o).part key → Difference

  -- place x is field f of opening o
  by_field : (x o f : ℕ) → x ≡ o * (1 + k) + f → o < openings (params_in s.settings) s.round → f < 1 + k
      → field_in fields forged x ≢ field_in fields msg x → ((y : ℕ) → y < x → field_in fields forged y ≡ field_in fields msg y) → Difference
  unfolding incoming
  by_field x o zero e l m differs before = share_differs o l (λ same. differs (rw e same))
  by_field x o (suc key) e l m differs before =
      let place : o * (1 + k) + (1 + key) ≡ x = omega arith in
      part_differs o l (before (o * (1 + k) + 0) (omega arith)) key (omega arith) (λ same. differs (rw place at same))

  pub difference : all_below 256 forged ≡ true → all_below 256 msg ≡ true → ask_form k (due_header s) forged 0 ≡ 0 → ask_form k (due_header s) msg 0 ≡ 0
      → forged ≢ msg → Difference
  difference hf hm ef em other = by (first_difference (field_in fields forged) (field_in fields msg) fields)
    where
      by : First (field_in fields forged) (field_in fields msg) fields ⊎ ((x : ℕ) → x < fields → field_in fields forged x ≡ field_in fields msg x) → Difference
      by (inl d) =
          let n = openings (params_in s.settings) s.round in
          let inside : d.place < n * (1 + k) = omega (arith, d.inside) in
          by_field d.place (d.place / (1 + k)) (d.place % (1 + k)) (omega (arith, mod-add-div' d.place (1 + k)))
          ((div-lt_iff_lt-mul (omega arith)).1 inside) (mod-lt d.place (omega arith)) d.differs d.before
      by (inr same) = absurd (other (fields_tell k (due_header s) forged msg hf hm ef em same))
