-- What a round opens and makes of the registers, by the gates of its context.
use mathlib.Core.Path.{◌≡◌, sym, ap, subst, ◌∙◌}
use mathlib.Core.Logic.{◌≢◌}
use mathlib.Core.Bool.{Bool, true, false, cond}
use lib.Dec.{ltb, lit<}
use Rattle.lists.specs.Lists.{all_below}
use Rattle.lists.proofs.Every.{below_at}
use Rattle.settings.specs.declared.Settings.{Settings}
use Prim.Native.Nat.{ℕ, ◌+◌, ◌-◌, ◌*◌, ◌/◌, ◌%◌, ◌≤◌, ◌<◌}
use native.Mathlib.Omega.{arith}
use borrow.Author.Tests.{eq-eqb, ne_eqb, le-leb}
use Rattle.field.specs.Field.{q}
use Rattle.settings.specs.Sets.{scale_of}
use Rattle.rounding.specs.declared.Split.{Split}
use Rattle.rounding.specs.Digits.{split_of}
use Rattle.slice.specs.declared.Weighted.{Weighted}
use Rattle.steps.specs.declared.Context.{Context}
use Rattle.steps.specs.declared.Gate.{Gate}
use Rattle.field.specs.Forms.{Registers, Form, value, num, reg, ◌⊞◌, ◌⊟◌, ◌⊠◌}
use Rattle.lists.specs.Lists.{fill_by}
use Rattle.settings.specs.Sizes.{most_openings}
use Rattle.column.specs.Held.{slot, HeldAll, GatesHeld}
use Rattle.settings.specs.Settings.{params_of}
use Rattle.steps.proofs.Bounds.{open_middle}
use mathlib.Core.List.{List}
use lib.ListN.{get_or}
use Rattle.book.specs.Book.{group_k, group_gap, group_at}
use Rattle.slice.specs.Layout.{running_at, masked_at, masked_in, column}
use Rattle.steps.specs.Steps.{Public, looked_at, insides, checked, open_check, opening, running}
use Rattle.steps.specs.Context.{public_by, split_place, split_in, ContextOf, SplitsBelow}
use Rattle.steps.specs.Gates.{terms_at, gate_at, sum_form, open_u, open_v, result_form}
use Rattle.steps.proofs.Contexts.{looks_middle, place_in, number_looked, splits_below}
use Rattle.steps.proofs.Gates.{sum_is, open_u_is, open_v_is, result-is}

-- ---- A context that a call has made

-- what it keeps of the settings and the round
pub settled : {s : Settings} {round : ℕ} {masked : ℕ → ℕ} {known : Context} → ContextOf s round masked known → ContextOf known.settings known.round masked known
settled {s} {round} {masked} {known} made =
    subst (λ (t : Settings). ContextOf t known.round masked known) (sym made.settings_kept)
    (subst (λ (r : ℕ). ContextOf s r masked known) (sym made.round_kept) made)

-- of the masked numbers that the slice holds: its digits are below their bases
module _ (work : List ℕ) (below : all_below q work ≡ true) where
  masked_below : (j : ℕ) → masked_in work j < q
  unfolding masked_in
  masked_below j = go (ltb j 8)
    where
      go : (b : Bool) → cond b (get_or work (masked_at j) 0) 0 < q
      go true = below_at q work (masked_at j) (lit< tt) below
      go false = lit< tt

  pub held_below : (settings : Settings) (round : ℕ) (known : Context) → settings.shape.set < 2 → 2 ≤ round → round ≤ 5
      → ContextOf settings round (masked_in work) known → SplitsBelow known
  held_below settings round known h two five made =
      splits_below settings round (masked_in work) known h masked_below (looks_middle settings.shape.kind round two five) made

-- ---- Round 6

module _ (w : Public) (round o : ℕ) (six : round ≡ 6) where
  opening-check : opening w round o ≡ open_check w o
  unfolding opening
  opening-check = rw six

  pub check-high : w.params.kind ≡ 0
      → reg (group_at w.params o) ⊞ group_gap w.params ⊠ (num (group_k w.params) ⊟ reg (running_at 1 o)) ≡ opening w round o
  unfolding open_check checked
  check-high high = sym (opening-check ∙ high_is)
    where
      high_is : open_check w o ≡ reg (group_at w.params o) ⊞ group_gap w.params ⊠ (num (group_k w.params) ⊟ reg (running_at 1 o))
      high_is = ap (λ (f : Form). reg (group_at w.params o) ⊞ group_gap w.params ⊠ (num (group_k w.params) ⊟ f))
          (ap (λ (b : Bool). cond b (reg (running_at 1 o)) (insides w w.params.n)) (eq-eqb w.params.kind 0 high))

  pub check-bound : w.params.kind ≢ 0
      → reg (group_at w.params o) ⊞ group_gap w.params ⊠ (num (group_k w.params) ⊟ insides w w.params.n) ≡ opening w round o
  unfolding open_check checked
  check-bound bound = sym (opening-check ∙ bound-is)
    where
      bound-is : open_check w o ≡ reg (group_at w.params o) ⊞ group_gap w.params ⊠ (num (group_k w.params) ⊟ insides w w.params.n)
      bound-is =
          ap (λ (f : Form). reg (group_at w.params o) ⊞ group_gap w.params ⊠ (num (group_k w.params) ⊟ f))
          (ap (λ (b : Bool). cond b (reg (running_at 1 o)) (insides w w.params.n)) (ne_eqb w.params.kind 0 bound))

-- ---- Rounds 1 to 5, by the context of a round from 2 to 5

module _ (known : Context) (masked : ℕ → ℕ) (made : ContextOf known.settings known.round masked known) (g : ℕ) (h : g < 2 * known.settings.shape.n)
    (later : 2 ≤ known.round) (most : known.round ≤ 5) where
  -- the number that gate g looks at
  abbrev split : Split
  split = split_in known (split_place known.settings.shape.kind g)

  looked : split ≡ split_of (scale_of known.settings.shape.set) (looked_at q known.settings.shape.kind known.settings.bound (g % 2) (masked (g / 2)))
  looked =
      made.split (looks_middle known.settings.shape.kind known.round later most) (split_place known.settings.shape.kind g) (place_in known.settings.shape g h)
      ∙ ap (split_of (scale_of known.settings.shape.set)) (number_looked known.settings masked g)

  -- what round 1 makes of digit 0
  pub register_first : (opened : ℕ → ℕ)
      → sum_form (terms_at known.settings.shape split g 0) 0 ≡ running (public_by known.settings masked) 1 opened (g % 2) (g / 2)
  unfolding running
  register_first opened = sum_is known.settings masked split g 0 looked 0

  -- rounds 2 to 5
  pub opening_u : open_u (gate_at known.settings.shape split g (known.round - 1)) ≡ opening (public_by known.settings masked) known.round (2 * g)
  unfolding opening
  opening_u =
      let j : 2 * g / 4 ≡ g / 2 = omega arith in
      let which : 2 * g / 2 % 2 ≡ g % 2 = omega arith in
      let part : 2 * g % 2 ≡ 0 = omega arith in
      rw (ne_eqb known.round 1 (omega arith), le-leb known.round 5 most, j, which, part) (open_u_is known.settings masked split g (known.round - 1) looked)

  pub opening-v : open_v (gate_at known.settings.shape split g (known.round - 1)) ≡ opening (public_by known.settings masked) known.round (2 * g + 1)
  unfolding opening
  opening-v =
      let j : (2 * g + 1) / 4 ≡ g / 2 = omega arith in
      let which : (2 * g + 1) / 2 % 2 ≡ g % 2 = omega arith in
      let part : (2 * g + 1) % 2 ≡ 1 = omega arith in
      rw (ne_eqb known.round 1 (omega arith), le-leb known.round 5 most, j, which, part) (open_v_is known.settings masked split g (known.round - 1) looked)

  pub register_result : (opened : ℕ → ℕ)
      → result_form (gate_at known.settings.shape split g (known.round - 1)) (opened (4 * (g / 2) + 2 * (g % 2))) (opened (4 * (g / 2) + 2 * (g % 2) + 1))
      ≡ running (public_by known.settings masked) known.round opened (g % 2) (g / 2)
  unfolding running
  register_result opened =
      result-is known.settings masked split g (known.round - 1) looked _ _ ∙ rw (ne_eqb known.round 1 (omega arith), le-leb known.round 5 most)

-- the same of a gate that the code has made
module _ (known : Context) (masked : ℕ → ℕ) (made : ContextOf known.settings known.round masked known) (g x : ℕ) (h : g < 2 * known.settings.shape.n)
    (place : x ≡ split_place known.settings.shape.kind g) (later : 2 ≤ known.round) (most : known.round ≤ 5) where
  pub terms_register : (terms : Weighted) (opened : ℕ → ℕ) → terms ≡ terms_at known.settings.shape (split_in known x) g 0
      → sum_form terms 0 ≡ running (public_by known.settings masked) 1 opened (g % 2) (g / 2)
  terms_register terms opened e = rw (e, place) (register_first known masked made g h later most opened)

  module _ (gate : Gate) (e : gate ≡ gate_at known.settings.shape (split_in known x) g (known.round - 1)) where
    pub gate_u : open_u gate ≡ opening (public_by known.settings masked) known.round (2 * g)
    gate_u = rw (e, place) (opening_u known masked made g h later most)

    pub gate_v : open_v gate ≡ opening (public_by known.settings masked) known.round (2 * g + 1)
    gate_v = rw (e, place) (opening-v known masked made g h later most)

    -- its register in n columns
    pub gate_register : (n : ℕ) (κ : ℕ → ℕ) (r : ℕ → Registers) (opened : ℕ → ℕ) (next after : List ℕ)
        → after ≡ fill_by 16 next (8 * gate.which + gate.j) n (λ (c : ℕ). value q (κ c) (r c)
        (result_form gate (opened (4 * gate.j + 2 * gate.which)) (opened (4 * gate.j + 2 * gate.which + 1))))
        → after ≡ fill_by 16 next (slot g) n (λ (c : ℕ). value q (κ c) (r c) (running (public_by known.settings masked) known.round opened (g % 2) (g / 2)))
    gate_register n κ r opened next after filled =
        let result : result_form (gate_at known.settings.shape (split_in known x) g (known.round - 1)) (opened (4 * (g / 2) + 2 * (g % 2))) (opened (4 * (g / 2) + 2 * (g % 2) + 1))
        ≡ running (public_by known.settings masked) known.round opened (g % 2) (g / 2) = rw place (register_result known masked made g h later most opened) in
        rw e at filled ∙ ap (λ (form : Form). fill_by 16 next (slot g) n (λ (c : ℕ). value q (κ c) (r c) form)) result

module _ (known : Context) (g x : ℕ) (place : x ≡ split_place known.settings.shape.kind g) (gate : Gate)
    (e : gate ≡ gate_at known.settings.shape (split_in known x) g (known.round - 1)) where
  -- a side's own numbers for its two openings
  pub gate_held : (κ : ℕ) (r : Registers) (own : List ℕ) (c : ℕ)
      → (get_or own (most_openings * c + 2 * g) 0 ≡ value q κ r (open_u (gate_at known.settings.shape (split_in known (split_place known.settings.shape.kind g)) g (known.round - 1))))
      × (get_or own (most_openings * c + (2 * g + 1)) 0 ≡ value q κ r (open_v (gate_at known.settings.shape (split_in known (split_place known.settings.shape.kind g)) g (known.round - 1))))
      → (get_or own (most_openings * c + (4 * gate.j + 2 * gate.which)) 0 ≡ value q κ r (open_u gate)) ×
      (get_or own (most_openings * c + (4 * gate.j + 2 * gate.which + 1)) 0 ≡ value q κ r (open_v gate))
  gate_held κ r own c held =
      let at : 4 * (g / 2) + 2 * (g % 2) ≡ 2 * g = omega arith in
      rw (e, place, at) held

-- the numbers that a side holds for the openings of rounds 2 to 5 are those of the gates
pub gates_held : (known : Context) (masked : ℕ → ℕ) (κs work own : List ℕ) → ContextOf known.settings known.round masked known
    → 2 ≤ known.round → known.round ≤ 5 → HeldAll (public_by known.settings masked) known.round κs work own → GatesHeld known κs work own
gates_held known masked κs work own made later most held c g h l =
    let p = params_of known.settings.shape in
    let count = open_middle p known.round (omega arith) most in (
      held c h (2 * g) (omega (arith, count)) ∙ ap (value q (get_or κs c 0) (column work c)) (sym (opening_u known masked made g l later most)),
      held c h (2 * g + 1) (omega (arith, count)) ∙ ap (value q (get_or κs c 0) (column work c)) (sym (opening-v known masked made g l later most)),
    )
