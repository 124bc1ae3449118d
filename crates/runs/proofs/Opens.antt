-- Every opening passes its check at the receiver and opens the plain number: what both sides have for it adds up.
use Prim.Native.Nat.{ℕ, zero, suc, ◌+◌, ◌*◌, ◌-◌, ◌<◌}
use mathlib.Core.Path.{◌≡◌, sym, ap, ◌∙◌}
use mathlib.Core.List.{List}
use mathlib.Core.Bool.{true}
use native.Mathlib.Omega.{arith}
use native.Mathlib.Nat.{mod-eq_of_lt, one-mul}
use lib.ListN.{get_or}
use Rattle.lists.specs.Lists.{all_to, list_to}
use Rattle.lists.proofs.Every.{all_to_yes}
use Rattle.lists.proofs.Lists.{get_d_list_to, list_to_cong}
use Rattle.field.specs.Field.{q}
use Rattle.field.specs.Forms.{Adds}
use Rattle.settings.specs.Schedule.{rounds, take_step}
use Rattle.settings.specs.Sizes.{openings}
use Rattle.message.specs.Theorems.{RoundTrip}
use Rattle.column.specs.Theorems.{SlicesJoin}
use Rattle.state.specs.declared.Side.{Side}
use Rattle.opening.specs.Opening.{part_column, prepared, incoming, opened, passes}
use Rattle.opening.proofs.Checks.{check-passes}
use Rattle.side.specs.Side.{begun_side, opened_list}
use Rattle.settings.specs.declared.Settings.{Settings}
use Rattle.settings.specs.Questions.{settings_ok}
use Rattle.settings.specs.Settings.{params_in}
use Rattle.runs.specs.Records.{PartyInput}
use Rattle.runs.specs.Progress.{work_at, side_at, party_at, message_at}
use Rattle.runs.specs.Honest.{Meets}
use Rattle.runs.proofs.PartyStates.{which_below, at_take}
use Rattle.runs.proofs.Slices.{Fair}
use Rattle.runs.specs.Messages.{own_number, opening_fields}
use Rattle.runs.proofs.Sharing.{prepared-is, header_read, fields_read, field_read}

-- two sides that face each other: their numbers for each opening add up, in every column
pub record Facing (k : ℕ) (s : Settings) (serial : ℕ) (numbers : ℕ → List ℕ) (factors : List ℕ) (plain : ℕ → ℕ → ℕ) (h o : PartyInput) : Type 0 where
  pub faces : o.number ≡ 1 - h.number
  pub observer : Fair k s serial numbers h
  pub peer : Fair k s serial numbers o
  pub adds : (R c j : ℕ) → c < 1 + 2 * k → Adds q (get_or factors c 0) (own_number k s serial numbers h R c j) (own_number k s serial numbers o R c j) (plain R j)
  -- what the shares' column and the columns of its own keys add up to
  pub unit : get_or factors 0 0 ≡ 1
  pub keyed : (i : ℕ) → i < k → get_or factors (part_column k h.number i) 0 ≡ get_or h.keys i 0
  -- the numbers are the plain openings
  pub opens : (R : ℕ) → numbers R ≡ list_to (openings (params_in s) (suc R)) (plain R)
  pub low : (R j : ℕ) → j < openings (params_in s) (suc R) → plain R j < q

module _ (t : SlicesJoin) (m : RoundTrip) (k : ℕ) (s : Settings) (serial : ℕ) (numbers : ℕ → List ℕ) (factors : List ℕ) (plain : ℕ → ℕ → ℕ) (h o : PartyInput)
    (e : settings_ok s ≡ true) (f : serial < 4294967296) (v : Facing k s serial numbers factors plain h o) where
  abbrev side : ℕ → Side
  side R = side_at k s serial numbers h (take_step h.number R)

  abbrev work : ℕ → List ℕ
  work R = work_at k s serial numbers h R

  abbrev came : ℕ → List ℕ
  came R = message_at k s serial numbers o (suc R)

  -- field x of opening j, as the receiver reads it
  incoming-is : (R : ℕ) → R < rounds → (j x : ℕ) → j < openings (params_in s) (suc R) → x < 1 + k
      → incoming k (side R) (came R) j x ≡ get_or (opening_fields k s serial numbers o R j) x 0
  unfolding incoming side_at begun_side party_at
  incoming-is R r j x l b = rw (at_take k s serial numbers h R v.observer.which r).round (field_read k s serial numbers t m e f o v.peer R r j x l b)

  opened-is : (R : ℕ) → R < rounds → (j : ℕ) → j < openings (params_in s) (suc R) → opened k (side R) (work R) (came R) j ≡ plain R j
  unfolding opened
  opened-is R r j l =
      rw (prepared-is k s serial numbers h R v.observer.which r 0 j, incoming-is R r j 0 l (omega arith))
      ((v.adds R 0 j (omega arith)).total.path ∙ rw (v.unit, one-mul (plain R j)) (mod-eq_of_lt (v.low R j l)))

  own-column : (i : ℕ) → i < k → part_column k h.number i < 1 + 2 * k
  own-column i l = by h.number (which_below h v.observer.which)
    where
      by : (number : ℕ) → number < 2 → part_column k number i < 1 + 2 * k
      by zero u = omega arith
      by (suc zero) u = omega arith
      by (suc (suc n)) u = absurd (omega arith)

  part-is : (R : ℕ) → R < rounds → (j i : ℕ) → j < openings (params_in s) (suc R) → i < k
      → incoming k (side R) (came R) j (1 + i) ≡ own_number k s serial numbers o R (part_column k h.number i) j
  part-is R r j i l b =
      let z : 1 + i ≡ suc i = omega arith in
      let y : 1 - o.number ≡ h.number = omega (arith, v.faces, which_below h v.observer.which) in
      incoming-is R r j (1 + i) l (omega arith)
      ∙ ap (λ (x : ℕ). get_or (opening_fields k s serial numbers o R j) x 0) z
      ∙ get_d_list_to k (λ (i : ℕ). own_number k s serial numbers o R (part_column k (1 - o.number) i) j) i 0 b
      ∙ ap (λ (x : ℕ). own_number k s serial numbers o R (part_column k x i) j) y

  -- the two shares of an opening add up to the plain number, the two parts under each of my keys to my key × it
  shares_add : (R : ℕ) → R < rounds → (j : ℕ) → j < openings (params_in s) (suc R)
      → Adds q 1 (prepared k (side R) (work R) 0 j) (incoming k (side R) (came R) j 0) (plain R j)
  shares_add R r j l =
      rw (prepared-is k s serial numbers h R v.observer.which r 0 j, incoming-is R r j 0 l (omega arith), ← v.unit)
      (v.adds R 0 j (omega arith))

  parts_add : (R : ℕ) → R < rounds → (j i : ℕ) → j < openings (params_in s) (suc R) → i < k
      → Adds q (get_or h.keys i 0) (prepared k (side R) (work R) (part_column k h.number i) j) (incoming k (side R) (came R) j (1 + i)) (plain R j)
  parts_add R r j i l b =
      rw (prepared-is k s serial numbers h R v.observer.which r (part_column k h.number i) j, part-is R r j i l b, ← v.keyed i b)
      (v.adds R (part_column k h.number i) j (own-column i b))

  all_pass : (R : ℕ) → R < rounds → all_to (openings (params_in s) (suc R)) (passes k (side R) (work R) (came R)) ≡ true
  unfolding passes side_at begun_side
  all_pass R r =
      all_to_yes (openings (params_in s) (suc R)) (passes k (side R) (work R) (came R))
      (λ j l. check-passes.honest k h.keys _ _ (plain R j) (shares_add R r j l) (λ i b. parts_add R r j i l b))

  all_open : (R : ℕ) → R < rounds → opened_list k (side R) (work R) (came R) ≡ numbers R
  unfolding opened_list side_at begun_side party_at
  all_open R r =
      ap (λ (round : ℕ). list_to (openings (params_in s) round) (opened k (side R) (work R) (came R))) (at_take k s serial numbers h R v.observer.which r).round
      ∙ list_to_cong (openings (params_in s) (suc R)) (opened k (side R) (work R) (came R)) (plain R) (opened-is R r)
      ∙ sym (v.opens R)

  pub meets : Meets k s serial numbers h (message_at k s serial numbers o)
  meets =
      record {
        header = λ R l. rw (← v.faces) (header_read k s serial numbers t m e f o v.peer R l);
        fields = λ R l. fields_read k s serial numbers t m e f o v.peer R l;
        pass = λ R l. all_pass R l;
        opens = λ R l. all_open R l;
      }
