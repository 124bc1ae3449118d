-- What the form test's questions have told of the header, and of the message.
use Prim.Native.Nat.{ℕ, ◌-◌, ◌<◌}
use mathlib.Core.Path.{◌≡◌}
use mathlib.Core.Bool.{true}
use mathlib.Core.List.{List}
use native.Mathlib.Omega.{arith}
use lib.Dec.{eqb, ltb}
use lib.ListN.{length}
use borrow.Author.Tests.{ltb-true}
use Rattle.lists.specs.Answers.{ask}
use Rattle.lists.proofs.Every.{all_to-at}
use Rattle.lists.proofs.Questions.{both_yes, passed}
use Rattle.field.specs.Field.{q}
use Rattle.settings.specs.declared.Settings.{Settings}
use Rattle.settings.specs.Settings.{params_of}
use Rattle.settings.specs.Sizes.{field_count, message_length}
use Rattle.settings.specs.Questions.{Ready}
use Rattle.message.specs.declared.Header.{Header}
use Rattle.message.specs.Message.{header_with, header_number, header_in, field_in, fields_ok, ask_form}
use Rattle.message.specs.Fields.{HeaderFits}

-- settings that pass fit the other side's header
pub other_fits : (receiver : ℕ) (s : Settings) (round serial : ℕ) → Ready s → round < 8 → HeaderFits (header_with (1 - receiver) s round serial)
other_fits receiver s round serial r h = record { sender_fits = omega arith; settings_fit = r; round_fits = h }

-- how many fields a message with this header has
abbrev pub fields_of : ℕ → Header → ℕ
fields_of k due = field_count k (params_of due.settings.shape) due.round

-- questions 10 to 12 say yes
pub record Formed (k : ℕ) (due : Header) (msg : List ℕ) : Type 0 where
  pub ten : eqb (length msg) (message_length k (params_of due.settings.shape) due.round) ≡ true
  pub eleven : eqb (header_in (fields_of k due) msg) (header_number due) ≡ true
  pub twelve : fields_ok (fields_of k due) msg ≡ true

module _ (k : ℕ) (due : Header) (msg : List ℕ) where
  -- where all say yes, these have, and so has the rest
  pub form-passed : (rest : ℕ) → ask_form k due msg rest ≡ 0 → Formed k due msg × (rest ≡ 0)
  unfolding ask_form
  form-passed rest e =
      let a = passed (eqb (length msg) (message_length k (params_of due.settings.shape) due.round)) 9 _ e in
      let b = passed (eqb (header_in (fields_of k due) msg) (header_number due)) 10 _ a.1 in
      let c = passed (fields_ok (fields_of k due) msg) 11 rest b.1 in
      (record { ten = a.0; eleven = b.0; twelve = c.0 }, c.1)

  -- where these have, the rest decides
  pub form_rest : Formed k due msg → (rest : ℕ) → ask_form k due msg rest ≡ rest
  unfolding ask_form ask
  form_rest f rest = rw (f.ten, f.eleven, f.twelve)

  -- a field is below q
  pub field_below : Formed k due msg → (f : ℕ) → f < fields_of k due → field_in (fields_of k due) msg f < q
  unfolding fields_ok
  field_below h f l =
      ltb-true (field_in (fields_of k due) msg f) q
      (all_to-at (fields_of k due) (λ (f : ℕ). ltb (field_in (fields_of k due) msg f) q) f (both_yes _ _ h.twelve).0 l)
