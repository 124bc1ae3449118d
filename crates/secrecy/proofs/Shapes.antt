-- From PlainRun's closed form of the openings to what the pairing asks of them, and that settings, secrets and draws are sound.
use mathlib.Core.Path.{◌≡◌, ap, ◌∙◌}
use mathlib.Core.List.{List}
use mathlib.Core.Bool.{true}
use Prim.Native.Nat.{ℕ, suc, ◌+◌, ◌*◌, ◌-◌, ◌/◌, ◌%◌, ◌≤◌, ◌<◌}
use native.Mathlib.Omega.{arith}
use borrow.Author.Tests.{ne_eqb, le-leb}
use lib.ListN.{get_or}
use Rattle.lists.proofs.Lists.{get_d_list_to}
use Rattle.field.specs.Field.{add, sub}
use Rattle.settings.specs.Sizes.{width_of, openings, groups}
use Rattle.settings.specs.Questions.{settings_ok}
use Rattle.settings.specs.Schedule.{rounds}
use Rattle.book.specs.Book.{mask_at, triple_at, group_at, drawn}
use Rattle.steps.specs.Steps.{shift_of}
use Rattle.column.specs.Clear.{clear_factor, clear_opened, mask_of, masked_of}
use Rattle.column.specs.Theorems.{Sound, PlainRun}
use Rattle.settings.specs.declared.Settings.{Settings}
use Rattle.settings.specs.Settings.{Terms, terms_of}
use Rattle.runs.proofs.Answers.{sound}
use Rattle.runs.specs.Demands.{Secret, Possible}
use Rattle.secrecy.specs.Paired.{opened_of, triple_opening}
use Rattle.secrecy.proofs.Moves.{factor_of, check_of, Good, Opens, Shapes}

-- ---- the openings of all rounds but the last

module _ (T : Terms) (k : ℕ) (plain-run-law : PlainRun) (x d : List ℕ) (sound : Sound T k d x) where
  abbrev w : ℕ
  w = width_of k

  opened-is : (r o : ℕ) → r < rounds - 1 → o < openings T.params (suc r) → opened_of T w d x r o ≡ clear_opened T w d x (suc r) o
  opened-is r o h b =
      ap (λ l. get_or l o 0) (plain-run-law.opened T k d x sound r h)
      ∙ get_d_list_to (openings T.params (suc r)) (clear_opened T w d x (suc r)) o 0 b

  first_is : (c : ℕ) → c < T.params.n → opened_of T w d x 0 c ≡ sub T.params.scale.modulus (get_or x c 0 + shift_of T) (drawn T.params w d (mask_at T.params c))
  unfolding clear_opened masked_of mask_of openings
  first_is c h = opened-is 0 c (omega arith) h

  middle : (r : ℕ) → 1 ≤ r → r ≤ 4 → openings T.params (suc r) ≡ 4 * T.params.n
  unfolding openings
  middle r h l = rw (ne_eqb (suc r) 1 (λ e. omega arith), le-leb (suc r) 5 (omega arith))

  clear_middle : (r o c i j part t : ℕ) → 1 ≤ r → r ≤ 4 → o / 4 ≡ c → suc r - 1 ≡ i → o / 2 % 2 ≡ j → o % 2 ≡ part → 2 * (suc r - 2) + j ≡ t
      → clear_opened T w d x (suc r) o
      ≡ sub T.params.scale.modulus (clear_factor T (masked_of T w d x c) (mask_of T w d x c) i j part) (drawn T.params w d (triple_at T.params c t + part))
  unfolding clear_opened
  clear_middle r o c i j part t h l e₁ e₂ e₃ e₄ e₅ = rw (ne_eqb (suc r) 1 (λ e. omega arith), le-leb (suc r) 5 (omega arith), e₁, e₂, e₃, e₄, e₅)

  factor-is : (c t part : ℕ) → c < T.params.n → t < 8 → part < 2
      → opened_of T w d x (1 + t / 2) (triple_opening c t part)
      ≡ sub T.params.scale.modulus (factor_of T w x d c t part) (drawn T.params w d (triple_at T.params c t + part))
  unfolding factor_of
  factor-is c t part hc ht hp =
      opened-is (1 + t / 2) (triple_opening c t part) (omega arith) (omega (arith, middle (1 + t / 2) (omega arith) (omega arith)))
      ∙ clear_middle (1 + t / 2) (triple_opening c t part) c (1 + t / 2) (t % 2) part t (omega arith) (omega arith) (omega arith) (omega arith) (omega arith) (omega arith) (omega arith)

  check-is : (g : ℕ) → g < groups T.params → opened_of T w d x 5 g ≡ add T.params.scale.modulus (drawn T.params w d (group_at T.params g)) (check_of T w x d g)
  unfolding clear_opened check_of openings
  check-is g h = opened-is 5 g (omega arith) h

  pub opens : Opens T w x d
  opens = record { first = first_is; factor = factor-is; check = check-is }

-- ---- for good settings, as the pairing asks it

pub good : (k : ℕ) (s : Settings) (d : List ℕ) → Possible k s d → Good (terms_of s) (width_of k) d
good k s d h = record { size = h.size_is; below = h.below }

pub able : (k : ℕ) (s : Settings) (d : List ℕ) → Good (terms_of s) (width_of k) d → Possible k s d
able k s d h = record { size_is = h.size; below = h.below }

pub shapes : (k : ℕ) → PlainRun → (s : Settings) (x : List ℕ) → settings_ok s ≡ true → Secret s x
    → Shapes (terms_of s) (width_of k) x
shapes k plain-run-law s x ok hx d g = opens (terms_of s) k plain-run-law x d (sound k s x d ok hx (able k s d g))
