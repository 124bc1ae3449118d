-- What both sides know in a round, as the code carries it: the numbers whose digits the gates look at, each split. A gate is the first
-- (which = 0) or the second (1) of a coefficient j; counted in turn, it is gate 2 × j + which.
use Rattle.std.specs.Prelude.{ℕ, ◌*◌, ◌/◌, ◌%◌, ◌<◌, ◌≡◌, Bool, true, false, cond, [], eqb, leb, ltb, get_or}
use Rattle.field.specs.Field.{q}
use Rattle.settings.specs.declared.Shape.{Shape}
use Rattle.settings.specs.declared.Settings.{Settings}
use Rattle.settings.specs.Sets.{scale_of, base}
use Rattle.settings.specs.Settings.{terms_of}
use Rattle.rounding.specs.declared.Split.{Split}
use Rattle.rounding.specs.Digits.{split_of}
use Rattle.rounding.specs.Rounds.{threshold}
use Rattle.steps.specs.Steps.{Public, public_of}
use Rattle.steps.specs.declared.Context.{Context}

-- what both sides know of a run with these settings and masked numbers
abbrev pub public_by : Settings → (ℕ → ℕ) → Public
public_by settings masked = public_of (terms_of settings) masked

-- does a round look at digits? Rounds 2 to 5 do, and round 6 of BOUND looks at hi and lo
unfoldable pub looks_at : ℕ → ℕ → Bool
looks_at kind round = cond (ltb round 2) false (cond (eqb kind 0) (leb round 5) (leb round 6))

-- how many numbers are split: HIGH, y of each coefficient; BOUND, hi and lo of each
unfoldable pub split_count : Shape → ℕ
split_count shape = cond (eqb shape.kind 0) shape.n (2 * shape.n)

-- number x of them
unfoldable pub number_at : Settings → (ℕ → ℕ) → ℕ → ℕ
number_at settings masked x =
    cond (eqb settings.shape.kind 0) (masked x) (threshold q settings.bound (x % 2) (masked (x / 2)))

-- which of them gate g looks at
unfoldable pub split_place : ℕ → ℕ → ℕ
split_place kind g = cond (eqb kind 0) (g / 2) g

-- split x of a context
abbrev pub split_in : Context → ℕ → Split
split_in context x = get_or context.splits x (record { number = 0; digits = [] })

-- the context of a round with these settings and masked numbers: they are split where the round looks at digits
pub record ContextOf (settings : Settings) (round : ℕ) (masked : ℕ → ℕ) (context : Context) : Type 0 where
  pub settings_kept : context.settings ≡ settings
  pub round_kept : context.round ≡ round
  pub split : looks_at settings.shape.kind round ≡ true → (x : ℕ) → x < split_count settings.shape
      → split_in context x ≡ split_of (scale_of settings.shape.set) (number_at settings masked x)

-- each digit of a context is below its base: the top digit is at most s
abbrev pub SplitsBelow : Context → Type 0
SplitsBelow context =
    (x i : ℕ) → x < split_count context.settings.shape → i < 5
    → get_or (split_in context x).digits i 0 < base (scale_of context.settings.shape.set) i
