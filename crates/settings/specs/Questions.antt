-- "Questions at the door" that several calls ask: 1 to 4. (Question 6 is `all_below q`.)
use Rattle.std.specs.Prelude.{ℕ, ◌≤◌, ◌<◌, ◌≢◌, Bool, cond, ◌&&◌, List, ltb, leb, eqb}
use Rattle.lists.specs.Answers.{ask}
use Rattle.lists.specs.Lists.{every}
use Rattle.field.specs.Field.{q}
use Rattle.settings.specs.declared.Shape.{Shape}
use Rattle.settings.specs.declared.Settings.{Settings}

-- 1. "Side, set, kind each 0 or 1?", asked of each that is handed in
abbrev pub is_bit : ℕ → Bool
is_bit x = ltb x 2

-- 2. "N from 1 to 8?"
abbrev pub count_ok : ℕ → Bool
count_ok n = leb 1 n && leb n 8

-- 3. "B as its kind allows?": "0 for HIGH, 1 to 4,190,208 for BOUND"
abbrev pub bound_ok : ℕ → ℕ → Bool
bound_ok kind bound = cond (eqb kind 0) (eqb bound 0) (leb 1 bound && leb bound 4190208)

-- 4. "Every key handed in from 1 to q − 1?" "Question 4 covers all four keys, which may be equal" (02)
abbrev pub key_ok : ℕ → Bool
key_ok key = leb 1 key && ltb key q

unfoldable pub keys_ok : List ℕ → Bool
keys_ok keys = every key_ok keys

-- do set, kind and N pass questions 1 and 2; do settings pass 1 to 3?
unfoldable pub shape_ok : Shape → Bool
shape_ok a = is_bit a.set && is_bit a.kind && count_ok a.n

abbrev pub settings_ok : Settings → Bool
settings_ok s = shape_ok s.shape && bound_ok s.shape.kind s.bound

-- questions 1 and 2 of set, kind and N, and then the rest
unfoldable pub ask_shape : Shape → ℕ → ℕ
ask_shape a rest =
    ask (is_bit a.set && is_bit a.kind) 1
    (ask (count_ok a.n) 2
    rest)

-- questions 1 to 3 of a side's number and settings, and then the rest
unfoldable pub ask_settings : ℕ → Settings → ℕ → ℕ
ask_settings number s rest =
    ask (is_bit number) 1
    (ask_shape s.shape
    (ask (bound_ok s.shape.kind s.bound) 3
    rest))

-- what a shape is that passed questions 1 and 2
pub record ShapeReady (a : Shape) : Type 0 where
  pub sets : a.set < 2
  pub kinds : a.kind < 2
  pub some : 1 ≤ a.n
  pub most : a.n ≤ 8

-- what settings are that passed questions 1 to 3
pub record Ready (s : Settings) : Type 0 where
  pub shape : ShapeReady s.shape
  pub bound_most : s.bound ≤ 4190208
  pub bound_some : s.shape.kind ≢ 0 → 1 ≤ s.bound
