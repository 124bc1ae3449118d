-- What is proved of the constants and the sizes, as types.
use Rattle.std.specs.Prelude.{ℕ, ◌+◌, ◌*◌, ◌/◌, ◌%◌, ◌<◌, ◌≤◌, ◌≡◌, length, get_or}
use Rattle.settings.specs.declared.Shape.{Shape}
use Rattle.settings.specs.Sets.{Scale, scale_of, base, top, top_digits}
use Rattle.settings.specs.Settings.{Params, params_of, params_with}
use Rattle.settings.specs.Questions.{ShapeReady}
use Rattle.settings.specs.Schedule.{rounds}
use Rattle.settings.specs.Sizes.{key_count, width_of, width, openings, openings_up_to, field_count, shared, draw_length, work_length}

-- all that the arguments may use of the modulus, α, s and the bases
pub record Lawful (p : Scale) : Type 0 where
  -- "the first four bases multiply to α"; "digit 4: 0 to s"; "s × α = q − 1"
  pub steps : base p 0 * base p 1 * base p 2 * base p 3 ≡ p.alpha
  pub last : base p 4 ≡ p.parts + 1
  pub whole : p.modulus ≡ p.parts * p.alpha + 1
  pub even : p.alpha ≡ 2 * (p.alpha / 2)
  pub some_parts : 1 ≤ p.parts
  pub some_alpha : 1 ≤ p.alpha
  -- the zero check with K = 5
  pub checks : p.modulus % 6 ≤ p.modulus / 6

-- a set by its number
abbrev of_set : ℕ → ℕ → ℕ → Params
of_set set kind n = params_with (scale_of set) kind n

pub record SizeLaws : Type 0 where
  -- one argument serves both sets
  pub sets : (set : ℕ) → set < 2 → Lawful (scale_of set)
  -- "HIGH holds 165N shared numbers in set 0, 162N in set 1; BOUND holds 158N + 3 or 155N + 3"
  pub high_0 : (n : ℕ) → shared (of_set 0 0 n) ≡ 165 * n
  pub high_1 : (n : ℕ) → shared (of_set 1 0 n) ≡ 162 * n
  pub bound_0 : (n : ℕ) → shared (of_set 0 1 n) ≡ 158 * n + 3
  pub bound_1 : (n : ℕ) → shared (of_set 1 1 n) ≡ 155 * n + 3
  -- "A shared number becomes nine numbers"; "An opening carries one share and four parts" (02)
  pub nine : width ≡ 9
  pub five : (p : Params) (round : ℕ) → field_count key_count p round ≡ 5 * openings p round
  -- "every r, a, b, ρ and the phone's nine numbers" (01 as amended)
  pub high_draw : (set n : ℕ) → draw_length (of_set set 0 n) width ≡ 9 * shared (of_set set 0 n) + 18 * n
  pub bound_draw : (set n : ℕ) → draw_length (of_set set 1 n) width ≡ 9 * shared (of_set set 1 n) + (17 * n + 1)
  -- "Openings in all: 19N or 17N + 2"
  pub high_openings : (set n : ℕ) → openings_up_to (of_set set 0 n) rounds ≡ 19 * n
  pub bound_openings : (set n : ℕ) → openings_up_to (of_set set 1 n) rounds ≡ 17 * n + 2
  -- "the working slice becomes 13,824 numbers"; for any number of keys "1,536 places .. for each number of a shared number" (02)
  pub work : work_length key_count ≡ 13824
  pub work_for : (k : ℕ) → work_length k ≡ width_of k * 1536
  -- "90 entries for set 0 and 34 for set 1. Each entry is proved to equal t(d)" (02)
  pub list_0 : length (top_digits (scale_of 0).parts) ≡ 90
  pub list_1 : length (top_digits (scale_of 1).parts) ≡ 34
  pub entries : (s d : ℕ) → d ≤ 2 * s + 1 → get_or (top_digits s) d 0 ≡ top s d
  -- a book fits a column
  pub at_most : (a : Shape) → ShapeReady a → shared (params_of a) ≤ 1320
