-- Settings: the structs of the code, and what the arithmetic of a run takes from them.
use Rattle.std.specs.Prelude.{ℕ}
use Rattle.settings.specs.declared.Shape.{Shape}
use Rattle.settings.specs.declared.Settings.{Settings}
use Rattle.settings.specs.Sets.{Scale, scale_of}

-- what the places and steps of a run depend on: the constants of its set, its kind and N. A deal and a stock know no more
pub record Params : Type 0 where
  pub scale : Scale
  pub kind : ℕ
  pub n : ℕ

-- and B
pub record Terms : Type 0 where
  pub params : Params
  pub bound : ℕ

-- the same of a set by its number
abbrev pub params_of : Shape → Params
params_of a = record { scale = scale_of a.set; kind = a.kind; n = a.n }

abbrev pub params_in : Settings → Params
params_in s = params_of s.shape

-- "Settings are set, kind, N and B"
abbrev pub terms_of : Settings → Terms
terms_of s = record { params = params_of s.shape; bound = s.bound }

-- settings by their four numbers
abbrev pub settings_with : ℕ → ℕ → ℕ → ℕ → Settings
settings_with set kind n bound = record { shape = record { set = set; kind = kind; n = n }; bound = bound }

-- what places and steps depend on, by its parts
abbrev pub params_with : Scale → ℕ → ℕ → Params
params_with scale kind n = record { scale = scale; kind = kind; n = n }
