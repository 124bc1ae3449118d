-- Digits.
use Rattle.std.specs.Prelude.{ℕ, ◌/◌, ◌%◌, List, [], ◌∷◌, get_or}
use Rattle.rounding.specs.declared.Split.{Split}
use Rattle.settings.specs.Sets.{Scale, base}

-- "five digit bases, lowest first", "digit 4: 0 to s": the four lowest digits by their bases, then what is left
unfoldable pub digits_of : Scale → ℕ → List ℕ
digits_of p x =
    x % base p 0
    ∷ x / base p 0 % base p 1
    ∷ x / base p 0 / base p 1 % base p 2
    ∷ x / base p 0 / base p 1 / base p 2 % base p 3
    ∷ x / base p 0 / base p 1 / base p 2 / base p 3
    ∷ []

abbrev pub digit : Scale → ℕ → ℕ → ℕ
digit p x i = get_or (digits_of p x) i 0

-- "A digit array of five goes with every number split"
abbrev pub split_of : Scale → ℕ → Split
split_of p x = record { number = x; digits = digits_of p x }
