-- Answers as Rust takes them, one number for each part: the part, or the refusal number times 2³².
use Rattle.std.specs.Prelude.{ℕ, ◌*◌, ℤ, pos}
use Rattle.settings.specs.Refusals.{Outcome, Gives, No}
use Rattle.rounding.specs.declared.HighLow.{HighLow}
use Rattle.phone.specs.declared.PartsCode.{PartsCode}

abbrev pub refusal_code : ℕ → ℤ
refusal_code n = pos (n * 4294967296)

-- request Two: "only the phone's app keeps its calls for one number each, promised as that part of the pair"
abbrev pub high_code : Outcome HighLow → ℤ
high_code (Gives parts) = pos parts.high
high_code (No n) = refusal_code n

abbrev pub low_code : Outcome HighLow → ℤ
low_code (Gives parts) = parts.low
low_code (No n) = refusal_code n

-- both codes of the pair
abbrev pub parts_code : Outcome HighLow → PartsCode
parts_code r = record { high = high_code r; low = low_code r }
