-- How the code goes through a line, word by word.
use Rattle.std.specs.Prelude.{ℕ, ◌+◌, cond, List, [], ◌∷◌, ltb, set, replicate, Option, Some, None}
use Rattle.std.specs.Option.{option_map, option_and_then}
use Rattle.syntax.specs.Line.{field_at, requested}
use Rattle.syntax.specs.declared.Request.{Request}
use Rattle.syntax.specs.declared.WordsRead.{WordsRead}

-- before the first word
abbrev pub start_words : WordsRead
start_words = record { count = 0; values = replicate 11 0 }

-- one word more, if it has its form; its number is kept if it has a place
unfoldable pub with_word : WordsRead → List ℕ → Option WordsRead
with_word s w = option_map (λ (v : ℕ). record { count = s.count + 1; values = set s.values s.count v }) (field_at s.count w)

-- some words more
unfoldable pub with_words : WordsRead → List (List ℕ) → Option WordsRead
with_words s [] = Some s
with_words s (w ∷ ws) = option_and_then (λ (r : WordsRead). with_words r ws) (with_word s w)

-- the request, when the last word has been read
unfoldable pub finish : WordsRead → Option Request
finish s = cond (ltb s.count 3) None (Some (requested s.count s.values))
