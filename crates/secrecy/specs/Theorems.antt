-- DrawsPair, as a type.
use Rattle.std.specs.Prelude.{ℕ, ◌<◌, ◌≡◌, true, List}
use Rattle.settings.specs.Sizes.{width_of}
use Rattle.settings.specs.Schedule.{rounds}
use Rattle.book.specs.Books.{multipliers}
use Rattle.column.specs.Run.{plain_opened}
use Rattle.settings.specs.declared.Settings.{Settings}
use Rattle.settings.specs.Questions.{settings_ok}
use Rattle.settings.specs.Settings.{terms_of}
use Rattle.runs.specs.Records.{answer_of, book_of}
use Rattle.runs.specs.Demands.{Secret, Possible}
use Rattle.secrecy.specs.Paired.{paired}

-- the opened numbers of the round that follows `round` rounds, each hidden by its mask of the draw
abbrev pub opened_numbers : ℕ → Settings → List ℕ → List ℕ → ℕ → List ℕ
opened_numbers k s draw secret round = plain_opened (terms_of s) (width_of k) draw secret round

-- the pairing is one to one, keeps possible draws, the opened numbers and the own book
pub record DrawsPair (k : ℕ) : Type 0 where
  pub possible : (s : Settings) (number : ℕ) (keys0 keys1 secret secret' draw : List ℕ)
      → settings_ok s ≡ true → Secret s secret → Secret s secret' → Possible k s draw
      → Possible k s (paired (terms_of s) (width_of k) secret secret' number (multipliers keys0 keys1) draw)
  pub back : (s : Settings) (number : ℕ) (keys0 keys1 secret secret' draw : List ℕ)
      → settings_ok s ≡ true → Secret s secret → Secret s secret' → Possible k s draw
      → let there : List ℕ → List ℕ → List ℕ → List ℕ = λ a b d. paired (terms_of s) (width_of k) a b number (multipliers keys0 keys1) d in
      there secret' secret (there secret secret' draw) ≡ draw
  pub same_openings : (s : Settings) (number : ℕ) (keys0 keys1 secret secret' draw : List ℕ)
      → settings_ok s ≡ true → Secret s secret → Secret s secret' → Possible k s draw
      → answer_of s secret ≡ answer_of s secret'
      → (round : ℕ)
      → round < rounds
      → opened_numbers k s (paired (terms_of s) (width_of k) secret secret' number (multipliers keys0 keys1) draw) secret' round
      ≡ opened_numbers k s draw secret round
  pub same_book : (s : Settings) (number : ℕ) (keys0 keys1 secret secret' draw : List ℕ)
      → settings_ok s ≡ true → number < 2 → Secret s secret → Secret s secret' → Possible k s draw
      → book_of k s number keys0 keys1 (paired (terms_of s) (width_of k) secret secret' number (multipliers keys0 keys1) draw)
      ≡ book_of k s number keys0 keys1 draw
