-- A forger who changes an opening on its way, and whether the check accepts it. k is the number of keys a side.
use Rattle.std.specs.Prelude.{ℕ, ◌*◌, ◌%◌, ◌<◌, ◌≡◌, ◌≢◌, Bool, List, get_or}
use Rattle.lists.specs.Lists.{all_to}
use Rattle.field.specs.Field.{q, add, sub, mul}
use Rattle.opening.specs.Check.{Given, accepts}

-- "Fix everything about an opening .. but the receiver's keys and its own parts": the receiver's share, and what the other side sent
pub record Opening : Type 0 where
  pub share : ℕ
  pub sent : Given

-- "its own parts, which follow each tried choice of keys so that it passes unchanged": what the receiver itself gives under these keys; its part
-- under a key is key × the joined number, less the part that was sent
abbrev pub following : List ℕ → Opening → Given
following keys opening =
    record {
      share = opening.share;
      part = λ (key : ℕ).
          sub q (mul q (get_or keys key 0) (add q opening.share opening.sent.share)) (opening.sent.part key);
    }

-- "Let a forger change the share .. and the parts": what the receiver is handed, an amount added to each field, modulo q
abbrev pub changed : Given → Given → Given
changed sent amounts =
    record {
      share = add q sent.share amounts.share;
      part = λ (key : ℕ). add q (sent.part key) (amounts.part key);
    }

-- "by a non-zero amount": a multiple of q changes nothing
abbrev pub NonZero : ℕ → Type 0
NonZero amount = amount % q ≢ 0

-- "If only the parts change": the share stays, and a part under some key does not
pub record PartsOnly (k : ℕ) (amounts : Given) : Type 0 where
  pub share : amounts.share % q ≡ 0
  pub key : ℕ
  pub inside : key < k
  pub part : NonZero (amounts.part key)

-- does the check under these keys accept the changed opening? It is the check that take makes of each opening (`passes`, opening/specs/Opening)
unfoldable pub believed : ℕ → Opening → Given → List ℕ → Bool
believed k opening amounts keys = accepts k keys (following keys opening) (changed opening.sent amounts)

-- "For a message of many openings": does it accept each of n?
unfoldable pub believed_all : ℕ → ℕ → (ℕ → Opening) → (ℕ → Given) → List ℕ → Bool
believed_all k n openings amounts keys = all_to n (λ (o : ℕ). believed k (openings o) (amounts o) keys)

-- the amounts of a forger who guesses the keys: any amount to the share, and key × that amount to each part
abbrev pub guessing : List ℕ → ℕ → Given
guessing keys amount = record { share = amount; part = λ (key : ℕ). get_or keys key 0 * amount }
