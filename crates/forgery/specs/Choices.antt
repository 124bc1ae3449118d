-- Choices of the receiver's keys, and how many of them pass a test. k is the number of keys a side.
use Rattle.std.specs.Prelude.{ℕ, zero, suc, ◌-◌, ◌^◌, ◌≤◌, ◌≡◌, Bool, true, false, List, [], ◌∷◌, map, length}
use Rattle.lists.specs.Lists.{join_to}
use Rattle.lists.specs.Members.{Each, Among, Different, count}
use Rattle.field.specs.Field.{q}
use Rattle.settings.specs.Questions.{keys_ok}

-- a choice: k keys, each "from 1 to q − 1" (01)
pub record Choice (k : ℕ) (keys : List ℕ) : Type 0 where
  pub size : length keys ≡ k
  pub range : keys_ok keys ≡ true

-- the keys, in order: 1, 2 ..
abbrev pub key_at : ℕ → ℕ
key_at i = suc i

-- all lists of k keys out of the first m: each first key, before each list of the others
unfoldable pub keys_up_to : ℕ → ℕ → List (List ℕ)
keys_up_to m zero = [] ∷ []
keys_up_to m (suc k) = join_to m (λ (i : ℕ). map (λ (keys : List ℕ). key_at i ∷ keys) (keys_up_to m k))

-- all choices of k keys
abbrev pub choices : ℕ → List (List ℕ)
choices k = keys_up_to (q - 1) k

-- "At most one choice": two choices that pass are the same, and of all choices at most one passes
pub record AtMostOne (k : ℕ) (test : List ℕ → Bool) : Type 0 where
  pub same : (a b : List ℕ) → Choice k a → Choice k b → test a ≡ true → test b ≡ true → a ≡ b
  pub counted : count test (choices k) ≤ 1

-- "none does"
pub record None (k : ℕ) (test : List ℕ → Bool) : Type 0 where
  pub fails : (keys : List ℕ) → Choice k keys → test keys ≡ false
  pub counted : count test (choices k) ≡ 0

-- ---- That the list of all choices is right

-- "among (q − 1)⁴": so many with k keys; each is a choice, no choice is missing, none stands there twice
pub record AllChoices (k : ℕ) : Type 0 where
  pub size : length (choices k) ≡ (q - 1) ^ k
  pub no_more : Each (Choice k) (choices k)
  pub no_less : (keys : List ℕ) → Choice k keys → Among keys (choices k)
  pub once : Different (choices k)
