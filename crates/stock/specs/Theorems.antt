-- What is proved of the choice, as a type: for any number of keys.
use Rattle.std.specs.Prelude.{◌≡◌, List, [], ℕ, ◌≤◌, ◌<◌, length, get_or}
use Rattle.settings.specs.declared.Shape.{Shape}
use Rattle.stock.specs.Stock.{stocked_size, both_stocks, serial_of, choose_no, chosen}

module _ (k : ℕ) (a : Shape) (first second : List ℕ) (last : ℕ) where
  abbrev books : List (List ℕ)
  books = both_stocks (stocked_size k a) first second

  abbrev serial : ℕ → ℕ
  serial b = serial_of (get_or books b [])

  -- what choose gives back is book b: above the last, no other above the last is less, and none before it is equal
  pub record Chosen (part : List ℕ) : Type 0 where
    pub b : ℕ
    pub inside : b < length books
    pub is : part ≡ get_or books b []
    pub above : last < serial b
    pub least : (other : ℕ) → other < length books → last < serial other → serial b ≤ serial other
    pub earliest : (other : ℕ) → other < b → last < serial other → serial b < serial other
    pub size : length part ≡ stocked_size k a

  pub record Choice : Type 0 where
    pub refused : ¬ (choose_no k a first second last ≡ 0) → chosen k a first second last ≡ []
    pub chose : choose_no k a first second last ≡ 0 → Chosen (chosen k a first second last)
