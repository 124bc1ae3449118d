-- Refusals: "A no returns its number", that of the question; and what a call gives that may refuse.
use Rattle.std.specs.Prelude.{ℕ, Result, Ok, Err}
use Rattle.settings.specs.declared.Refusal.{Refusal}
use Rattle.settings.specs.declared.Refusal.TheVariants.{SideSetOrKind, Count, Bound, Key, Length, NotBelowQ, Serial, NotDue, NoRoom, MessageLength, Header, Fields, FailedCheck, NoBook, OutOfRange, Seed}

-- the number of the question that was answered no
abbrev pub number_of : Refusal → ℕ
number_of SideSetOrKind = 1
number_of Count = 2
number_of Bound = 3
number_of Key = 4
number_of Length = 5
number_of NotBelowQ = 6
number_of Serial = 7
number_of NotDue = 8
number_of NoRoom = 9
number_of MessageLength = 10
number_of Header = 11
number_of Fields = 12
number_of FailedCheck = 13
number_of NoBook = 14
number_of OutOfRange = 15
number_of Seed = 16

-- the number of the first no, or 0 where every answer was yes
abbrev pub refused : {A : Type 0} → Result A Refusal → ℕ
refused (Ok x) = 0
refused (Err e) = number_of e

-- what a call gives: a value, or the number of the first no
pub data Outcome (A : Type 0) : Type 0 where
  Gives : A → Outcome A
  No : ℕ → Outcome A

abbrev pub outcome : {A : Type 0} → Result A Refusal → Outcome A
outcome (Ok x) = Gives x
outcome (Err e) = No (number_of e)
