-- What a refusal says as a number, and how a chain of questions goes on behind a call that has asked the first of them.
use mathlib.Core.Path.{◌≡◌, refl, sym}
use mathlib.Core.Logic.{◌≢◌}
use Prim.Native.Nat.{◌≤◌}
use native.Mathlib.Omega.{arith}
use lib.Dec.{eqb}
use borrow.Author.Tests.{ne_eqb}
use Rattle.std.specs.Prelude.{Result, Ok, Err, is_ok}
use Rattle.settings.specs.declared.Refusal.{Refusal}
use Rattle.settings.specs.declared.Refusal.TheVariants.{SideSetOrKind, Count, Bound, Key, Length, NotBelowQ, Serial, NotDue, NoRoom, MessageLength, Header, Fields, FailedCheck, NoBook, OutOfRange, Seed}
use Rattle.settings.specs.Refusals.{number_of, refused}

-- no question has the number 0
pub number_some : (e : Refusal) → 1 ≤ number_of e
number_some SideSetOrKind = omega arith
number_some Count = omega arith
number_some Bound = omega arith
number_some Key = omega arith
number_some Length = omega arith
number_some NotBelowQ = omega arith
number_some Serial = omega arith
number_some NotDue = omega arith
number_some NoRoom = omega arith
number_some MessageLength = omega arith
number_some Header = omega arith
number_some Fields = omega arith
number_some FailedCheck = omega arith
number_some NoBook = omega arith
number_some OutOfRange = omega arith
number_some Seed = omega arith

-- a call that has asked a chain's first questions refused, and so does the chain, with the same number
pub number_nonzero : (e : Refusal) → number_of e ≢ 0
number_nonzero e z = absurd (omega (arith, number_some e))

-- a refusal is a number above 0
pub is_ok_refused : {A : Type 0} → (r : Result A Refusal) → is_ok r ≡ eqb (refused r) 0
is_ok_refused (Ok x) = refl
is_ok_refused (Err e) = sym (ne_eqb (number_of e) 0 (number_nonzero e))
