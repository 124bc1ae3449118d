-- The plain calls: the first no, and all that comes out.
use Rattle.std.specs.Prelude.{ℕ, ◌≡◌, Bool, cond, List, eqb, ltb, length, Result, Ok, Err, IfOk}
use Rattle.lists.specs.Answers.{ask, bit}
use Rattle.lists.specs.Lists.{all_below}
use Rattle.field.specs.Field.{q}
use Rattle.rounding.specs.declared.HighLow.{HighLow}
use Rattle.settings.specs.declared.Refusal.{Refusal}
use Rattle.settings.specs.Refusals.{number_of, Outcome, Gives, No}
use Rattle.settings.specs.Sets.{scale_of}
use Rattle.settings.specs.Questions.{is_bit, count_ok, bound_ok}
use Rattle.rounding.specs.Plain.{high_low_of, joined, verdict}

-- "Plain: 1, 3 (verdict), 6"
unfoldable pub parts_no : ℕ → ℕ → ℕ
parts_no set w =
    ask (is_bit set) 1
    (ask (ltb w q) 6
    0)

-- "1 to 8 numbers, else 2, asked after 1"
unfoldable pub verdict_no : ℕ → ℕ → List ℕ → ℕ
verdict_no set bound xs =
    ask (is_bit set) 1
    (ask (count_ok (length xs)) 2
    (ask (bound_ok 1 bound) 3
    (ask (all_below q xs) 6
    0)))

-- "A no returns its number"; else both parts, by request Two: "high and signed low in one result"
unfoldable pub parts_call : ℕ → ℕ → Outcome HighLow
parts_call set w =
    cond (eqb (parts_no set w) 0) (Gives (high_low_of (scale_of set) w)) (No (parts_no set w))

-- "its promise must fix both and the identity high × α + low = w modulo q": parts that are given join to w
abbrev pub JoinTo : ℕ → ℕ → Result HighLow Refusal → Type 0
JoinTo set w r = IfOk r (λ (parts : HighLow). joined (scale_of set) parts ≡ w)

-- "Plain verdicts take a set, which changes nothing else"
unfoldable pub verdict_call : ℕ → ℕ → List ℕ → Outcome ℕ
verdict_call set bound xs =
    cond (eqb (verdict_no set bound xs) 0) (Gives (verdict q bound xs)) (No (verdict_no set bound xs))

-- a verdict that the code answers yes or no
abbrev pub verdict_of : Result Bool Refusal → Outcome ℕ
verdict_of (Ok inside) = Gives (bit inside)
verdict_of (Err e) = No (number_of e)
