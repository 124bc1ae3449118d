-- The order of a run: which side sends or takes, in which round, and where a side is finished.
-- A step of a side is a send or a take: send, take, send .. for the server, take, send, take .. for the phone. m: how many it has made.
use Rattle.std.specs.Prelude.{ℕ, ◌+◌, ◌*◌, ◌-◌, ◌/◌, ◌%◌, Bool, cond, ◌&&◌, eqb, leb, ltb}

-- "The seven rounds"
abbrev pub rounds : ℕ
rounds = 7

-- a side sends once and takes once in each round
abbrev pub steps : ℕ
steps = 2 * rounds

-- "round 1 to 7"
abbrev pub round_ok : ℕ → Bool
round_ok round = leb 1 round && leb round rounds

-- after m steps: is a step left? Else the side is finished: "The phone finishes on sending round 7, the server on taking it"
abbrev pub goes_on : ℕ → Bool
goes_on m = ltb m steps

-- the round in which a side then stands; behind the last step, the last round
unfoldable pub round_after : ℕ → ℕ
round_after m = cond (goes_on m) (m / 2 + 1) rounds

-- does side `number` then send? Else it takes. "the server sends its share ..; the phone checks, then sends its own"
abbrev pub sends_after : ℕ → ℕ → Bool
sends_after number m = eqb (m % 2) number

-- the rounds that it has then taken, and sent
abbrev pub taken_by : ℕ → ℕ → ℕ
taken_by number m = (m + number) / 2

abbrev pub sent_by : ℕ → ℕ → ℕ
sent_by number m = (m + (1 - number)) / 2

-- the steps that side `number` has made when it is to send, or to take, behind so many rounds
abbrev pub send_step : ℕ → ℕ → ℕ
send_step number before = 2 * before + number

abbrev pub take_step : ℕ → ℕ → ℕ
take_step number before = 2 * before + (1 - number)

-- the steps that a side has made which stands in a round, to send or to take
abbrev pub steps_in : ℕ → ℕ → Bool → ℕ
steps_in number round sending = cond sending (send_step number (round - 1)) (take_step number (round - 1))
