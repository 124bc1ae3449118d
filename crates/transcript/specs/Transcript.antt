-- The text of a transcript: what is written for an input.
use Rattle.std.specs.Prelude.{ℕ, zero, suc, ◌+◌, ◌*◌, ◌/◌, ◌%◌, cond, Option, None, Some, List, [], ◌∷◌, ◌++◌, eqb, ltb, length, get_or, take, drop, replicate}
use Rattle.text.specs.Text.{decimal, numbers_text, hex_bytes}
use Rattle.settings.specs.declared.Shape.{Shape}
use Rattle.settings.specs.Settings.{settings_with}
use Rattle.settings.specs.Sizes.{key_count, message_size, work_length}
use Rattle.settings.specs.Schedule.{rounds}
use Rattle.state.specs.declared.Side.{Side}
use Rattle.state.specs.State.{AfterAnswer, answer_call, count_call}
use Rattle.execution.specs.declared.RunTerms.{RunTerms}
use Rattle.execution.specs.declared.Party.{Party}
use Rattle.execution.specs.declared.Party.TheVariants.{Server, Phone}
use Rattle.execution.specs.declared.CallKind.{CallKind}
use Rattle.execution.specs.declared.CallKind.TheVariants.{Deal, Begin, Send, Take, Answer}
use Rattle.execution.specs.Execution.{side_number, Refused, Carried, executed}
use Rattle.execution.specs.Held.{run_bytes}

-- ---- Words

-- `malformed`
abbrev pub malformed_word : List ℕ
malformed_word = 109 ∷ 97 ∷ 108 ∷ 102 ∷ 111 ∷ 114 ∷ 109 ∷ 101 ∷ 100 ∷ []

-- `answer `, `openings ` and `refused `, each with its blank
abbrev pub answer_word : List ℕ
answer_word = 97 ∷ 110 ∷ 115 ∷ 119 ∷ 101 ∷ 114 ∷ 32 ∷ []

abbrev pub openings_word : List ℕ
openings_word = 111 ∷ 112 ∷ 101 ∷ 110 ∷ 105 ∷ 110 ∷ 103 ∷ 115 ∷ 32 ∷ []

abbrev pub refused_word : List ℕ
refused_word = 114 ∷ 101 ∷ 102 ∷ 117 ∷ 115 ∷ 101 ∷ 100 ∷ 32 ∷ []

-- between words and numbers, and at the end of a line
abbrev pub blank : List ℕ
blank = 32 ∷ []

abbrev pub line_end : List ℕ
line_end = 10 ∷ []

-- a call: `deal`, `begin`, `send`, `take`, `answer`
abbrev pub call_name : CallKind → List ℕ
call_name Deal = 100 ∷ 101 ∷ 97 ∷ 108 ∷ []
call_name Begin = 98 ∷ 101 ∷ 103 ∷ 105 ∷ 110 ∷ []
call_name Send = 115 ∷ 101 ∷ 110 ∷ 100 ∷ []
call_name Take = 116 ∷ 97 ∷ 107 ∷ 101 ∷ []
call_name Answer = 97 ∷ 110 ∷ 115 ∷ 119 ∷ 101 ∷ 114 ∷ []

-- ---- Lines

-- `malformed`, the whole text for an input that has not its form
abbrev pub malformed_line : List ℕ
malformed_line = malformed_word ++ line_end

-- `SENDER ROUND HEX`: a message
unfoldable pub message_line : ℕ → ℕ → List ℕ → List ℕ
message_line sender round bytes = decimal sender ++ blank ++ decimal round ++ blank ++ hex_bytes bytes ++ line_end

-- the round of message i, and how many bytes it has
abbrev pub round_of : ℕ → ℕ
round_of i = i / 2 + 1

abbrev pub size_of : Shape → ℕ → ℕ
size_of a i = message_size a (round_of i)

-- the lines of at most n messages, of which the next is number i, until no bytes are left: server and phone in turn, two in each round
unfoldable pub message_lines : Shape → ℕ → ℕ → List ℕ → List ℕ
message_lines a zero i bytes = []
message_lines a (suc n) i bytes =
    cond (eqb (length bytes) 0) []
    (message_line (i % 2) (round_of i) (take (size_of a i) bytes) ++ message_lines a n (suc i) (drop (size_of a i) bytes))

-- the party of a refused call: 0 the server, 1 the phone; `-` for the dealer
abbrev pub party_text : CallKind → Party → List ℕ
party_text Deal party = 45 ∷ []
party_text Begin party = decimal (side_number party)
party_text Send party = decimal (side_number party)
party_text Take party = decimal (side_number party)
party_text Answer party = decimal (side_number party)

-- `refused CALL PARTY NUMBER`: the first refusal
unfoldable pub refusal_line : Refused → List ℕ
refusal_line r = refused_word ++ call_name r.call ++ blank ++ party_text r.call r.party ++ blank ++ decimal r.number ++ line_end

-- what a side's answer call leaves in eight places
abbrev pub answer_left : Side → AfterAnswer
answer_left side = answer_call side (replicate 8 0)

-- `answer PARTY NUMBERS`: a side's answer
unfoldable pub numbers_line : Party → List ℕ → List ℕ
numbers_line party numbers = answer_word ++ decimal (side_number party) ++ numbers_text numbers ++ line_end

-- the answer, or the refusal of the call
unfoldable pub answer_or_refusal : Party → AfterAnswer → List ℕ
answer_or_refusal party a =
    cond (eqb a.result.refused 0)
    (numbers_line party (take a.result.length a.out))
    (refusal_line (record { call = Answer; party = party; number = a.result.refused }))

-- a side's line
abbrev pub answer_line : Party → Side → List ℕ
answer_line party side = answer_or_refusal party (answer_left side)

-- the server's line, then the phone's
unfoldable pub answers_text : Side → Side → List ℕ
answers_text server phone = answer_line Server server ++ answer_line Phone phone

-- `openings PARTY COUNT`: how many openings a side has accepted
unfoldable pub openings_line : Party → Side → List ℕ
openings_line party side = openings_word ++ decimal (side_number party) ++ blank ++ decimal (count_call side) ++ line_end

-- ---- The whole text

-- both answers; where a call before them was refused, its refusal
unfoldable pub result_text : Option Refused → Side → Side → List ℕ
result_text None server phone = answers_text server phone
result_text (Some refused) server phone = refusal_line refused

-- every message, the result, both opening counts
unfoldable pub run_text : Shape → Option Refused → Side → Side → List ℕ → List ℕ
run_text a refused server phone messages =
    message_lines a (2 * rounds) 0 messages ++ result_text refused server phone ++ openings_line Server server ++ openings_line Phone phone

-- a run as far as it was carried
abbrev pub transcript_text : Shape → Carried → List ℕ
transcript_text a x = run_text a x.refused x.parties.observer.side x.parties.peer.side x.messages

-- how many numbers stand before the inputs and the draw: set, kind, n, bound, serial, and the keys of both sides
abbrev pub head_length : ℕ
head_length = 5 + 2 * key_count

-- what they say: set, kind, n, bound, serial, the server's keys, the phone's keys
abbrev pub run_terms_in : List ℕ → RunTerms
run_terms_in numbers =
    record {
      settings = settings_with (get_or numbers 0 0) (get_or numbers 1 0) (get_or numbers 2 0) (get_or numbers 3 0);
      serial = get_or numbers 4 0;
      keys0 = take key_count (drop 5 numbers);
      keys1 = take key_count (drop (5 + key_count) numbers);
    }

-- a working slice as it is lent to the run
abbrev pub zero_work : List ℕ
zero_work = replicate (work_length key_count) 0

-- the text for the numbers of an input
unfoldable pub transcript_of : List ℕ → List ℕ
transcript_of numbers =
    cond (ltb (length numbers) head_length) malformed_line
    (transcript_text (run_terms_in numbers).settings.shape (executed (run_terms_in numbers) (drop head_length numbers) zero_work zero_work))

-- the text for an input that has been read to its end: its first `count` numbers, unless a byte was wrong
unfoldable pub text_for : Option ℕ → List ℕ → List ℕ
text_for None numbers = malformed_line
text_for (Some count) numbers = transcript_of (take count numbers)

-- no text is longer: two digits for each byte of a message, and room for all else
abbrev pub out_length : ℕ
out_length = 2 * run_bytes + 2048
