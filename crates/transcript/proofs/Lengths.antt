-- No text is longer than `out_length`.
use Prim.Native.Nat.{ℕ, zero, suc, ◌+◌, ◌*◌, ◌%◌, ◌≤◌}
use mathlib.Core.Path.{◌≡◌, refl}
use mathlib.Core.Bool.{Bool, true, false, cond}
use mathlib.Core.List.{List, [], ◌∷◌, ◌++◌}
use native.Mathlib.Omega.{arith}
use lib.Dec.{eqb}
use borrow.Author.Tests.{eqb-true}
use lib.ListN.{length, take, drop, replicate, length-append, length-take, length-drop}
use Rattle.lists.specs.Lists.{in_front}
use Rattle.text.specs.Text.{decimal, numbers_text, hex_bytes}
use Rattle.text.proofs.Decimals.{length-decimal}
use Rattle.settings.specs.declared.Shape.{Shape}
use Rattle.settings.specs.Schedule.{rounds}
use Rattle.state.specs.declared.Side.{Side}
use Rattle.state.specs.State.{answer_no, places_of, held_answer, after_answer, answer_call, count_call}
use Rattle.state.proofs.States.{answer-ready}
use Rattle.std.specs.Prelude.{Option, None, Some}
use Rattle.execution.specs.declared.Party.{Party}
use Rattle.execution.specs.declared.Party.TheVariants.{Server, Phone}
use Rattle.execution.specs.Execution.{side_number, Refused}
use Rattle.execution.specs.declared.CallKind.{CallKind}
use Rattle.execution.specs.declared.CallKind.TheVariants.{Deal, Begin, Send, Take, Answer}
use Rattle.execution.specs.Held.{run_bytes}
use Rattle.transcript.specs.Transcript.{call_name, party_text, round_of, size_of, message_line, message_lines, refusal_line, numbers_line}
use Rattle.transcript.specs.Transcript.{answer_left, answer_or_refusal, answer_line, answers_text, openings_line, result_text, run_text, out_length}

length_hex : (bytes : List ℕ) → length (hex_bytes bytes) ≡ 2 * length bytes
unfolding hex_bytes
length_hex [] = omega arith
length_hex (b ∷ bytes) = omega (arith, length_hex bytes)

length-message : (sender round : ℕ) (bytes : List ℕ) → length (message_line sender round bytes) ≤ 43 + 2 * length bytes
unfolding message_line
length-message sender round bytes = simp length-append (omega (arith, length-decimal sender, length-decimal round, length_hex bytes))

length-messages : (a : Shape) (n i : ℕ) (bytes : List ℕ) → length (message_lines a n i bytes) ≤ n * 43 + 2 * length bytes
unfolding message_lines
length-messages a zero i bytes = omega arith
length-messages a (suc n) i bytes = go (eqb (length bytes) 0) (length-messages a n (suc i) (drop (size_of a i) bytes))
  where
    go : (t : Bool) → length (message_lines a n (suc i) (drop (size_of a i) bytes)) ≤ n * 43 + 2 * length (drop (size_of a i) bytes)
        → length (cond t [] (message_line (i % 2) (round_of i) (take (size_of a i) bytes) ++ message_lines a n (suc i) (drop (size_of a i) bytes))) ≤ suc n * 43 + 2 * length bytes
    go true ih = omega arith
    go false ih =
        omega (
          arith,
          ih,
          length-append (message_line (i % 2) (round_of i) (take (size_of a i) bytes)) (message_lines a n (suc i) (drop (size_of a i) bytes)),
          length-message (i % 2) (round_of i) (take (size_of a i) bytes),
          length-take (size_of a i) bytes,
          length-drop (size_of a i) bytes,
        )

length_name : (call : CallKind) → length (call_name call) ≤ 6
length_name Deal = omega arith
length_name Begin = omega arith
length_name Send = omega arith
length_name Take = omega arith
length_name Answer = omega arith

length-party : (call : CallKind) (party : Party) → length (party_text call party) ≤ 20
length-party Deal party = omega arith
length-party Begin party = length-decimal (side_number party)
length-party Send party = length-decimal (side_number party)
length-party Take party = length-decimal (side_number party)
length-party Answer party = length-decimal (side_number party)

length-refusal : (r : Refused) → length (refusal_line r) ≤ 60
unfolding refusal_line
length-refusal r = simp length-append (omega (arith, length_name r.call, length-party r.call r.party, length-decimal r.number))

length-numbers : (ns : List ℕ) → length (numbers_text ns) ≤ length ns * 21
unfolding numbers_text
length-numbers [] = omega arith
length-numbers (n ∷ ns) = omega (arith, length-append (decimal n) (numbers_text ns), length-decimal n, length-numbers ns)

length_numbers_line : (party : Party) (ns : List ℕ) → length (numbers_line party ns) ≤ 28 + length ns * 21
unfolding numbers_line
length_numbers_line party ns = simp length-append (omega (arith, length-decimal (side_number party), length-numbers ns))

-- an answer has at most eight numbers
places-most : (side : Side) → (answer_left side).result.length ≤ 8
unfolding answer_call
places-most side = go (eqb (answer_no side (replicate 8 0)) 0) refl
  where
    go : (t : Bool) → eqb (answer_no side (replicate 8 0)) 0 ≡ t
        → (cond t (after_answer 0 (places_of side) (in_front (held_answer side) (replicate 8 0))) (after_answer (answer_no side (replicate 8 0)) 0 (replicate 8 0))).result.length ≤ 8
    go true e = (answer-ready side (replicate 8 0) (eqb-true (answer_no side (replicate 8 0)) 0 e)).0
    go false e = omega arith

length-answer : (party : Party) (side : Side) → length (answer_line party side) ≤ 200
unfolding answer_or_refusal
length-answer party side = go (eqb (answer_left side).result.refused 0)
  where
    go : (t : Bool)
        → length (cond t (numbers_line party (take (answer_left side).result.length (answer_left side).out))
        (refusal_line (record { call = Answer; party = party; number = (answer_left side).result.refused }))) ≤ 200
    go true =
        omega (
          arith,
          length_numbers_line party (take (answer_left side).result.length (answer_left side).out),
          length-take (answer_left side).result.length (answer_left side).out,
          places-most side,
        )
    go false = omega (arith, length-refusal (record { call = Answer; party = party; number = (answer_left side).result.refused }))

length_answers : (server phone : Side) → length (answers_text server phone) ≤ 400
unfolding answers_text
length_answers server phone = omega (arith, length-append (answer_line Server server) (answer_line Phone phone), length-answer Server server, length-answer Phone phone)

length-result : (refused : Option Refused) (server phone : Side) → length (result_text refused server phone) ≤ 400
unfolding result_text
length-result None server phone = length_answers server phone
length-result (Some refused) server phone = omega (arith, length-refusal refused)

length-openings : (party : Party) (side : Side) → length (openings_line party side) ≤ 51
unfolding openings_line
length-openings party side = simp length-append (omega (arith, length-decimal (side_number party), length-decimal (count_call side)))

pub length_run : (a : Shape) (refused : Option Refused) (server phone : Side) (messages : List ℕ) → length messages ≤ run_bytes → length (run_text a refused server phone messages) ≤ out_length
unfolding run_text
length_run a refused server phone messages h =
    simp length-append
    (omega (arith, h, length-messages a (2 * rounds) 0 messages, length-result refused server phone, length-openings Server server, length-openings Phone phone))
