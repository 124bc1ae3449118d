-- The whole text: what stands in front of a slice that has room for any, and the text of an input.
use Prim.Native.Nat.{ℕ, ◌-◌, ◌≤◌, ◌<◌, min}
use mathlib.Core.Path.{◌≡◌, refl, ap}
use Rattle.std.specs.Prelude.{Some}
use mathlib.Core.List.{List}
use native.Mathlib.Omega.{arith}
use borrow.Author.Tests.{lt-ltb, le-ltb}
use lib.ListN.{length, take, drop, length-drop}
use lib.Seq.{take_all, take-append_seam}
use Rattle.text.specs.Text.{text_at, puts}
use Rattle.text.proofs.Puts.{front-put, within-put}
use Rattle.execution.specs.declared.RunTerms.{RunTerms}
use Rattle.execution.specs.declared.Execution.{Execution}
use Rattle.execution.specs.Execution.{told, Carried, executed}
use Rattle.execution.specs.Held.{run_bytes, Executes}
use Rattle.transcript.specs.Transcript.{malformed_line, head_length, run_terms_in, run_text, zero_work, transcript_of, text_for, out_length}
use Rattle.transcript.proofs.Lengths.{length_run}
use Rattle.lists.proofs.Lists.{take_min}

-- where there is room for any text, the text is what stands in front
pub in-front : (out bs now : List ℕ) (r : ℕ) → text_at now r ≡ puts (text_at out 0) bs → length bs ≤ out_length → out_length ≤ length out → (take r now ≡ bs) × (r ≤ length now)
in-front out bs now r e l h = (front-put out 0 bs now r e (omega arith), within-put out 0 bs now r e (omega arith))

-- ---- The numbers of an input

pub too_few : (numbers : List ℕ) → length numbers < head_length → malformed_line ≡ transcript_of numbers
unfolding transcript_of
too_few numbers h = rw (lt-ltb (length numbers) head_length h) refl

module _ (numbers : List ℕ) (h : head_length ≤ length numbers) (terms : RunTerms) (e : terms ≡ run_terms_in numbers) (x : Execution) (before after : List ℕ)
    (run : Executes (executed terms (take (length numbers - head_length) (drop head_length numbers)) zero_work zero_work) x before after) where
  abbrev end : Carried
  end = executed terms (take (length numbers - head_length) (drop head_length numbers)) zero_work zero_work

  messages_are : take x.length after ≡ end.messages
  messages_are = rw (run.messages_are, run.length_is) (take-append_seam end.messages _)

  abbrev text : List ℕ
  text = run_text terms.settings.shape (told x.refused) x.server.side x.phone.side (take x.length after)

  pub text_is : text ≡ transcript_of numbers
  unfolding transcript_of
  text_is =
      let all = take_all (length numbers - head_length) (drop head_length numbers) (omega (arith, length-drop head_length numbers)) in
      rw (le-ltb (length numbers) head_length h, run.refused_is, run.server_is, run.phone_is, messages_are, all, e) refl

  pub text_fits : length before ≡ run_bytes → length text ≤ out_length
  text_fits l =
      length_run terms.settings.shape (told x.refused) x.server.side x.phone.side (take x.length after)
      (rw messages_are (omega (arith, l, run.fits)))

-- ---- An input that has been read

pub good_input : (count : ℕ) (numbers : List ℕ) (n : ℕ) → n ≡ min count (length numbers) → transcript_of (take n numbers) ≡ text_for (Some count) numbers
unfolding text_for
good_input count numbers n m = ap transcript_of (take_min count n numbers m)
