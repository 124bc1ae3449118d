-- Calls after which a message is due, at either side and in each round (DueIn).
use Prim.Native.Nat.{ℕ, zero, suc, ◌≤◌, ◌<◌}
use mathlib.Core.Path.{◌≡◌, refl, ap, ◌∙◌}
use mathlib.Core.List.{List, [], ◌∷◌, ◌++◌, map}
use native.Mathlib.Nat.{zero-add}
use native.Mathlib.Omega.{arith}
use Rattle.settings.specs.declared.Settings.{Settings}
use Rattle.settings.specs.Schedule.{rounds, send_step, take_step}
use Rattle.runs.specs.Records.{Call, Party, ScheduledCall}
use Rattle.runs.specs.Records.Party.{observer, peer}
use Rattle.runs.specs.Records.Call.{begin, send, take_latest}
use Rattle.runs.specs.Demands.{scheduled, out_for, rounds_from}
use Rattle.runs.specs.Progress.{Counts, none, sent_of, next, step_counts, counts_after}
use Rattle.runs.proofs.Carried.{before, send_goes, take_goes, rounds_go}
use Rattle.forgery.specs.Runs.{HonestRun, DueIn}
use Rattle.forgery.proofs.Tried.{with_receiver}
use Rattle.forgery.proofs.Runs.{due_by_counts, round_by_counts}

-- ---- The sides exchanged

abbrev other_party : Party → Party
other_party observer = peer
other_party peer = observer

abbrev exchanged : List ScheduledCall → List ScheduledCall
exchanged calls = map (λ (one : ScheduledCall). scheduled (other_party one.party) one.call) calls

abbrev swapped : Counts → Counts
swapped c = record { observer = c.peer; peer = c.observer }

module _ (k : ℕ) (s : Settings) where
  step_swapped : (c : Counts) (party : Party) (call : Call) → step_counts k s 1 (swapped c) (other_party party) call ≡ swapped (step_counts k s 0 c party call)
  unfolding step_counts
  step_swapped c observer call = refl
  step_swapped c peer call = refl

  counts_swapped : (calls : List ScheduledCall) (c : Counts) → counts_after k s 1 (swapped c) (exchanged calls) ≡ swapped (counts_after k s 0 c calls)
  unfolding counts_after
  counts_swapped [] c = refl
  counts_swapped (one ∷ calls) c =
      ap (λ (d : Counts). counts_after k s 1 d (exchanged calls)) (step_swapped c one.party one.call)
      ∙ counts_swapped calls (step_counts k s 0 c one.party one.call)

  counts_append : (calls more : List ScheduledCall) (c : Counts) → counts_after k s 0 c (calls ++ more) ≡ counts_after k s 0 (counts_after k s 0 c calls) more
  unfolding counts_after
  counts_append [] more c = refl
  counts_append (one ∷ calls) more c = counts_append calls more (step_counts k s 0 c one.party one.call)

  -- ---- R rounds in order, `observer` the server; then its message of round R + 1; then the phone's

  abbrev rounds_done : ℕ → List ScheduledCall
  rounds_done R = scheduled observer begin ∷ scheduled peer begin ∷ rounds_from k s 1 R

  abbrev server_sent : ℕ → List ScheduledCall
  server_sent R = rounds_done R ++ scheduled observer (send (out_for k s (suc R))) ∷ []

  abbrev phone_sent : ℕ → List ScheduledCall
  phone_sent R = server_sent R ++ scheduled peer take_latest ∷ scheduled peer (send (out_for k s (suc R))) ∷ []

  rounds-counted : (R : ℕ) → R ≤ rounds → counts_after k s 0 none (rounds_done R) ≡ before k s R
  unfolding counts_after step_counts next
  rounds-counted R l = rounds_go k s 1 0 R 0 refl (omega arith) ∙ ap (before k s) (zero-add R)

  server-counted : (R : ℕ) → R < rounds → counts_after k s 0 none (server_sent R) ≡ record { observer = suc (suc (send_step 0 R)); peer = suc (take_step 1 R) }
  unfolding counts_after step_counts
  server-counted R l =
      counts_append (rounds_done R) (scheduled observer (send (out_for k s (suc R))) ∷ []) none
      ∙ rw (rounds-counted R (omega arith), send_goes k s 0 (sent_of 1 (suc (take_step 1 R))) R (omega arith) l)

  phone-counted : (R : ℕ) → R < rounds → counts_after k s 0 none (phone_sent R) ≡ record { observer = suc (take_step 0 R); peer = suc (suc (send_step 1 R)) }
  unfolding counts_after step_counts
  phone-counted R l =
      let half : suc (suc (take_step 1 R)) ≡ suc (send_step 1 R) = omega arith in
      let own : send_step 1 R ≡ take_step 0 R = omega arith in
      counts_append (server_sent R) (scheduled peer take_latest ∷ scheduled peer (send (out_for k s (suc R))) ∷ []) none
      ∙ rw (
        server-counted R l,
        take_goes k s 1 (sent_of 0 (suc (suc (send_step 0 R)))) R (omega arith) l (omega arith),
        half,
        send_goes k s 1 (sent_of 0 (suc (suc (send_step 0 R)))) R (omega arith) l,
        own,
      )

-- ---- Either side

module _ (k : ℕ) (r : HonestRun k) (R : ℕ) (l : R < rounds) where
  due-at : (receiver : ℕ) (side2 : receiver < 2) → DueIn k (with_receiver k r receiver side2) R
  due-at zero side2 =
      let calls = exchanged (phone_sent k r.settings R) in
      let counted = counts_swapped k r.settings (phone_sent k r.settings R) none ∙ ap swapped (phone-counted k r.settings R l) in
      let run = with_receiver k r 0 side2 in
      record { calls = calls; due = due_by_counts k run calls R l counted; round = round_by_counts k run calls R l counted }
  due-at (suc zero) side2 =
      let calls = server_sent k r.settings R in
      let counted = server-counted k r.settings R l in
      let run = with_receiver k r 1 side2 in
      record { calls = calls; due = due_by_counts k run calls R l counted; round = round_by_counts k run calls R l counted }
  due-at (suc (suc n)) side2 = absurd (omega arith)

  pub due_in : DueIn k r R
  due_in = due-at r.receiver r.side2
