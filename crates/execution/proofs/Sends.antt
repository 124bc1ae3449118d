-- One side's send behind the messages so far.
use Prim.Native.Nat.{ℕ, ◌+◌, ◌-◌, ◌≤◌}
use mathlib.Core.Path.{◌≡◌, refl, sym, ap, ap₂, ◌∙◌}
use mathlib.Core.Bool.{Bool, true, false, cond}
use mathlib.Core.List.{List, [], ◌++◌, append-nil, append_assoc}
use native.Mathlib.Omega.{arith}
use lib.Dec.{eqb, leb}
use lib.ListN.{length, take, drop, length-replicate, length-drop, drop_of_length-le}
use lib.Seq.{take_at, take_all, drop-drop, length-take-le, length_front}
use borrow.Author.Tests.{le-leb, eq-eqb, ne_eqb, eqb-true}
use borrow.Rule.Slice.PartMut.{mid_of, post_of, put_mid, put_same, same_len_mid}
use Rattle.lists.specs.Answers.{ask}
use Rattle.lists.specs.Lists.{all_below, in_front}
use Rattle.field.specs.Field.{q}
use Rattle.settings.specs.Settings.{Params, params_in}
use Rattle.settings.specs.Sizes.{key_count, most_bytes, message_length, work_length}
use Rattle.settings.proofs.Sizes.{openings-most}
use Rattle.state.specs.declared.Side.{Side}
use Rattle.state.specs.State.{send_due}
use Rattle.state.proofs.States.{send-whole}
use Rattle.opening.specs.Opening.{message}
use Rattle.side.specs.Side.{Sent, AfterSend, send_no, sent_side, after_send, send_call}
use Rattle.side.proofs.Sending.{send-ready}
use Rattle.runs.proofs.Laws.{message-sized}
use Rattle.execution.specs.declared.Endpoint.{Endpoint}
use Rattle.std.specs.Prelude.{None, Some}
use Rattle.execution.specs.declared.Party.{Party}
use Rattle.execution.specs.declared.CallKind.TheVariants.{Send}
use Rattle.execution.specs.Execution.{message_room, Refused, refused_call}
use Rattle.execution.specs.Held.{party_of, Stands, send_of, message_sent, sent_party, SendsAt}
use Rattle.execution.proofs.Calls.{no-number, some-number}
use Rattle.execution.proofs.Messages.{front_stays, message-behind, message-stands, message-end}

-- every message fits
pub message-fits : (p : Params) (round : ℕ) → p.n ≤ 8 → message_length key_count p round ≤ most_bytes key_count
unfolding message_length
message-fits p round h = omega (arith, openings-most p round h)

-- a send's refusal is the same in any output with room for every message
pub same_no : (s : Side) (work out : List ℕ) → most_bytes key_count ≤ length out → send_no key_count s work out ≡ send_no key_count s work message_room
unfolding send_no ask
same_no s work out h = by (send_due s) refl
  where
    rest : List ℕ → ℕ
    rest out =
        ask (eqb (length work) (work_length key_count)) 5
        (ask (all_below q work) 6
        (ask (leb (message_length key_count (params_in s.settings) s.round) (length out)) 9
        0))

    by : (d : Bool) → send_due s ≡ d → ask d 8 (rest out) ≡ ask d 8 (rest message_room)
    by true e =
        let fits = message-fits (params_in s.settings) s.round (send-whole s e).ready.shape.most in
        rw (
          le-leb (message_length key_count (params_in s.settings) s.round) (length out) (omega (arith, fits)),
          le-leb (message_length key_count (params_in s.settings) s.round) (length message_room) (omega (arith, fits, length-replicate {A = ℕ} (most_bytes key_count) 0)),
        )
    by false e = refl

-- the two ends of a send, as it is in an output
module _ (s : Side) (work out : List ℕ) where
  pub sent-call : send_no key_count s work out ≡ 0
      → send_call key_count s work out
      ≡ after_send 0 (message_length key_count (params_in s.settings) s.round) (sent_side s) (in_front (message key_count s work) out)
  unfolding send_call
  sent-call e = rw e

  pub refused-call : (send_no key_count s work out ≡ 0 → ⊥) → send_call key_count s work out ≡ after_send (send_no key_count s work out) 0 s out
  unfolding send_call
  refused-call e = rw (ne_eqb _ 0 e)

  pub refused_no : (send_call key_count s work out).sent.refused ≡ send_no key_count s work out
  unfolding send_call
  refused_no = by (eqb (send_no key_count s work out) 0) refl
    where
      by : (b : Bool) → eqb (send_no key_count s work out) 0 ≡ b
          → (cond b
          (after_send 0 (message_length key_count (params_in s.settings) s.round) (sent_side s) (in_front (message key_count s work) out))
          (after_send (send_no key_count s work out) 0 s out)
          ).sent.refused
          ≡ send_no key_count s work out
      by true e = sym (eqb-true _ 0 e)
      by false e = refl

module _ (party : Party) (e : Endpoint) (work before : List ℕ) (at : ℕ) (stands : Stands e.from e.to at) (room : at + most_bytes key_count ≤ length before)
    (r : Sent) (out : List ℕ)
    (call : ◌≡◌ {A = AfterSend} (record { sent = r; out = out }) (send_call key_count e.side work (mid_of at (length before - at) before))) where
  abbrev part : List ℕ
  part = mid_of at (length before - at) before

  abbrev size : ℕ
  size = message_length key_count (params_in e.side.settings) e.side.round

  abbrev after : List ℕ
  after = put_mid at (length before - at) before out

  part_long : most_bytes key_count ≤ length part
  part_long = omega (arith, length-take-le (length before - at) (drop at before) (omega (arith, length-drop at before)), length-drop at before)

  no_is : r.refused ≡ send_no key_count e.side work message_room
  no_is = ap (λ (a : AfterSend). a.sent.refused) call ∙ refused_no e.side work part ∙ same_no e.side work part part_long

  -- what stands behind a message was there before
  tail_is : (m : List ℕ) (n : ℕ) → length m ≡ n → drop (length m) part ++ post_of at (length before - at) before ≡ drop (at + n) before
  tail_is m n f =
      let long : length (drop at before) ≡ length before - at = length-drop at before in
      let all : part ≡ drop at before = take_all (length before - at) (drop at before) (omega (arith, long)) in
      let none : post_of at (length before - at) before ≡ [] = drop_of_length-le (drop at before) {i = length before - at} (omega (arith, long)) in
      rw (all, none, f) (append-nil (drop n (drop at before)) ∙ drop-drop n at before)

  -- the latest message that a party has after its send
  abbrev latest_after : List ℕ
  latest_after = (sent_party (party_of e work before)).latest

  latest-sent : send_of e.side work ≡ after_send 0 size (sent_side e.side) (in_front (message key_count e.side work) message_room)
      → message_sent e.side work ≡ message key_count e.side work → latest_after ≡ message key_count e.side work
  latest-sent f g = let z : (send_of e.side work).sent.refused ≡ 0 = ap (λ (a : AfterSend). a.sent.refused) f in rw (eq-eqb _ 0 z) g

  latest_stays : send_of e.side work ≡ after_send (send_no key_count e.side work message_room) 0 e.side message_room
      → (send_no key_count e.side work message_room ≡ 0 → ⊥) → latest_after ≡ (party_of e work before).latest
  latest_stays f n =
      let z : (send_of e.side work).sent.refused ≡ send_no key_count e.side work message_room = ap (λ (a : AfterSend). a.sent.refused) f in
      rw (ne_eqb (send_of e.side work).sent.refused 0 (λ x. n (sym z ∙ x)))

  pub sends_at : None ≡ refused_call Send party r.refused
      → SendsAt party e work before at None (record { side = r.side; from = at; to = at + r.length }) (at + r.length) after
  unfolding refused_call
  sends_at accepted =
      let z : r.refused ≡ 0 = no-number Send party r.refused accepted in
      let no : send_no key_count e.side work message_room ≡ 0 = sym no_is ∙ z in
      let here : send_no key_count e.side work part ≡ 0 = same_no e.side work part part_long ∙ no in
      let is = call ∙ sent-call e.side work part here in
      let there = sent-call e.side work message_room no in
      let sized = message-sized key_count e.side work in
      let length_is : r.length ≡ size = ap (λ (a : AfterSend). a.sent.length) is in
      let side-is : r.side ≡ sent_side e.side = ap (λ (a : AfterSend). a.sent.side) is in
      let out-is : out ≡ in_front (message key_count e.side work) part = ap (λ (a : AfterSend). a.out) is in
      let fits = message-fits (params_in e.side.settings) e.side.round (send-ready key_count e.side work message_room no).kept.ready.shape.most in
      let said : message_sent e.side work ≡ message key_count e.side work = rw there (take_at (message key_count e.side work) _ size sized) in
      let tail : List ℕ = drop (length (message key_count e.side work)) part ++ post_of at (length before - at) before in
      let after_is : after ≡ take at before ++ (message key_count e.side work ++ tail) = rw out-is (rw append_assoc refl) in
      record {
        refused_is = rw there refl;
        party_is = ap₂ (λ (s : Side) (l : List ℕ). record { side = s; work = work; latest = l })
            (side-is ∙ sym (ap (λ (a : AfterSend). a.sent.side) there))
            (rw after_is (message-stands before at (message key_count e.side work) tail (omega arith) r.length (sized ∙ sym length_is)) ∙ sym (latest-sent there said));
        messages_are = rw (after_is, said) (message-behind before at (message key_count e.side work) tail (omega arith) r.length (sized ∙ sym length_is));
        front = rw after_is (front_stays before at (message key_count e.side work) tail (omega arith));
        behind = rw after_is (ap (λ (n : ℕ). drop (at + n) (take at before ++ (message key_count e.side work ++ tail))) (length_is ∙ sym sized)
            ∙ message-end before at (message key_count e.side work) tail (omega arith)) ∙ tail_is (message key_count e.side work) r.length (sized ∙ sym length_is);
        size = same_len_mid at (length before - at) before out (rw out-is
            (length_front part (message key_count e.side work) (length (message key_count e.side work))
            (sym (length-take-le (length (message key_count e.side work)) part (omega (arith, sized, fits, part_long))))));
        stands = record { begins = omega arith; ends = omega arith };
        grows = omega arith;
        most = omega (arith, length_is, fits);
      }

  pub refuses_at : (refused : Refused) → Some refused ≡ refused_call Send party r.refused
      → SendsAt party e work before at (Some refused) (record { side = r.side; from = e.from; to = e.to }) at after
  refuses_at refused f =
      let z : r.refused ≡ 0 → ⊥ = some-number Send party r.refused refused f in
      let no : send_no key_count e.side work message_room ≡ 0 → ⊥ = λ f. z (no_is ∙ f) in
      let here : send_no key_count e.side work part ≡ 0 → ⊥ = λ f. no (sym (same_no e.side work part part_long) ∙ f) in
      let is = call ∙ refused-call e.side work part here in
      let there = refused-call e.side work message_room no in
      let side-is : r.side ≡ e.side = ap (λ (a : AfterSend). a.sent.side) is in
      let out-is : out ≡ part = ap (λ (a : AfterSend). a.out) is in
      let after_is : after ≡ before = rw out-is (put_same at (length before - at) before) in
      record {
        refused_is = f ∙ ap (refused_call Send party) (no_is ∙ sym (refused_no e.side work message_room));
        party_is = ap₂ (λ (s : Side) (l : List ℕ). record { side = s; work = work; latest = l })
            (side-is ∙ sym (ap (λ (a : AfterSend). a.sent.side) there))
            (rw after_is refl ∙ sym (latest_stays there no));
        messages_are = rw (after_is, there) (sym (append-nil (take at before)));
        front = rw after_is refl;
        behind = rw after_is refl;
        size = rw after_is refl;
        stands = stands;
        grows = omega arith;
        most = omega arith;
      }

  -- a message that was sent is in the output
  pub sent-most : None ≡ refused_call Send party r.refused → at + r.length ≤ length before
  sent-most accepted = omega (arith, room, (sends_at accepted).most)
