-- What holds of an honest run under a tried choice of the receiver's keys, at either side: it is an honest run, opens the same numbers, and
-- its sender is handed the same.
use Prim.Native.Nat.{ℕ, zero, suc, ◌-◌, ◌<◌}
use mathlib.Core.Path.{◌≡◌, refl, ap}
use mathlib.Core.List.{List}
use native.Mathlib.Omega.{arith}
use Rattle.settings.specs.Settings.{terms_of}
use Rattle.settings.specs.Sizes.{width_of}
use Rattle.column.specs.Run.{plain_opened}
use Rattle.runs.specs.Records.{PartyInput}
use Rattle.runs.specs.Demands.{Fixed, Possible, observer_input}
use Rattle.forgery.specs.Choices.{Choice}
use Rattle.forgery.specs.Runs.{HonestRun, dealt, server_keys, phone_keys, draw_following, draw_under, sender_input, receiver_input}
use Rattle.forgery.proofs.Follows.{possible, numbers-same, server-same, back, as_dealt}

module _ (k : ℕ) (r : HonestRun k) where
  -- the sender's number, what its begin is handed, and the numbers that the rounds open, as dealt
  abbrev pub number : ℕ
  number = 1 - r.receiver

  abbrev pub sender : PartyInput
  sender = observer_input k r.settings number r.keys0 r.keys1 r.inputs r.draw

  abbrev pub numbers : ℕ → List ℕ
  numbers = plain_opened (terms_of r.settings) (width_of k) r.draw r.secret

  pub record Tried (tried : List ℕ) : Type 0 where
    pub fixed : Fixed k r.settings r.serial (server_keys k r tried) (phone_keys k r tried)
    pub possible : Possible k r.settings (draw_under k r tried)
    pub opens : plain_opened (terms_of r.settings) (width_of k) (draw_under k r tried) r.secret ≡ numbers
    pub sender_is : sender_input k r tried ≡ sender
    pub keys_are : (receiver_input k r tried).keys ≡ tried

-- the run, its receiver named: a case for each side
module _ (k : ℕ) (r : HonestRun k) where
  abbrev pub with_receiver : (receiver : ℕ) → receiver < 2 → HonestRun k
  with_receiver receiver side2 =
      record {
        settings = r.settings;
        serial = r.serial;
        keys0 = r.keys0;
        keys1 = r.keys1;
        fixed = r.fixed;
        receiver = receiver;
        side2 = side2;
        secret = r.secret;
        secret_ok = r.secret_ok;
        inputs = r.inputs;
        inputs_ok = r.inputs_ok;
        draw = r.draw;
        draw_ok = r.draw_ok;
        start = r.start;
        start_ok = r.start_ok;
      }

  server_tried : (tried : List ℕ) → Choice k tried → Fixed k r.settings r.serial tried r.keys1
  server_tried tried c =
      let f = r.fixed in
      record { settings = f.settings; above = f.above; fits = f.fits; server_count = c.size; phone_count = f.phone_count; server_keys = c.range; phone_keys = f.phone_keys }

  phone_tried : (tried : List ℕ) → Choice k tried → Fixed k r.settings r.serial r.keys0 tried
  phone_tried tried c =
      let f = r.fixed in
      record { settings = f.settings; above = f.above; fits = f.fits; server_count = f.server_count; phone_count = c.size; server_keys = f.server_keys; phone_keys = c.range }

  tried_at : (receiver : ℕ) (side2 : receiver < 2) (tried : List ℕ) → Choice k tried → Tried k (with_receiver receiver side2) tried
  tried_at zero side2 tried c = record { fixed = server_tried tried c; possible = r.draw_ok; opens = refl; sender_is = refl; keys_are = refl }
  tried_at (suc zero) side2 tried c =
      record {
        fixed = phone_tried tried c;
        possible = possible k r.settings r.keys0 r.keys1 r.draw r.draw_ok tried;
        opens = numbers-same k r.settings r.keys0 r.keys1 r.draw r.draw_ok tried r.secret;
        sender_is = ap (λ (book : List ℕ). record { number = 0; keys = r.keys0; inputs = r.inputs; book = book })
            (server-same k r.settings r.keys0 r.keys1 r.draw r.draw_ok tried);
        keys_are = refl;
      }
  tried_at (suc (suc n)) side2 tried c = absurd (omega arith)

  pub tried_run : (tried : List ℕ) → Choice k tried → Tried k r tried
  tried_run tried c = tried_at r.receiver r.side2 tried c

  -- the keys that were dealt
  dealt-at : (receiver : ℕ) (side2 : receiver < 2) → Choice k (dealt k (with_receiver receiver side2))
  dealt-at zero side2 = record { size = r.fixed.server_count; range = r.fixed.server_keys }
  dealt-at (suc zero) side2 = record { size = r.fixed.phone_count; range = r.fixed.phone_keys }
  dealt-at (suc (suc n)) side2 = absurd (omega arith)

  pub dealt_choice : Choice k (dealt k r)
  dealt_choice = dealt-at r.receiver r.side2

  draw-at : (receiver : ℕ) (side2 : receiver < 2) → draw_under k (with_receiver receiver side2) (dealt k (with_receiver receiver side2)) ≡ r.draw
  draw-at zero side2 = refl
  draw-at (suc zero) side2 = as_dealt k r.settings r.keys0 r.keys1 r.draw r.draw_ok
  draw-at (suc (suc n)) side2 = absurd (omega arith)

  back_at : (receiver : ℕ) (side2 : receiver < 2) (tried : List ℕ) → let run = with_receiver receiver side2 in
      draw_following k r.settings receiver (server_keys k run tried) (phone_keys k run tried) (draw_under k run tried) (dealt k run) ≡ r.draw
  back_at zero side2 tried = refl
  back_at (suc zero) side2 tried = back k r.settings r.keys0 r.keys1 r.draw r.draw_ok tried
  back_at (suc (suc n)) side2 tried = absurd (omega arith)

  pub draw-back : (tried : List ℕ) → draw_following k r.settings r.receiver (server_keys k r tried) (phone_keys k r tried) (draw_under k r tried) (dealt k r) ≡ r.draw
  draw-back tried = back_at r.receiver r.side2 tried

  pub draw_as_dealt : draw_under k r (dealt k r) ≡ r.draw
  draw_as_dealt = draw-at r.receiver r.side2
