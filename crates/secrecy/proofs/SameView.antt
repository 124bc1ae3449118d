-- Two runs with the same opened numbers and the same input of the observer: the other side sends the same messages, and the joint states look the same.
-- The other side's keys may differ: what it sends are its shares and its parts under the observer's keys.
use mathlib.Core.Path.{◌≡◌, refl, sym, ap, ap₂, ◌∙◌}
use mathlib.Core.List.{List, [], ◌∷◌}
use mathlib.Core.Bool.{cond}
use Prim.Native.Nat.{ℕ, zero, suc, ◌+◌, ◌-◌, ◌≤◌, ◌<◌}
use native.Mathlib.Omega.{arith}
use lib.Dec.{eqb}
use lib.ListN.{get_or}
use Rattle.lists.specs.Lists.{list_to}
use Rattle.lists.proofs.Lists.{get_d_list_to, list_to_cong, join_cong}
use Rattle.field.specs.Field.{q}
use Rattle.field.proofs.Forms.{missing_same}
use Rattle.settings.specs.Sizes.{width_of, openings}
use Rattle.settings.specs.Schedule.{rounds, steps, sent_by}
use Rattle.message.specs.Message.{message_of, header_number, header_with}
use Rattle.column.specs.Theorems.{SlicesJoin}
use Rattle.opening.specs.Opening.{part_column}
use Rattle.settings.specs.declared.Settings.{Settings}
use Rattle.settings.specs.Settings.{params_in}
use Rattle.runs.specs.Records.{PartyInput, PartyState, JointState, ScheduledCall, joint_after, observations}
use Rattle.runs.specs.Progress.{message_at, party_at, party_from, none, counts_after, joint_at}
use Rattle.runs.proofs.PartyStates.{which_below}
use Rattle.runs.proofs.Both.{start_pace, pace_after}
use Rattle.runs.specs.Messages.{own_number, round_fields}
use Rattle.runs.proofs.Sharing.{sharing_below, part-inside, message-is}
use Rattle.runs.proofs.Opens.{Facing}
use Rattle.secrecy.proofs.Own.{SameNumbers, work-same, own_same}
use Rattle.secrecy.proofs.Lockstep.{Alike, events_same}

module _ (joins : SlicesJoin) (k : ℕ) (s : Settings) (serial : ℕ) (factors factors' : List ℕ)
    (N N' : ℕ → List ℕ) (same : SameNumbers N N') (plain plain' : ℕ → ℕ → ℕ) (h o o' : PartyInput)
    (v : Facing k s serial N factors plain h o) (v' : Facing k s serial N' factors' plain' h o') where
  faces : o.number ≡ o'.number
  faces = v.faces ∙ sym v'.faces

  -- the openings of a round
  plain_same : (R j : ℕ) → R < rounds → j < openings (params_in s) (suc R) → plain R j ≡ plain' R j
  plain_same R j l b =
      let at : (f : ℕ → ℕ) → get_or (list_to (openings (params_in s) (suc R)) f) j 0 ≡ f j = λ f. get_d_list_to (openings (params_in s) (suc R)) f j 0 b in
      sym (at (plain R)) ∙ ap (λ (ns : List ℕ). get_or ns j 0) (sym (v.opens R) ∙ same R l ∙ v'.opens R) ∙ at (plain' R)

  own_same_share : (R c j : ℕ) → R < rounds → own_number k s serial N h R c j ≡ own_number k s serial N' h R c j
  unfolding own_number
  own_same_share R c j l = rw (work-same k s serial N N' same h R (omega arith))

  -- in a column that adds up to the same multiple of the plain number
  share-same : (R c j : ℕ) → get_or factors c 0 ≡ get_or factors' c 0 → R < rounds → c < width_of k → j < openings (params_in s) (suc R)
      → own_number k s serial N o R c j ≡ own_number k s serial N' o' R c j
  share-same R c j e l b m =
      missing_same q (get_or factors c 0) (own_number k s serial N h R c j) (own_number k s serial N o R c j) (own_number k s serial N' o' R c j) (plain R j)
      (v.adds R c j b) (rw (e, own_same_share R c j l, plain_same R j l m) (v'.adds R c j b))
      (sharing_below k s serial N joins o v.peer R c j b m) (sharing_below k s serial N' joins o' v'.peer R c j b m)

  -- the columns of the observer's keys
  key-same : (i : ℕ) → i < k → get_or factors (part_column k (1 - o.number) i) 0 ≡ get_or factors' (part_column k (1 - o.number) i) 0
  key-same i b =
      let own : 1 - o.number ≡ h.number = omega (arith, v.faces, which_below h v.observer.which) in
      rw own (v.keyed i b ∙ sym (v'.keyed i b))

  -- its fields
  fields-same : (R : ℕ) → R < rounds → round_fields k s serial N o R ≡ round_fields k s serial N' o' R
  unfolding round_fields
  fields-same R l =
      join_cong 0 (openings (params_in s) (suc R)) _ _ (λ j m.
      ap₂ ◌∷◌ (share-same R 0 (0 + j) (v.unit ∙ sym v'.unit) l (omega arith) (omega arith))
      (list_to_cong k _ _ (λ i b.
      share-same R (part_column k (1 - o.number) i) (0 + j) (key-same i b) l (part-inside k s serial N o v.peer.which i b) (omega arith)
      ∙ ap (λ (number : ℕ). own_number k s serial N' o' R (part_column k (1 - number) i) (0 + j)) faces)))

  message-same : (R : ℕ) → R < rounds → message_at k s serial N o (suc R) ≡ message_at k s serial N' o' (suc R)
  message-same R l =
      message-is k s serial N joins o v.peer R l
      ∙ ap₂ (λ (number : ℕ) (fields : List ℕ). message_of (header_number (header_with number s (suc R) serial)) fields) faces (fields-same R l)
      ∙ sym (message-is k s serial N' joins o' v'.peer R l)

  latest_by : (sends : ℕ) → sends ≤ rounds → cond (eqb sends 0) [] (message_at k s serial N o sends) ≡ cond (eqb sends 0) [] (message_at k s serial N' o' sends)
  latest_by zero l = refl
  latest_by (suc R) l = rw (message-same R (omega arith))

  latest-after : (m : ℕ) → m ≤ steps → (party_at k s serial N o m).latest ≡ (party_at k s serial N' o' m).latest
  unfolding party_at
  latest-after m l =
      let u : o.number < 2 = which_below o v.peer.which in
      latest_by (sent_by o.number m) (omega arith)
      ∙ ap (λ (n : ℕ). cond (eqb (sent_by n m) 0) [] (message_at k s serial N' o' (sent_by n m))) faces

  -- its latest message, before it begins the one that it started with
  latest-same : (x : PartyState) (c : ℕ) → c ≤ suc steps → (party_from k s serial N o x c).latest ≡ (party_from k s serial N' o' x c).latest
  latest-same x zero l = refl
  latest-same x (suc m) l = latest-after m (omega arith)

  module _ (own : h.number < 2) (w : JointState)
      (runs : (calls : List ScheduledCall) → joint_after k s serial h o w calls ≡ joint_at k s serial N h o w (counts_after k s h.number none calls))
      (runs' : (calls : List ScheduledCall) → joint_after k s serial h o' w calls ≡ joint_at k s serial N' h o' w (counts_after k s h.number none calls)) where
    alike_at : (past : List ScheduledCall) → Alike (joint_at k s serial N h o w (counts_after k s h.number none past)) (joint_at k s serial N' h o' w (counts_after k s h.number none past))
    unfolding joint_at
    alike_at past =
        let c = counts_after k s h.number none past in
        let p = pace_after k s h.number own past none (start_pace h.number) in
        record { observer = own_same k s serial N N' same h own w.observer c.observer p.own-most; heard = latest-same w.peer c.peer p.other-most }

    pub log-same : (calls : List ScheduledCall) → observations k s serial h o w calls ≡ observations k s serial h o' w calls
    log-same calls = events_same k s serial h o o' w w (λ past. rw (runs past, runs' past) (alike_at past)) calls
