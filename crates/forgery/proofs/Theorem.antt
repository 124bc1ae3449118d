-- How often a forger is believed (Odds), for any number of keys, and for four.
use Prim.Native.Nat.{ℕ}
use mathlib.Core.Path.{◌≡◌}
use mathlib.Core.Logic.{◌⊎◌, inl, inr}
use mathlib.Core.List.{List}
use lib.Dec.{lit<}
use lib.ListN.{length}
use Rattle.settings.specs.Sizes.{key_count}
use Rattle.runs.specs.Records.{ScheduledCall}
use Rattle.forgery.specs.Choices.{choices, AtMostOne, None}
use Rattle.forgery.specs.Runs.{HonestRun, dealt, after, honest_message, Due, Formed, ShareDiffers, PartDiffers, Another, undetected}
use Rattle.forgery.specs.Theorems.{DrawsFollow, Forged, Odds, FourKeys}
use Rattle.forgery.proofs.Choices.{all-choices, none-most}
use Rattle.forgery.proofs.Limit.{limit}
use Rattle.forgery.proofs.Takes.{taken-formed, share_law, part_law}
use Rattle.forgery.proofs.Others.{difference}
use Rattle.forgery.proofs.Others.Difference.{share_differs, part_differs}
use Rattle.forgery.proofs.Tried.{tried_run, draw-back, draw_as_dealt}
use Rattle.forgery.proofs.Rounds.{due_in}
use Rattle.forgery.proofs.Runs.{honest-bytes, record_is, takes_under, side_under}

module _ (k : ℕ) (r : HonestRun k) (calls : List ScheduledCall) where
  share : Due k r calls → (forged : List ℕ) → Formed k r calls forged → ShareDiffers k r calls forged → AtMostOne k (undetected k r calls forged)
  share due forged formed d =
      share_law k (after k r calls (dealt k r)).peer.side (λ tried. (after k r calls tried).peer.side) (λ tried. (after k r calls tried).peer.work) (honest_message k r calls)
      (side_under k r calls due) (takes_under k r calls due) forged formed d.opening d.inside d.share

  part : Due k r calls → (forged : List ℕ) → Formed k r calls forged → PartDiffers k r calls forged → None k (undetected k r calls forged)
  part due forged formed d =
      part_law k (after k r calls (dealt k r)).peer.side (λ tried. (after k r calls tried).peer.side) (λ tried. (after k r calls tried).peer.work) (honest_message k r calls)
      (side_under k r calls due) (takes_under k r calls due) forged formed d.opening d.inside d.share d.key d.key_inside d.part

  module _ (due : Due k r calls) (forged : List ℕ) (a : Another k r calls forged) where
    no_other_way : ShareDiffers k r calls forged ⊎ PartDiffers k r calls forged
    no_other_way =
        let side = (after k r calls (dealt k r)).peer.side in
        let work = (after k r calls (dealt k r)).peer.work in
        elim (difference k side forged (honest_message k r calls) a.bytes (honest-bytes k r calls) a.formed (taken-formed k side work (honest_message k r calls) due) a.other) [
          | share_differs o l differs ↦ inl (record { opening = o; inside = l; share = differs })
          | part_differs o l same key m differs ↦ inr (record { opening = o; inside = l; share = same; key = key; key_inside = m; part = differs })
        ]

    any_other : AtMostOne k (undetected k r calls forged)
    any_other =
        elim no_other_way [
          | inl d ↦ share due forged a.formed d
          | inr d ↦ none-most k (undetected k r calls forged) (part due forged a.formed d)
        ]

  forged_messages : Forged k r calls
  forged_messages =
      record {
        same_record = record_is k r calls;
        unchanged = takes_under k r calls;
        share = share;
        part = part;
        no_other_way = no_other_way;
        any_other = any_other;
      }

draws_follow : (k : ℕ) (r : HonestRun k) → DrawsFollow k r
draws_follow k r = record { as_dealt = draw_as_dealt k r; possible = λ tried c. (tried_run k r tried c).possible; back = draw-back k r }

pub odds : (k : ℕ) → Odds k
odds k = record { all = all-choices k; limit = limit k; draws = draws_follow k; runs = forged_messages k; each_round = due_in k }

pub four_keys : FourKeys
four_keys = record { odds = odds key_count; among = among; bits = (rw among (lit< tt), rw among (lit< tt)) }
  where
    among : length (choices key_count) ≡ 4932445659784343776590299136
    among = (all-choices key_count).size
