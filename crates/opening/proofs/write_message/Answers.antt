-- `opening::write_message` meets its contract.
use mathlib.Core.Path.{◌≡◌, ap, ◌∙◌}
use mathlib.Core.List.{List}
use Prim.Native.Nat.{ℕ, ◌+◌, ◌*◌, ◌^◌}
use native.Mathlib.Omega.{arith}
use lib.ListN.{length, take}
use lib.Seq.{length-take-le}
use Rattle.lists.specs.Lists.{all_below, list_to, in_front}
use Rattle.lists.proofs.Fill.{take_filled}
use Rattle.settings.specs.Sizes.{key_count, openings, field_bits}
use Rattle.settings.specs.Settings.{params_in}
use Rattle.opening.specs.Work.{outgoing_field}
use Rattle.opening.proofs.Sending.{header_fits, bytes_are, fields_small, message-is}
use Rattle.opening.proofs.write_message.Goals as goal

pub put_message-requires : goal.put_message-requires
put_message-requires c =
    let openings-in = c.openings_in-count in
    let outgoing-fields = c.outgoing_fields in
    let p = c.requires in
    let a = c.args in
    let s = a.side in
    let work = a.work.now in
    let count = openings-in.result in
    let few = openings-in.ensures.1 in
    let l = outgoing-fields.new.fields in
    let long : length (take ((1 + key_count) * count) l) ≡ (1 + key_count) * count = length-take-le ((1 + key_count) * count) l (omega (arith, outgoing-fields.auto.fields)) in
    let fs : take ((1 + key_count) * count) l ≡ list_to ((1 + key_count) * openings (params_in s.settings) s.round) (outgoing_field s work) =
    take_filled l _ ((1 + key_count) * count) (outgoing_field s work) outgoing-fields.ensures (omega arith)
    ∙ ap (λ (n : ℕ). list_to ((1 + key_count) * n) (outgoing_field s work)) openings-in.ensures.0 in
    record {
      header_fits = header_fits s c.new-header.result c.new-header.ensures p.whole;
      fields_in_bounds = (omega (arith, bytes_are s (take ((1 + key_count) * count) l) (outgoing_field s work) fs, p.work_len.2), omega arith);
      fields_value = ap (all_below (2 ^ field_bits)) fs ∙ fields_small work p.work_len.1 s _;
    }

pub returns : goal.returns
returns c =
    let a = c.args in
    let openings-in = c.openings_in-count in
    let outgoing-fields = c.outgoing_fields in
    let put-message = c.put_message in
    let new = c.new-header in
    let s = a.side in
    let work = a.work.now in
    let count = openings-in.result in
    let few = openings-in.ensures.1 in
    let l = outgoing-fields.new.fields in
    let fs : take ((1 + key_count) * count) l ≡ list_to ((1 + key_count) * openings (params_in s.settings) s.round) (outgoing_field s work) =
    take_filled l _ ((1 + key_count) * count) (outgoing_field s work) outgoing-fields.ensures (omega arith)
    ∙ ap (λ (n : ℕ). list_to ((1 + key_count) * n) (outgoing_field s work)) openings-in.ensures.0 in (
      put-message.ensures.0 ∙ bytes_are s (take ((1 + key_count) * count) l) (outgoing_field s work) fs,
      put-message.ensures.1 ∙ ap (λ (m : List ℕ). in_front m a.out.now) (message-is s work new.result (take ((1 + key_count) * count) l) new.ensures fs),
    )
