-- `message::put_fields` meets its contract.
use Rattle.std.proofs.Common.{◌≡◌, ◌+◌, ◌*◌, ◌∙◌, length, arith, rules, refl, sym}
use native.Mathlib.Nat.{mod-one}
use Rattle.message.proofs.Writing.{put_to, below_field, put-none, put-more, put-head, put_all}
use Rattle.message.proofs.Numbers.{Bytes}
use Rattle.message.specs.Fields.{first_bits}
use Rattle.message.proofs.put_fields.Goals as goal

pub loop-field-init : goal.loop-field-init
loop-field-init c =
    let a = c.args in
    let bytes : Bytes a.out.now = λ j. search rules in
    record {
      place = refl;
      written = put-none a.out.now bytes a.fields.now (omega arith);
      left = sym (mod-one (first_bits a.out.now 64));
    }

pub put_bits-requires-clause-head_value : goal.put_bits-requires-clause-head_value
put_bits-requires-clause-head_value c = (c.loop-field.invariant.left, below_field _ c.requires.fields_value c.loop-field.field-index)

pub loop-field-preserved : goal.loop-field-preserved
loop-field-preserved c =
    let a = c.args in
    let i = c.loop-field.field-index in
    let bytes : Bytes a.out.now = λ j. search rules in
    let small = c.requires.fields_value in
    let kept = c.loop-field.invariant in
    let out : c.put_bits.new.out ≡ put_to a.out.now a.fields.now (i + 1) =
    cc (put-more a.out.now bytes a.fields.now small (omega arith) i (omega arith)) in
    let place : c.loop-field.at + 23 ≡ 64 + 23 * (i + 1) = omega arith in
    record {
      place = place;
      written = out;
      left = rw (out, c.last_bits-head.ensures, place) (put-head a.out.now bytes a.fields.now small (omega arith) i _ (omega arith) (omega arith));
    }

pub returns : goal.returns
returns c =
    let a = c.args in
    let bytes : Bytes a.out.now = λ j. search rules in
    let e : c.loop-field.field-index ≡ length a.fields.now = omega arith in
    rw e at c.loop-field.invariant.written ∙ put_all a.out.now bytes a.fields.now
