-- `dealer::Dealing::deal_vector` meets its contract.
use Rattle.std.proofs.Common.{◌*◌, refl, arith}
use Rattle.settings.specs.Sizes.{width}
use Rattle.dealer.proofs.Vectors.{part-length, copied, negated, below_part, vector_room, cursor-run, next_one, wrote_zeros, wrote_one}
use Rattle.dealer.proofs.Dealing.deal_vector.Goals as goal

pub overflow_add-self : goal.overflow_add-self
overflow_add-self c = omega (arith, vector_room c.requires.0 _ c.requires.1 c.args.self.now.lent)

pub offset_bounds-self-at : goal.offset_bounds-self-at
offset_bounds-self-at c = omega (arith, vector_room c.requires.0 _ c.requires.1 c.args.self.now.lent)

pub slice_bounds-own-end : goal.slice_bounds-own-end
slice_bounds-own-end c = (vector_room c.requires.0 _ c.requires.1 c.args.self.now.lent).0

pub put_negatives-requires : goal.put_negatives-requires
put_negatives-requires c =
    let s = c.args.self.now in
    let r = vector_room c.requires.0 _ c.requires.1 s.lent in
    (part-length s.draw.now s.next (width * c.args.size) r.0 s.server.now (width * c.args.k) r.1, below_part _ _ _ _ s.lent.below)

pub put_place-requires : goal.put_place-requires
put_place-requires c = next_one c.requires.0 _ c.requires.1 c.if-one-size.true

pub returns-then-one-size : goal.returns-then-one-size
returns-then-one-size c =
    let s = c.args.self.now in
    let r = vector_room c.requires.0 _ c.requires.1 s.lent in
    let n = width * c.args.size in
    let p = copied s.draw.now s.next n r.0 s.phone.now (width * c.args.k) r.2 _ c.copy_from_slice.ensures.after in
    let v = negated s.draw.now s.next n r.0 s.server.now (width * c.args.k) r.1 _ c.put_negatives.ensures in
    let one = c.put_place.ensures.0 in
    let w = wrote_one c.requires.0 _ c.requires.1 s.lent v p c.if-one-size.true one.server_is one.phone_is in record {
      put = record { server_is = w.0; phone_is = w.1; context_is = one.context_is; same_server = one.same_server; same_phone = one.same_phone };
      next = rw c.put_place.ensures.1 (cursor-run c.requires.0 _ c.requires.1 c.args.size (omega arith));
    }

pub returns-else-one-size : goal.returns-else-one-size
returns-else-one-size c =
    let s = c.args.self.now in
    let r = vector_room c.requires.0 _ c.requires.1 s.lent in
    let n = width * c.args.size in
    let p = copied s.draw.now s.next n r.0 s.phone.now (width * c.args.k) r.2 _ c.copy_from_slice.ensures.after in
    let v = negated s.draw.now s.next n r.0 s.server.now (width * c.args.k) r.1 _ c.put_negatives.ensures in
    let w = wrote_zeros c.requires.0 _ c.requires.1 s.lent v p c.if-one-size.false in record {
      put = record { server_is = w.0; phone_is = w.1; context_is = refl; same_server = refl; same_phone = refl };
      next = cursor-run c.requires.0 _ c.requires.1 c.args.size (omega arith);
    }
