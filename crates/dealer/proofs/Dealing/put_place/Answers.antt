-- `dealer::Dealing::put_place` meets its contract.
use Rattle.std.proofs.Common.{◌≡◌, ◌+◌, ◌*◌, ◌<◌, refl, sym, arith}
use Rattle.lists.proofs.Fill.{fill_none, stored}
use Rattle.settings.specs.Sizes.{width}
use Rattle.dealer.specs.Work.{dealt_into, server_for}
use Rattle.dealer.specs.Runs.{context_of}
use Rattle.dealer.proofs.Work.{room, phone-column, server-column}
use Rattle.dealer.proofs.Dealing.put_place.Goals as goal

pub loop-c-init : goal.loop-c-init
loop-c-init c =
    record {
      next = c.requires;
      server_is = sym (fill_none _ _ _);
      phone_is = sym (fill_none _ _ _);
      context_is = refl;
      same_server = refl;
      same_phone = refl;
      same_next = refl;
    }

pub overflow_add-own : goal.overflow_add-own
overflow_add-own c = omega (arith, room c.loop-c.self.lent c.loop-c.invariant.next)

pub offset_bounds-self-at : goal.offset_bounds-self-at
offset_bounds-self-at c = omega (arith, room c.loop-c.self.lent c.loop-c.invariant.next)

pub bounds-self-at : goal.bounds-self-at
bounds-self-at c = omega (arith, room c.loop-c.self.lent c.loop-c.invariant.next)

pub loop-c-preserved : goal.loop-c-preserved
loop-c-preserved c =
    let a = c.args in
    let i = c.loop-c.invariant in
    let o = context_of c.loop-c.self in
    let l : c.loop-c.c < width = omega arith in
    let x : c.sub_mod.result ≡ server_for o (width * a.k + c.loop-c.c) = cc (server-column o a.k a.at a.value i.next c.loop-c.c l) in record {
      next = i.next;
      server_is = stored _ _ _ _ _ _ i.server_is (rw i.context_is at x);
      phone_is = stored _ _ _ _ _ _ i.phone_is (rw i.context_is at (phone-column o a.k a.at a.value i.next c.loop-c.c l));
      context_is = i.context_is;
      same_server = i.same_server;
      same_phone = i.same_phone;
      same_next = i.same_next;
    }

pub returns : goal.returns
unfolding dealt_into
returns c =
    let i = c.loop-c.invariant in
    let e : c.loop-c.c ≡ width = omega arith in (
      record {
        server_is = rw e at i.server_is;
        phone_is = rw e at i.phone_is;
        context_is = i.context_is;
        same_server = i.same_server;
        same_phone = i.same_phone;
      },
      i.same_next,
    )
