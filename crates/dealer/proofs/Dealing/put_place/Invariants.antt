-- `dealer::Dealing::put_place` meets its contract.
use Rattle.std.proofs.Common.{◌≡◌, ℕ, ◌+◌, ◌*◌}
use Rattle.lists.specs.Lists.{fill}
use Rattle.settings.specs.Sizes.{width}
use Rattle.dealer.specs.Work.{Next, server_for, phone_for}
use Rattle.dealer.specs.Runs.{context_of}
use Rattle.dealer.proofs.Dealing.put_place.Given as goal

abbrev pub invariant-loop-c : goal.invariant-loop-c
invariant-loop-c l =
    let o = context_of l.initial.self in
    let place = width * l.k in record {
      next : Next (context_of l.self) l.k l.at l.value;
      server_is : l.self.server.now ≡ fill l.initial.self.server.now place l.c (λ (x : ℕ). server_for o (place + x));
      phone_is : l.self.phone.now ≡ fill l.initial.self.phone.now place l.c (λ (x : ℕ). phone_for o (place + x));
      context_is : context_of l.self ≡ o;
      same_server : l.self.server.ghost_name ≡ l.initial.self.server.ghost_name;
      same_phone : l.self.phone.ghost_name ≡ l.initial.self.phone.ghost_name;
      same_next : l.self.next ≡ l.initial.self.next;
    }
