-- What a method of the dealer's work promises: a run of places is dealt, and all else is as it was.
use Rattle.std.specs.Prelude.{◌≡◌, ℕ, ◌+◌}
use Rattle.settings.specs.Settings.{Params, params_of}
use Rattle.dealer.specs.declared.Dealing.{Dealing}
use Rattle.dealer.specs.Work.{DealContext, dealt_into, cursor_for, server_for, phone_for}

module _ (deal : Dealing) where
  abbrev pub params : Params
  params = params_of deal.shape

  abbrev pub context_of : DealContext
  context_of = record { shape = deal.shape; factors = deal.factors; draw = deal.draw.now }

  -- place e's numbers are next
  abbrev pub At : ℕ → Type 0
  At e = deal.next ≡ cursor_for context_of e

-- `count` places from place e on are written
pub record Put (old : Dealing) (e count : ℕ) (new : Dealing) : Type 0 where
  pub server_is : new.server.now ≡ dealt_into old.server.now (server_for (context_of old)) e count
  pub phone_is : new.phone.now ≡ dealt_into old.phone.now (phone_for (context_of old)) e count
  pub context_is : context_of new ≡ context_of old
  pub same_server : new.server.ghost_name ≡ old.server.ghost_name
  pub same_phone : new.phone.ghost_name ≡ old.phone.ghost_name

-- they are written, and the numbers of the place behind them are next
pub record Wrote (old : Dealing) (e count : ℕ) (new : Dealing) : Type 0 where
  pub put : Put old e count new
  pub next : new.next ≡ cursor_for (context_of old) (e + count)
