-- What the questions of a deal say where none is answered no, and what the call is then.
use mathlib.Core.Path.{◌≡◌, sym}
use mathlib.Core.Bool.{◌&&◌}
use mathlib.Core.List.{List}
use Prim.Native.Nat.{ℕ, ◌*◌}
use lib.Dec.{eqb}
use lib.ListN.{length}
use borrow.Author.Tests.{eqb-true, ne_eqb}
use Rattle.lists.specs.Lists.{all_below}
use Rattle.lists.proofs.Questions.{both_yes, passed}
use Rattle.field.specs.Field.{q}
use Rattle.settings.specs.declared.Shape.{Shape}
use Rattle.settings.specs.Settings.{params_of}
use Rattle.settings.specs.Questions.{keys_ok}
use Rattle.settings.specs.Sizes.{key_count, width_of, shared, draw_length}
use Rattle.settings.proofs.Ready.{shape-ready, shape_rest}
use Rattle.book.specs.Books.{multipliers, server_book, phone_book}
use Rattle.dealer.specs.Deal.{deal_no, deal_call, Passed}
use Rattle.dealer.specs.Work.{shared_for, server_for, phone_for, Lent}
use Rattle.dealer.specs.Runs.{params, context_of, Wrote}
use Rattle.dealer.specs.declared.Dealing.{Dealing}
use Rattle.dealer.proofs.Work.{dealt-whole}

module _ (k : ℕ) (a : Shape) (keys0 keys1 draw server phone : List ℕ) where
  pub door : deal_no k a keys0 keys1 draw server phone ≡ 0 → Passed k a keys0 keys1 draw server phone
  unfolding deal_no
  door e =
      let p = params_of a in
      let w = width_of k in
      let q4 = passed (keys_ok keys0 && keys_ok keys1) 3 _ (shape_rest a _ e) in
      let q5 = passed (eqb (length draw) (draw_length p w) && eqb (length server) (shared p * w) && eqb (length phone) (shared p * w)) 4 _ q4.1 in
      let q6 = passed (all_below q draw) 5 _ q5.1 in
      let keys = both_yes (keys_ok keys0) (keys_ok keys1) q4.0 in
      let both = both_yes (eqb (length draw) (draw_length p w) && eqb (length server) (shared p * w)) (eqb (length phone) (shared p * w)) q5.0 in
      let two = both_yes (eqb (length draw) (draw_length p w)) (eqb (length server) (shared p * w)) both.0 in
      record {
        ready = shape-ready a _ e;
        keys0_ok = keys.0;
        keys1_ok = keys.1;
        draw_size = eqb-true _ _ two.0;
        server_size = eqb-true _ _ two.1;
        phone_size = eqb-true _ _ both.1;
        below = q6.0;
      }

  -- a refusal leaves the lent books as they were
  pub refusal : (code : ℕ) → code ≡ deal_no k a keys0 keys1 draw server phone → ¬ (code ≡ 0)
      → record { refused = code; server = server; phone = phone } ≡ deal_call k a keys0 keys1 draw server phone
  unfolding deal_call
  refusal code e h = rw (← e, ne_eqb code 0 h)

module _ (a : Shape) (keys0 keys1 draw server phone : List ℕ) (passes : 0 ≡ deal_no key_count a keys0 keys1 draw server phone) where
  -- what the work is told of its slices
  pub lent : Lent a draw server phone
  lent =
      let h = door key_count a keys0 keys1 draw server phone (sym passes) in
      record { ready = h.ready; draw_size = h.draw_size; server_size = h.server_size; phone_size = h.phone_size; below = h.below }

-- the work deals both books: who lent them finds so in them
pub dealt : {old new : Dealing} (keys0 keys1 : List ℕ) → 0 ≡ deal_no key_count old.shape keys0 keys1 old.draw.now old.server.now old.phone.now
    → old.factors ≡ multipliers keys0 keys1 → Wrote old 0 (shared (params old)) new → (server phone : List ℕ)
    → (old.server.ghost_name ≡ new.server.ghost_name → server ≡ new.server.now) → (old.phone.ghost_name ≡ new.phone.ghost_name → phone ≡ new.phone.now)
    → record { refused = 0; server = server; phone = phone } ≡ deal_call key_count old.shape keys0 keys1 old.draw.now old.server.now old.phone.now
unfolding deal_call server_book phone_book server_for phone_for
dealt {old} keys0 keys1 passes f w server phone s p =
    let o = context_of old in
    let put = w.put in
    rw (
      ← passes,
      ← f,
      s (sym put.same_server),
      p (sym put.same_phone),
      put.server_is,
      put.phone_is,
      dealt-whole old.server.now (server_for o) (shared_for o) old.lent.server_size,
      dealt-whole old.phone.now (phone_for o) (shared_for o) old.lent.phone_size,
    )
