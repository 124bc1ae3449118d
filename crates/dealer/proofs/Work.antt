-- Runs of places that are dealt: one place, two runs in a row, and the whole book.
use mathlib.Core.Path.{◌≡◌, refl, sym, ap, subst, ◌∙◌}
use mathlib.Core.List.{List}
use Prim.Native.Nat.{ℕ, suc, ◌+◌, ◌*◌, ◌/◌, ◌%◌, ◌≤◌, ◌<◌}
use native.Mathlib.Nat.{add-zero}
use native.Mathlib.Omega.{arith}
use native.Mathlib.Decide.{dec_lt}
use lib.Dec.{eqb}
use lib.ListN.{length, get_or}
use Rattle.lists.specs.Answers.{bit}
use Rattle.lists.specs.Lists.{list_to}
use Rattle.lists.proofs.Fill.{fill_none, fill-join, fill-same, whole_is}
use Rattle.field.specs.Field.{q, sub, mul}
use Rattle.book.specs.Book.{drawn, phone_number}
use Rattle.book.specs.Books.{server_number}
use Rattle.dealer.specs.Work.{DealContext, dealt_into, params_for, cursor_for, server_for, phone_for, Lent, Next, Draws, Vector}
use Rattle.dealer.specs.Runs.{context_of, At, Put, Wrote}
use Rattle.dealer.specs.declared.Dealing.{Dealing}
use Rattle.book.proofs.Draws.{draw_at-more, draw_at-inside}
use Rattle.book.proofs.Books.{value-drawn}
use Rattle.settings.specs.declared.Shape.{Shape}
use Rattle.settings.specs.Settings.{params_of}
use Rattle.settings.specs.Sizes.{width}
use Rattle.settings.proofs.Sizes.{shared-most, draw-high, draw-bound}

-- ---- lists

dealt-none : (s : List ℕ) (f : ℕ → ℕ) (k : ℕ) → s ≡ dealt_into s f k 0
unfolding dealt_into
dealt-none s f k = sym (fill_none s (width * k) _)

dealt-join : (s : List ℕ) (f : ℕ → ℕ) (k a b : ℕ) → dealt_into (dealt_into s f k a) f (k + a) b ≡ dealt_into s f k (a + b)
unfolding dealt_into
dealt-join s f k a b =
    let i : width * (k + a) ≡ width * k + width * a = omega arith in
    let j : width * (a + b) ≡ width * a + width * b = omega arith in
    rw (i, j) (fill-join s (width * k) (width * a) (width * b) (λ (x : ℕ). f (width * k + x)) _ (λ x h. ap f (omega arith)))

pub dealt-whole : (s : List ℕ) (f : ℕ → ℕ) (n : ℕ) → length s ≡ n * width → dealt_into s f 0 n ≡ list_to (n * width) f
unfolding dealt_into
dealt-whole s f n h =
    let j : width * n ≡ n * width = omega arith in
    rw j (fill-same s 0 (n * width) _ f (λ x l. ap f (omega arith)) ∙ whole_is s (n * width) f h)

-- ---- runs

-- what holds of what a deal is told holds after a run of places, and before it
pub carried : (P : DealContext → Type 0) {old new : Dealing} {e count : ℕ} → Put old e count new → P (context_of old) → P (context_of new)
carried P u h = subst P (sym u.context_is) h

pub back : (P : DealContext → Type 0) {old new : Dealing} {e count : ℕ} → Put old e count new → P (context_of new) → P (context_of old)
back P u h = subst P u.context_is h

-- a place, named by what a deal is told, whose numbers are next after a run
pub at_next : (f : DealContext → ℕ) {old new : Dealing} {e count : ℕ} → Wrote old e count new → f (context_of old) ≡ e + count → At new (f (context_of new))
at_next f {old} {new} w h = carried (λ (o : DealContext). new.next ≡ cursor_for o (f o)) w.put (w.next ∙ ap (cursor_for (context_of old)) (sym h))

pub wrote_none : {deal : Dealing} {e : ℕ} → At deal e → Wrote deal e 0 deal
wrote_none {deal} {e} h =
    let o = context_of deal in
    record {
      put = record {
        server_is = dealt-none deal.server.now (server_for o) e;
        phone_is = dealt-none deal.phone.now (phone_for o) e;
        context_is = refl;
        same_server = refl;
        same_phone = refl;
      };
      next = h ∙ ap (cursor_for o) (sym (add-zero e));
    }

-- two runs in a row are one; the second's place and size are named by what a deal is told
put_then : {s₀ s₁ s₂ : Dealing} {k a b m : ℕ} → Put s₀ k a s₁ → Put s₁ m b s₂ → m ≡ k + a → Put s₀ k (a + b) s₂
put_then {s₀} {s₁} {s₂} {k} {a} {b} {m} u v e =
    let o = context_of s₀ in
    let w = subst (λ (c : DealContext). (s₂.server.now ≡ dealt_into s₁.server.now (server_for c) m b) × (s₂.phone.now ≡ dealt_into s₁.phone.now (phone_for c) m b))
    u.context_is (v.server_is, v.phone_is) in
    record {
      server_is = w.0 ∙ rw (e, u.server_is) (dealt-join s₀.server.now (server_for o) k a b);
      phone_is = w.1 ∙ rw (e, u.phone_is) (dealt-join s₀.phone.now (phone_for o) k a b);
      context_is = v.context_is ∙ u.context_is;
      same_server = v.same_server ∙ u.same_server;
      same_phone = v.same_phone ∙ u.same_phone;
    }

pub wrote_then : (place count : DealContext → ℕ) {s₀ s₁ s₂ : Dealing} {k a : ℕ} → Wrote s₀ k a s₁ → Wrote s₁ (place (context_of s₁)) (count (context_of s₁)) s₂
    → place (context_of s₀) ≡ k + a → Wrote s₀ k (a + count (context_of s₀)) s₂
wrote_then place count {s₀} {s₁} {s₂} {k} {a} u v e =
    let o = context_of s₀ in
    let same = u.put.context_is in
    let p = ap place same ∙ e in
    let n = ap count same in
    record {
      put = rw n at (put_then u.put v.put p);
      next = subst (λ (c : DealContext). s₂.next ≡ cursor_for c (place c + count c)) same v.next ∙ ap (cursor_for o) (omega arith);
    }

-- the same run, its place and its size said otherwise
pub wrote_as : {old new : Dealing} {k m a b : ℕ} → Wrote old k a new → k ≡ m → a ≡ b → Wrote old m b new
wrote_as u e f = rw (← e, ← f) u

-- ---- one place

module _ (o : DealContext) (k at v : ℕ) (h : Next o k at v) (c : ℕ) (l : c < width) where
  -- column c of place k, as the book has it
  abbrev x : ℕ
  x = width * k + c

  pub phone-column : get_or o.draw (at + c) 0 ≡ phone_for o x
  unfolding phone_for phone_number
  phone-column =
      let i : x / width ≡ k = omega arith in
      let j : x % width ≡ c = omega arith in
      rw (i, j, h.begins)

  pub server-column : sub q (mul q (get_or o.factors c 0) v) (get_or o.draw (at + c) 0) ≡ server_for o x
  unfolding server_for server_number phone_number
  server-column =
      let i : x / width ≡ k = omega arith in
      let j : x % width ≡ c = omega arith in
      rw (i, j, h.begins, h.is) (omega arith)

-- a draw is short
pub draw_most : {shape : Shape} {draw server phone : List ℕ} → Lent shape draw server phone → length draw ≤ 12024
draw_most {shape} {draw} l = go (dec_lt 0 shape.kind)
  where
    go : Dec (0 < shape.kind) → length draw ≤ 12024
    go (yes h) = omega (arith, draw-bound (params_of shape) width (omega arith), shared-most shape l.ready.sets l.ready.most)
    go (no h) = omega (arith, draw-high (params_of shape) width (omega arith), shared-most shape l.ready.sets l.ready.most)

-- the draw and both books have room for a place
pub room : {o : DealContext} {server phone : List ℕ} {k at v : ℕ} → Lent o.shape o.draw server phone → Next o k at v
    → (at + width ≤ length o.draw) × (width * k + width ≤ length server) × (width * k + width ≤ length phone) × (length o.draw ≤ 12024)
room {o} {k = k} l h = omega (arith, draw_at-inside (params_for o) width k h.inside, draw_most l)

-- behind a place of a known value, the next place's numbers are next
pub after_place : {o : DealContext} {k at v : ℕ} → Next o k at v → at + width ≡ cursor_for o (k + 1)
after_place {o} {k} h = let e : k + 1 ≡ suc k = omega arith in rw e (omega (arith, draw_at-more (params_for o) width k h.inside))

-- ---- a drawn number

module _ {o : DealContext} {k at : ℕ} (h : Draws o k) (e : at ≡ cursor_for o k) where
  pub next_drawn : Next o k (at + 1) (get_or o.draw at 0)
  unfolding bit drawn
  next_drawn =
      record {
        inside = h.inside;
        begins = rw (h.draws, e);
        is = rw e (sym (value-drawn (params_for o) width o.draw k h.draws));
      }

  -- it and the place's own numbers lie within the draw
  pub drawn-room : {server phone : List ℕ} → Lent o.shape o.draw server phone → at + 1 + width ≤ length o.draw
  drawn-room l = let r = room l next_drawn in omega arith

-- ---- a vector

module _ {o : DealContext} {k size d : ℕ} (h : Vector o k size d) (j at v : ℕ) (l : j < size) where
  pub next_vector : at ≡ cursor_for o (k + j) → v ≡ bit (eqb j d) → Next o (k + j) at v
  unfolding bit
  next_vector e f =
      record {
        inside = omega (arith, h.inside);
        begins = rw (h.draws j l) (e ∙ sym (add-zero _));
        is = f ∙ h.is j l;
      }

-- the cursor of a place that is named otherwise
pub cursor_as : (o : DealContext) {at k m : ℕ} → at ≡ cursor_for o k → k ≡ m → at ≡ cursor_for o m
cursor_as o e f = e ∙ ap (cursor_for o) f
