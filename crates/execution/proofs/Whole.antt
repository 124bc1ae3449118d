-- The whole run: from the deal, both begins and the rounds.
use Prim.Native.Nat.{ℕ, ◌+◌, ◌*◌, ◌-◌, ◌≤◌, min}
use mathlib.Core.Path.{◌≡◌, refl, sym, ap, ap₂, ◌∙◌}
use mathlib.Core.Bool.{Bool, true, false, cond, ◌&&◌}
use mathlib.Core.List.{List, [], ◌∷◌, ◌++◌}
use native.Mathlib.Omega.{arith}
use lib.Dec.{eqb, leb}
use lib.ListN.{length, take, drop, replicate, length-replicate, length-drop, take-append-drop}
use lib.Seq.{take_all, drop-drop, length-take-le}
use borrow.Author.Tests.{eqb-true, ltb-true, leb-true}
use borrow.Rule.Slice.PartMut.{mid_of}
use Rattle.std.specs.Prelude.{Option, None, Some}
use Rattle.lists.proofs.Lists.{take_min, drop_min}
use Rattle.lists.proofs.Questions.{both_yes}
use Rattle.settings.specs.declared.Shape.{Shape}
use Rattle.settings.specs.Settings.{params_of}
use Rattle.settings.specs.Questions.{is_bit, count_ok, shape_ok}
use Rattle.settings.specs.Sizes.{key_count, width_of, shared, book_size, input_size}
use Rattle.settings.proofs.Sizes.{shared-most}
use Rattle.settings.specs.Schedule.{rounds}
use Rattle.dealer.specs.Deal.{Dealt, deal_no, deal_call}
use Rattle.side.specs.Side.{begin_call}
use Rattle.runs.specs.Records.{PartyInput, run_of, book_of}
use Rattle.runs.specs.Records.Party.{observer, peer}
use Rattle.runs.specs.Records.Call.{begin}
use Rattle.runs.specs.Demands.{scheduled}
use Rattle.execution.specs.declared.RunTerms.{RunTerms}
use Rattle.execution.specs.declared.Party.TheVariants.{Server, Phone}
use Rattle.execution.specs.declared.CallKind.TheVariants.{Deal, Begin}
use Rattle.execution.specs.declared.RefusedCall.{RefusedCall}
use Rattle.execution.specs.declared.Endpoint.{Endpoint}
use Rattle.execution.specs.declared.Execution.{Execution}
use Rattle.execution.specs.declared.WorkSpace.{WorkSpace}
use Rattle.execution.specs.Execution.{Refused, refused_call, Carried, round_calls, run_calls, server_inputs, phone_inputs, draw_in, server_input, phone_input, deal_no_of, run_after, dealt_run}
use Rattle.execution.specs.Held.{carried_of, Fits, run_bytes, book_length, run_at, before_begin, LeftBy, RoundsRun, Carries, Plays, Deals, EndsAs}
use Rattle.execution.proofs.Calls.{no-number, stays, stopped_all, then, ended, server-begins, phone-begins}

-- ---- The parts of the numbers, as far as there are so many

module _ (a : Shape) (numbers : List ℕ) (first second : ℕ) (e : first ≡ min (input_size a) (length numbers))
    (f : second ≡ first + min (input_size a) (length numbers - first)) where
  pub server-part : take first numbers ≡ server_inputs a numbers
  server-part = take_min (input_size a) first numbers e

  rest_is : drop first numbers ≡ drop (input_size a) numbers
  rest_is = drop_min (input_size a) first numbers e

  rest_long : length (drop (input_size a) numbers) ≡ length numbers - first
  rest_long = length-drop (input_size a) numbers ∙ omega arith

  pub phone-part : mid_of first (second - first) numbers ≡ phone_inputs a numbers
  phone-part =
      let g : second - first ≡ min (input_size a) (length (drop (input_size a) numbers)) = omega (arith, rest_long) in
      ap (take (second - first)) rest_is ∙ take_min (input_size a) (second - first) (drop (input_size a) numbers) g

  pub draw-drop : drop second numbers ≡ draw_in a numbers
  draw-drop =
      let g : second - first ≡ min (input_size a) (length (drop (input_size a) numbers)) = omega (arith, rest_long) in
      let h : first + (second - first) ≡ second = omega arith in
      ap (λ (n : ℕ). drop n numbers) (sym h)
      ∙ sym (drop-drop (second - first) first numbers)
      ∙ ap (drop (second - first)) rest_is
      ∙ drop_min (input_size a) (second - first) (drop (input_size a) numbers) g

  pub draw-part : mid_of second (length numbers - second) numbers ≡ draw_in a numbers
  draw-part = take_all (length numbers - second) (drop second numbers) (omega (arith, length-drop second numbers)) ∙ draw-drop

-- ---- The begins and the rounds

module _ (t : RunTerms) (numbers book0 book1 : List ℕ) (x : Execution) (w : WorkSpace) (refused : Option Refused) (one : Endpoint) (work0 : List ℕ)
    (begins : LeftBy Begin Server (begin_call key_count x.server.side (run_at t Server) (server_inputs t.settings.shape numbers) book0 w.server) x.server refused one work0) where
  abbrev x₁ : Execution
  x₁ = record x { server = one }

  abbrev w₁ : WorkSpace
  w₁ = record w { server = work0 }

  module _ (h o : PartyInput) (hr : run_of t.settings t.serial h ≡ run_at t Server) (hi : h.inputs ≡ server_inputs t.settings.shape numbers) (hb : h.book ≡ book0) where
    first-begun : Carries t.settings t.serial h o (scheduled observer begin ∷ []) 0 x w refused x₁ w₁
    first-begun = server-begins t.settings t.serial h o x w refused one work0 (rw (hr, hi, hb) begins)

  -- the server's begin is refused
  pub first_refused : (refusal : Refused) → refused ≡ Some refusal → Plays t numbers book0 book1 x w refused x₁ w₁
  first_refused refusal e =
      record {
        carries = λ h o hr hi hb or oi ob.
            rw e (ended t.settings t.serial h o (scheduled observer begin ∷ []) (scheduled peer begin ∷ round_calls rounds) 0 (2 * rounds) x x₁ w w₁ refusal (rw e at (first-begun h o hr hi hb)));
      }

  module _ (accepted : refused ≡ None) (refused' : Option Refused) (two : Endpoint) (work1 : List ℕ)
      (begins' : LeftBy Begin Phone (begin_call key_count x.phone.side (run_at t Phone) (phone_inputs t.settings.shape numbers) book1 w.phone) x.phone refused' two work1) where
    abbrev x₂ : Execution
    x₂ = record x₁ { phone = two }

    abbrev w₂ : WorkSpace
    w₂ = record w₁ { phone = work1 }

    module _ (h o : PartyInput) (hr : run_of t.settings t.serial h ≡ run_at t Server) (hi : h.inputs ≡ server_inputs t.settings.shape numbers) (hb : h.book ≡ book0)
        (or : run_of t.settings t.serial o ≡ run_at t Phone) (oi : o.inputs ≡ phone_inputs t.settings.shape numbers) (ob : o.book ≡ book1) where
      both-begun : Carries t.settings t.serial h o (scheduled observer begin ∷ scheduled peer begin ∷ []) 0 x w refused' x₂ w₂
      both-begun =
          then t.settings t.serial h o (scheduled observer begin ∷ []) (scheduled peer begin ∷ []) 0 0 x x₁ x₂ w w₁ w₂ refused'
          (rw accepted at (first-begun h o hr hi hb))
          (phone-begins t.settings t.serial h o x₁ w₁ refused' two work1 (rw (or, oi, ob) begins'))

    -- the phone's begin is refused
    pub second_refused : (refusal : Refused) → refused' ≡ Some refusal → Plays t numbers book0 book1 x w refused' x₂ w₂
    second_refused refusal e =
        record {
          carries = λ h o hr hi hb or oi ob.
              rw e
              (ended t.settings t.serial h o (scheduled observer begin ∷ scheduled peer begin ∷ []) (round_calls rounds) 0 (2 * rounds) x x₂ w w₂ refusal
              (rw e at (both-begun h o hr hi hb or oi ob)));
        }

    pub plays : (last : Option Refused) (z : Execution) (u : WorkSpace) → refused' ≡ None → RoundsRun rounds x₂ w₂ last z u → Plays t numbers book0 book1 x w last z u
    plays last z u e ran =
        record {
          carries = λ h o hr hi hb or oi ob.
              then t.settings t.serial h o (scheduled observer begin ∷ scheduled peer begin ∷ []) (round_calls rounds) 0 (2 * rounds) x x₂ z w w₂ u last
              (rw e at (both-begun h o hr hi hb or oi ob)) (ran.carries t.settings t.serial h o);
        }

    pub both_fit : Fits x w.messages (2 * rounds) → Fits x₂ w₂.messages (2 * rounds)
    both_fit f = record { server = stays _ x.server one x.length f.server begins.endpoint_is; phone = stays _ x.phone two x.length f.phone begins'.endpoint_is; room = f.room }

-- ---- The end

pub ends : (c : Carried) (refused : Option Refused) (x : Execution) (w : WorkSpace) (before : List ℕ) → carried_of refused x w ≡ c → x.length ≤ length w.messages
    → length w.messages ≡ length before → drop x.length w.messages ≡ drop x.length before → EndsAs c refused x before w.messages
ends c refused x w before e long same behind =
    let messages = ap (λ (y : Carried). y.messages) e in
    let size : x.length ≡ length c.messages = sym (length-take-le x.length w.messages long) ∙ ap length messages in
    record {
      refused_is = ap (λ (y : Carried). y.refused) e;
      server_is = ap (λ (y : Carried). y.parties.observer.side) e;
      phone_is = ap (λ (y : Carried). y.parties.peer.side) e;
      server_latest = ap (λ (y : Carried). y.parties.observer.latest) e;
      phone_latest = ap (λ (y : Carried). y.parties.peer.latest) e;
      length_is = size;
      messages_are = sym (take-append-drop x.length w.messages) ∙ ap₂ (λ (y z : List ℕ). y ++ z) messages (behind ∙ ap (λ (n : ℕ). drop n before) size);
      fits = omega (arith, long, size, same);
    }

-- the first refusal may be noted in the execution
pub ends-noted : (c : Carried) (refused : Option Refused) (x : Execution) (before after : List ℕ) (noted : Option RefusedCall) → EndsAs c refused x before after
    → EndsAs c refused (record x { refused = noted }) before after
ends-noted c refused x before after noted e =
    record {
      refused_is = e.refused_is;
      server_is = e.server_is;
      phone_is = e.phone_is;
      server_latest = e.server_latest;
      phone_latest = e.phone_latest;
      length_is = e.length_is;
      messages_are = e.messages_are;
      fits = e.fits;
    }

pub start_fits : (bytes : List ℕ) → run_bytes ≤ length bytes → Fits before_begin bytes (2 * rounds)
start_fits bytes room =
    record { server = record { begins = omega arith; ends = omega arith }; phone = record { begins = omega arith; ends = omega arith }; room = omega (arith, room) }

-- a run with any books, from the first begin
pub run_ends : (t : RunTerms) (numbers book0 book1 : List ℕ) (w : WorkSpace) (refused : Option Refused) (x : Execution) (u : WorkSpace) (h o : PartyInput)
    → run_bytes ≤ length w.messages → Plays t numbers book0 book1 before_begin w refused x u
    → run_of t.settings t.serial h ≡ run_at t Server → h.inputs ≡ server_inputs t.settings.shape numbers → h.book ≡ book0
    → run_of t.settings t.serial o ≡ run_at t Phone → o.inputs ≡ phone_inputs t.settings.shape numbers → o.book ≡ book1
    → EndsAs (run_after t 0 h o w.server w.phone) refused x w.messages u.messages
unfolding refused_call
run_ends t numbers book0 book1 w refused x u h o room p hr hi hb or oi ob =
    let c = p.carries h o hr hi hb or oi ob in
    let f = c.fits 0 (start_fits w.messages room) in
    ends (run_after t 0 h o w.server w.phone) refused x u w.messages c.is (omega (arith, f.room)) c.size c.behind

-- ---- The deal

-- the deal asks no more of its lent books than their lengths
same_books : (a : Shape) (keys0 keys1 draw b0 b1 : List ℕ) → length b0 ≡ book_size a → length b1 ≡ book_size a
    → deal_no key_count a keys0 keys1 draw b0 b1 ≡ deal_no key_count a keys0 keys1 draw (replicate (book_size a) 0) (replicate (book_size a) 0)
unfolding deal_no
same_books a keys0 keys1 draw b0 b1 e f = rw (e, f, length-replicate {A = ℕ} (book_size a) 0)

module _ (t : RunTerms) (draw b0 b1 : List ℕ) (e0 : length b0 ≡ book_size t.settings.shape) (e1 : length b1 ≡ book_size t.settings.shape)
    (number : ℕ) (book0 book1 : List ℕ)
    (deal : ◌≡◌ {A = Dealt} (record { refused = number; server = book0; phone = book1 })
    (deal_call key_count t.settings.shape t.keys0 t.keys1 draw b0 b1)) where
  abbrev asked : ℕ
  asked = deal_no key_count t.settings.shape t.keys0 t.keys1 draw b0 b1

  number-is : number ≡ asked
  unfolding deal_call
  number-is = ap (λ (d : Dealt). d.refused) deal ∙ by asked (eqb asked 0) refl _ _ _ _
    where
      by : (n : ℕ) (b : Bool) → eqb n 0 ≡ b → (x y z w : List ℕ) → (cond {A = Dealt} b (record { refused = 0; server = x; phone = y }) (record { refused = n; server = z; phone = w })).refused ≡ n
      by n true e x y z w = sym (eqb-true n 0 e)
      by n false e x y z w = refl

  module _ (refused : Option Refused) (answer : refused ≡ refused_call Deal Server number) where
    none-asked : refused ≡ None → asked ≡ 0
    none-asked e = sym number-is ∙ no-number Deal Server number (sym e ∙ answer)

    server-book : refused ≡ None → book0 ≡ book_of key_count t.settings 0 t.keys0 t.keys1 draw
    unfolding deal_call
    server-book e = ap (λ (x : Dealt). x.server) (rw (none-asked e) at deal)

    phone-book : refused ≡ None → book1 ≡ book_of key_count t.settings 1 t.keys0 t.keys1 draw
    unfolding deal_call
    phone-book e = ap (λ (x : Dealt). x.phone) (rw (none-asked e) at deal)

    -- the books stand in front of two arrays
    pub deals : (all0 all1 : List ℕ) → take (book_size t.settings.shape) all0 ≡ book0 → take (book_size t.settings.shape) all1 ≡ book1 → Deals t draw refused all0 all1
    deals all0 all1 f g =
        record {
          refused_is = answer ∙ ap (refused_call Deal Server) (number-is ∙ same_books t.settings.shape t.keys0 t.keys1 draw b0 b1 e0 e1);
          server_is = λ e. f ∙ server-book e;
          phone_is = λ e. g ∙ phone-book e;
        }

-- a deal that is refused
pub deal-refused : (t : RunTerms) (numbers book0 book1 : List ℕ) (refusal : Refused) (w : WorkSpace) → Deals t (draw_in t.settings.shape numbers) (Some refusal) book0 book1
    → EndsAs (dealt_run t numbers w.server w.phone) (Some refusal) before_begin w.messages w.messages
deal-refused t numbers book0 book1 refusal w d =
    ends (dealt_run t numbers w.server w.phone) (Some refusal) before_begin w w.messages
    (rw (← d.refused_is)
    (sym (stopped_all t.settings t.serial (server_input t numbers) (phone_input t numbers) refusal (carried_of (Some refusal) before_begin w) run_calls refl)))
    (omega arith) refl refl

pub dealt_ends : (t : RunTerms) (numbers book0 book1 : List ℕ) (w : WorkSpace) (refused : Option Refused) (x : Execution) (u : WorkSpace)
    → run_bytes ≤ length w.messages → Deals t (draw_in t.settings.shape numbers) None book0 book1
    → Plays t numbers (take (book_size t.settings.shape) book0) (take (book_size t.settings.shape) book1) before_begin w refused x u
    → EndsAs (dealt_run t numbers w.server w.phone) refused x w.messages u.messages
dealt_ends t numbers book0 book1 w refused x u room d p =
    let zero : deal_no_of t numbers ≡ 0 = no-number Deal Server (deal_no_of t numbers) d.refused_is in
    rw zero
    (run_ends t numbers _ _ w refused x u (server_input t numbers) (phone_input t numbers) room p refl refl (sym (d.server_is refl)) refl refl (sym (d.phone_is refl)))

-- ---- Sizes

-- a book fits the slice that holds it
pub book-most : (a : Shape) → book_size a ≤ book_length
unfolding book_size shape_ok
book-most a = by (shape_ok a) refl
  where
    by : (b : Bool) → shape_ok a ≡ b → cond b (shared (params_of a) * width_of key_count) 0 ≤ 1320 * width_of key_count
    by true e =
        let two = both_yes (is_bit a.set && is_bit a.kind) (count_ok a.n) e in
        let one = both_yes (is_bit a.set) (is_bit a.kind) two.0 in
        let most = (both_yes (leb 1 a.n) (leb a.n 8) two.1).1 in
        omega (arith, shared-most a (ltb-true a.set 2 one.0) (leb-true a.n 8 most))
    by false e = omega arith
