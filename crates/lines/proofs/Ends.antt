-- The run of a line ends with the answer by the plain meaning.
use Prim.Native.Nat.{ℕ, ◌+◌, ◌-◌, ◌*◌, ◌≤◌, ◌<◌}
use mathlib.Core.Path.{◌≡◌, refl, sym, ap, ap₂, ◌∙◌}
use mathlib.Core.Bool.{true, ◌&&◌}
use mathlib.Core.List.{List, [], ◌++◌, append-nil, append_assoc}
use native.Mathlib.Omega.{arith}
use lib.Dec.{ltb}
use Rattle.std.specs.Prelude.{None}
use Rattle.settings.specs.Refusals.{Outcome, Gives}
use lib.ListN.{length, take, drop, replicate, length-append, length-drop, length-replicate, replicate-append-replicate, drop_of_length-le}
use lib.Seq.{take_all, take_at, drop_at}
use borrow.Rule.Slice.PartMut.{mid_of, post_of, put_mid}
use borrow.Author.Tests.{ltb-true, eq-eqb}
use Rattle.lists.specs.Answers.{ask}
use Rattle.lists.specs.Lists.{all_below}
use Rattle.lists.proofs.Questions.{passed, both_yes}
use Rattle.field.specs.Field.{q}
use Rattle.settings.specs.declared.Settings.{Settings}
use Rattle.settings.specs.Settings.{params_in}
use Rattle.settings.specs.Sizes.{key_count, width, shared, work_length, book_size, draw_size, input_size, answer_places}
use Rattle.settings.proofs.Sizes.{answer-most}
use Rattle.settings.specs.Questions.{ask_shape, is_bit, count_ok, bound_ok, ask_settings, shape_ok, Ready}
use Rattle.settings.proofs.Ready.{settings-ready, settings_rest}
use Rattle.book.specs.Books.{multipliers}
use Rattle.dealer.specs.Deal.{deal_no}
use Rattle.state.specs.declared.Side.{Side}
use Rattle.state.specs.State.{whole, send_due, take_due, under_way}
use Rattle.runs.specs.Records.{answer_of, missing_shares, PartyState, JointState}
use Rattle.runs.specs.Demands.{Fixed, Idle, Ended, observer_input, peer_input}
use Rattle.runs.proofs.Answers.{answer-length}
use Rattle.syntax.specs.declared.Request.{Request}
use Rattle.execution.specs.Execution.{Carried, refused_call, carry_all, run_calls, server_inputs, phone_inputs, draw_in, fresh_party, deal_no_of, executed}
use Rattle.execution.specs.Theorems.{GoesThrough}
use Rattle.execution.proofs.Honest.{honest_run_goes_through}
use Rattle.execution.proofs.Given.{draw_is_dealt}
use Rattle.generator.specs.Step.{outputs}
use Rattle.generator.proofs.Steps.{outputs_length, outputs_below, outputs_zero}
use Rattle.lines.specs.Plain.{settings_of, secret_of, request_no, result_for, drawn_for}
use Rattle.lines.specs.Run.{ones, terms_for, in_columns, inputs_for, count_for, numbers_for, answered_by, most_numbers, RoomForRun, LentToLine}
use Rattle.lines.proofs.Handed.{settings_pass_all, ones_ok, columns_long, columns_below, missing_none, behind-zeros, length_front}

-- ---- The answer of a side that has ended

module _ (s : Settings) (secret : List ℕ) (ready : Ready s) (long : length secret ≡ s.shape.n) where
  answered-is : (x : PartyState) → Ended s secret x → answered_by x.side ≡ Gives (answer_of s secret)
  unfolding answered_by
  answered-is x e =
      let wrap : List ℕ → Outcome (List ℕ) = λ l. Gives l in
      rw (e.gives (replicate 8 0) (answer-most (params_in s) ready.shape.most))
      (ap wrap (take_at (answer_of s secret) _ (answer_places (params_in s)) (answer-length s secret long)))

-- ---- The run

-- what a request that no question refuses has passed
pub request_ready : (serial : ℕ) (o : Request) → request_no serial o ≡ 0 → Ready (settings_of o)
unfolding request_no
request_ready serial o e = (settings-ready 0 (settings_of o) _ e).1

-- its settings pass 1 and 2
pub shape-passes : (serial : ℕ) (o : Request) → request_no serial o ≡ 0 → shape_ok (settings_of o).shape ≡ true
unfolding request_no
shape-passes serial o e = (both_yes (shape_ok (settings_of o).shape) (bound_ok o.kind o.bound) (settings_pass_all (settings_of o) _ e)).0

module _ (state serial : ℕ) (o : Request) (ok : request_no serial o ≡ 0) (fits : serial < 4294967296) (room : o.count ≤ length o.numbers)
    (work0 work1 : List ℕ) (long0 : length work0 ≡ work_length key_count) (long1 : length work1 ≡ work_length key_count) where
  abbrev s : Settings
  s = settings_of o

  abbrev secret : List ℕ
  secret = secret_of o

  abbrev rest : ℕ
  rest = ask (all_below q secret) 6 (ask (ltb 0 serial) 7 0)

  opened : ask_settings 0 (settings_of o) rest ≡ 0
  unfolding request_no
  opened = ok

  six : (all_below q secret ≡ true) × (ask (ltb 0 serial) 7 0 ≡ 0)
  six = passed (all_below q secret) 5 (ask (ltb 0 serial) 7 0) (settings_rest 0 (settings_of o) rest opened)

  above : 1 ≤ serial
  above = omega (arith, ltb-true 0 serial (passed (ltb 0 serial) 6 0 six.1).0)

  secret_long : length secret ≡ o.count
  secret_long = sym (length_front o.count o.numbers room)

  fixed : Fixed key_count s serial ones ones
  fixed =
      record {
        settings = settings_pass_all (settings_of o) rest opened;
        above = above;
        fits = fits;
        server_count = length-replicate {A = ℕ} key_count 1;
        phone_count = length-replicate {A = ℕ} key_count 1;
        server_keys = ones_ok;
        phone_keys = ones_ok;
      }

  shape_yes : shape_ok s.shape ≡ true
  shape_yes = shape-passes serial o ok

  idle_is : (work : List ℕ) → length work ≡ work_length key_count → Idle key_count serial (fresh_party work)
  unfolding under_way send_due take_due whole ask_settings ask_shape ask
  idle_is work long = record { none = refl; last = above; exact = long; silent = refl }

  -- ---- What the calls are handed

  abbrev inputs : List ℕ
  inputs = in_columns secret

  abbrev each : ℕ
  each = inputs_for o

  abbrev drawn : ℕ
  drawn = drawn_for o

  abbrev draw : List ℕ
  draw = outputs q state drawn

  abbrev numbers : List ℕ
  numbers = numbers_for state o

  inputs_long : length inputs ≡ each
  inputs_long = columns_long secret ∙ ap (λ (n : ℕ). n * width) secret_long

  input_size_lem : input_size s.shape ≡ each
  unfolding input_size
  input_size_lem = rw shape_yes

  server-inputs : server_inputs s.shape numbers ≡ inputs
  server-inputs = rw input_size_lem (take_at inputs (replicate each 0 ++ draw) each inputs_long)

  behind : drop (input_size s.shape) numbers ≡ replicate each 0 ++ draw
  behind = rw input_size_lem (drop_at inputs (replicate each 0 ++ draw) each inputs_long)

  phone-inputs : phone_inputs s.shape numbers ≡ replicate each 0
  phone-inputs =
      ap (take (input_size s.shape)) behind ∙ ap (λ (n : ℕ). take n (replicate each 0 ++ draw)) input_size_lem
      ∙ take_at (replicate each 0) draw each (length-replicate {A = ℕ} each 0)

  draw_is : draw_in s.shape numbers ≡ draw
  draw_is =
      ap (drop (input_size s.shape)) behind ∙ ap (λ (n : ℕ). drop n (replicate each 0 ++ draw)) input_size_lem
      ∙ drop_at (replicate each 0) draw each (length-replicate {A = ℕ} each 0)

  draw_size_lem : length draw ≡ drawn
  draw_size_lem = outputs_length q state drawn

  draw_below : all_below q draw ≡ true
  draw_below = outputs_below state drawn

  draw_long : length (draw_in s.shape numbers) ≡ draw_size s.shape
  unfolding draw_size
  draw_long = rw (draw_is, shape_yes) draw_size_lem

  book-size : book_size s.shape ≡ shared (params_in s) * width
  unfolding book_size
  book-size = rw shape_yes

  deal_no_lem : deal_no_of (terms_for serial o) numbers ≡ 0
  unfolding deal_no ask_shape ask shape_ok
  deal_no_lem =
      let y = both_yes (is_bit o.set && is_bit o.kind) (count_ok o.count) shape_yes in
      rw (
        draw_is,
        y.0,
        y.1,
        ones_ok,
        eq-eqb (length draw) drawn draw_size_lem,
        eq-eqb (length (replicate {A = ℕ} (book_size s.shape) 0)) (shared (params_in s) * width) (length-replicate {A = ℕ} (book_size s.shape) 0 ∙ book-size),
        draw_below,
      )

  -- ---- The end

  abbrev start : JointState
  start = record { observer = fresh_party work0; peer = fresh_party work1 }

  abbrev honest : Carried
  honest =
      carry_all s serial (observer_input key_count s 0 ones ones inputs draw) (peer_input key_count s 0 ones ones inputs secret draw)
      (record { refused = None; parties = start; messages = [] }) run_calls

  through : GoesThrough s secret honest
  through =
      honest_run_goes_through s serial ones ones fixed secret inputs draw
      (record { size_is = secret_long; below = six.0 })
      (record { size_is = inputs_long; below = columns_below secret six.0 })
      (record { size_is = draw_size_lem; below = draw_below })
      start
      (record { observer = idle_is work0 long0; peer = idle_is work1 long1 })

  run_is : executed (terms_for serial o) numbers work0 work1 ≡ honest
  unfolding refused_call
  run_is =
      let zeros : missing_shares width (multipliers ones ones) secret inputs ≡ replicate each 0 = missing_none secret ∙ ap (λ (n : ℕ). replicate (n * width) 0) secret_long in
      draw_is_dealt (terms_for serial o) numbers work0 work1 draw_long ∙ rw (deal_no_lem, server-inputs, phone-inputs, draw_is, zeros)

  -- what the server's answer says at the end is the plain meaning
  pub run-gives : (x : Side) → x ≡ (executed (terms_for serial o) numbers work0 work1).parties.observer.side → answered_by x ≡ result_for serial o
  unfolding result_for
  run-gives x e =
      ap answered_by (e ∙ ap (λ (c : Carried). c.parties.observer.side) run_is)
      ∙ answered-is s secret (request_ready serial o ok) secret_long honest.parties.observer through.server
      ∙ rw ok

-- ---- The numbers of a run, in a slice of zeros

module _ (state : ℕ) (o : Request) (room : o.count ≤ length o.numbers) where
  inputs-size : length (in_columns (secret_of o)) ≡ inputs_for o
  inputs-size = columns_long (secret_of o) ∙ ap (λ (n : ℕ). n * width) (sym (length_front o.count o.numbers room))

  -- both sides' inputs
  abbrev front : List ℕ
  front = in_columns (secret_of o) ++ replicate (inputs_for o) 0

  front_long : length front ≡ 2 * inputs_for o
  front_long = length-append (in_columns (secret_of o)) (replicate (inputs_for o) 0) ∙ omega (arith, inputs-size, length-replicate {A = ℕ} (inputs_for o) 0)

  numbers_are : numbers_for state o ≡ front ++ outputs q state (drawn_for o)
  numbers_are = sym (append_assoc (in_columns (secret_of o)) (replicate (inputs_for o) 0) (outputs q state (drawn_for o)))

  -- the server's inputs in front of zeros
  pub begun-is : (zeros inputs : List ℕ) → zeros ≡ replicate (count_for o) 0 → inputs ≡ in_columns (secret_of o)
      → inputs ++ drop (inputs_for o) zeros ≡ front ++ replicate (drawn_for o) 0
  begun-is zeros inputs e f =
      let g : count_for o ≡ inputs_for o + (inputs_for o + drawn_for o) = omega arith in
      rw (f, e, g, behind-zeros (inputs_for o) (inputs_for o + drawn_for o), ← replicate-append-replicate {A = ℕ} (inputs_for o) (drawn_for o) 0)
      (sym (append_assoc (in_columns (secret_of o)) (replicate (inputs_for o) 0) (replicate (drawn_for o) 0)))

  module _ (begun : List ℕ) (e : begun ≡ front ++ replicate (drawn_for o) 0) where
    pub begun_long : length begun ≡ count_for o
    begun_long = rw e (length-append front (replicate (drawn_for o) 0) ∙ omega (arith, front_long, length-replicate {A = ℕ} (drawn_for o) 0))

    -- the part behind both sides' inputs: all that is left
    abbrev left : ℕ
    left = length begun - 2 * inputs_for o

    -- zeros where the draw goes
    pub draw-zeros : mid_of (2 * inputs_for o) left begun ≡ replicate (drawn_for o) 0
    draw-zeros =
        take_all left (drop (2 * inputs_for o) begun) (omega (arith, length-drop (2 * inputs_for o) begun))
        ∙ rw e (drop_at front (replicate (drawn_for o) 0) (2 * inputs_for o) front_long)

    none-behind : post_of (2 * inputs_for o) left begun ≡ []
    none-behind =
        let n : length (drop (2 * inputs_for o) begun) ≤ left = omega (arith, length-drop (2 * inputs_for o) begun) in
        drop_of_length-le (drop (2 * inputs_for o) begun) n

    pub drawn_in : (written : List ℕ) → written ≡ outputs q state (drawn_for o) → put_mid (2 * inputs_for o) left begun written ≡ numbers_for state o
    drawn_in written f =
        let inputs_are : take (2 * inputs_for o) begun ≡ front = rw e (take_at front (replicate (drawn_for o) 0) (2 * inputs_for o) front_long) in
        let rest_is : written ++ post_of (2 * inputs_for o) left begun ≡ outputs q state (drawn_for o) =
        ap₂ (λ (k l : List ℕ). k ++ l) f none-behind ∙ append-nil (outputs q state (drawn_for o)) in
        ap₂ (λ (k l : List ℕ). k ++ l) inputs_are rest_is ∙ sym numbers_are

  module _ (filled : List ℕ) (e : filled ≡ numbers_for state o) where
    filled_long : length filled ≡ count_for o
    filled_long = rw (e, numbers_are) (length-append front (outputs q state (drawn_for o)) ∙ omega (arith, front_long, outputs_length q state (drawn_for o)))

    pub inputs-within : inputs_for o ≤ length filled
    inputs-within = omega (arith, filled_long)

    -- with state 0 all behind the server's inputs has stayed zero
    pub rest_zeros : state ≡ 0 → drop (inputs_for o) filled ≡ replicate (length filled - inputs_for o) 0
    rest_zeros f =
        let n : length filled - inputs_for o ≡ inputs_for o + drawn_for o = omega (arith, filled_long) in
        ap (drop (inputs_for o)) e
        ∙ drop_at (in_columns (secret_of o)) (replicate (inputs_for o) 0 ++ outputs q state (drawn_for o)) (inputs_for o) inputs-size
        ∙ rw (f, outputs_zero (drawn_for o), n) (replicate-append-replicate {A = ℕ} (inputs_for o) (drawn_for o) 0)

    pub cleared_again : (zeros cleared : List ℕ) → zeros ≡ replicate (count_for o) 0 → cleared ≡ replicate (length filled) 0 → cleared ≡ zeros
    cleared_again zeros cleared f g = g ∙ ap (λ (n : ℕ). replicate n 0) filled_long ∙ sym f

-- lent slices that hold something else have the same room
pub same-room : (a b c d e a' b' c' d' e' : List ℕ) → RoomForRun a b c d e → length a' ≡ length a → length b' ≡ length b → length c' ≡ length c
    → length d' ≡ length d → length e' ≡ length e → RoomForRun a' b' c' d' e'
same-room a b c d e a' b' c' d' e' r f g h i j =
    record {
      server_book = omega (arith, r.server_book, f);
      phone_book = omega (arith, r.phone_book, g);
      server_work = h ∙ r.server_work;
      phone_work = i ∙ r.phone_work;
      bytes = omega (arith, r.bytes, j);
    }

-- so many numbers are lent
pub zeros_many : {n a b c d e : List ℕ} → LentToLine n a b c d e → length n ≡ most_numbers
zeros_many l = ap length l.zeros ∙ length-replicate {A = ℕ} most_numbers 0
