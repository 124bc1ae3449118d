-- Each call of a run: what it leaves is the run carried one call further; and lists of calls, one behind another.
use Prim.Native.Nat.{ℕ, zero, suc, ◌+◌, ◌*◌, ◌-◌, ◌≤◌}
use mathlib.Core.Path.{◌≡◌, refl, sym, ap, ◌∙◌}
use mathlib.Core.List.{List, [], ◌∷◌, ◌++◌, append-nil}
use native.Mathlib.Omega.{arith}
use lib.ListN.{take, drop}
use lib.Seq.{drop-drop}
use borrow.Author.Tests.{eqb-true, ne_eqb}
use Rattle.std.specs.Prelude.{Option, None, Some, Result, Ok, Err, cond, Bool, true, false}
use Rattle.std.specs.Result.{result_err}
use Rattle.settings.specs.declared.Refusal.{Refusal}
use Rattle.settings.specs.Refusals.{number_of, refused}
use Rattle.settings.proofs.Refused.{number_nonzero}
use lib.Dec.{eqb}
use Rattle.settings.specs.declared.Settings.{Settings}
use Rattle.settings.specs.Sizes.{key_count}
use Rattle.state.specs.declared.Side.{Side}
use Rattle.side.specs.Side.{After, take_call}
use Rattle.runs.specs.Records.{PartyInput, PartyState, JointState, Party as Role, Call, ScheduledCall, outcome, step, begin_at}
use Rattle.runs.specs.Records.Party.{observer, peer}
use Rattle.runs.specs.Records.Call.{begin, send, take_latest}
use Rattle.runs.specs.Demands.{scheduled}
use Rattle.execution.specs.declared.Party.{Party}
use Rattle.execution.specs.declared.CallKind.{CallKind}
use Rattle.execution.specs.declared.Endpoint.{Endpoint}
use Rattle.execution.specs.declared.Execution.{Execution}
use Rattle.execution.specs.declared.WorkSpace.{WorkSpace}
use Rattle.execution.specs.declared.CallKind.TheVariants.{Begin, Take}
use Rattle.execution.specs.Execution.{message_room, played_by, Refused, told, refused_call, refused_in, message_in, Carried, outcome_at, carry, carry_all, round_calls}
use Rattle.execution.specs.Held.{party_of, carried_of, Stands, Fits, answer_at, LeftBy, SendsAt, Carries, RoundsRun}
use Rattle.execution.proofs.Messages.{latest-kept}

-- ---- Refusals

-- no refusal means no number, and a refusal a number
pub no-number : (kind : CallKind) (party : Party) (n : ℕ) → ◌≡◌ {A = Option Refused} None (refused_call kind party n) → n ≡ 0
unfolding refused_call
no-number kind party n = by (eqb n 0) refl
  where
    by : (b : Bool) → eqb n 0 ≡ b → ◌≡◌ {A = Option Refused} None (cond b None (Some (record { call = kind; party = party; number = n }))) → n ≡ 0
    by true e f = eqb-true n 0 e
    by false e f = cc

pub some-number : (kind : CallKind) (party : Party) (n : ℕ) (r : Refused) → ◌≡◌ {A = Option Refused} (Some r) (refused_call kind party n) → n ≡ 0 → ⊥
unfolding refused_call
some-number kind party n r e z = let f : ◌≡◌ {A = Option Refused} (Some r) None = rw z at e in cc

-- a call's answer tells its refusal
pub told-answer : {A : Type 0} (kind : CallKind) (party : Party) (r : Result A Refusal) → told (result_err (answer_at kind party r)) ≡ refused_call kind party (refused r)
unfolding refused_call
told-answer kind party (Ok x) = refl
told-answer kind party (Err e) = rw (ne_eqb (number_of e) 0 (number_nonzero e))

pub answer_ok : {A : Type 0} (kind : CallKind) (party : Party) (r : Result A Refusal) (x : A) → Ok x ≡ answer_at kind party r → r ≡ Ok x
answer_ok kind party (Ok y) x e = cc
answer_ok kind party (Err y) x e = cc

pub none-refused : (kind : CallKind) (party : Party) → ◌≡◌ {A = Option Refused} None (refused_call kind party 0)
unfolding refused_call
none-refused kind party = refl

-- a begin or a take
pub left : (kind : CallKind) (party : Party) (e : Endpoint) (r : Result (Unit {0}) Refusal) (s : Side) (w : List ℕ) (a : After)
    → ◌≡◌ {A = After} (record { done = record { refused = refused r; side = s }; work = w }) a
    → LeftBy kind party a e (told (result_err (answer_at kind party r))) (record { side = s; from = e.from; to = e.to }) w
left kind party e r s w a f =
    record {
      refused_is = told-answer kind party r ∙ ap (λ (x : After). refused_call kind party x.done.refused) f;
      endpoint_is = ap (λ (x : After). record { side = x.done.side; from = e.from; to = e.to }) f;
      work_is = ap (λ (x : After). x.work) f;
    }

-- ---- Places

-- what is the same behind a place is so behind a later one
drop_later : (m n : ℕ) (l k : List ℕ) → m ≤ n → drop m l ≡ drop m k → drop n l ≡ drop n k
drop_later m n l k h e =
    let f : m + (n - m) ≡ n = omega arith in
    rw (← f, ← drop-drop (n - m) m l, ← drop-drop (n - m) m k, e)

later : (e : Endpoint) (a b : ℕ) → a ≤ b → Stands e.from e.to a → Stands e.from e.to b
later e a b l s = record { begins = s.begins; ends = omega (arith, s.ends) }

-- an endpoint with another side stands where it stood
pub stays : (side : Side) (e e' : Endpoint) (n : ℕ) → Stands e.from e.to n → e' ≡ record { side = side; from = e.from; to = e.to } → Stands e'.from e'.to n
stays side e e' n s f = rw f s

-- ---- One call

-- a party's state, and the other's
abbrev pub joint : Role → PartyState → PartyState → JointState
joint observer x y = record { observer = x; peer = y }
joint peer x y = record { observer = y; peer = x }

abbrev pub input_at : Role → PartyInput → PartyInput → PartyInput
input_at observer h o = h
input_at peer h o = o

abbrev pub so-far : Option Refused → Role → PartyState → PartyState → List ℕ → Carried
so-far refused role x y messages = record { refused = refused; parties = joint role x y; messages = messages }

-- a run by its parts
same-so_far : {f f' : Option Refused} {x x' y y' : PartyState} {m m' : List ℕ} (role : Role) → f ≡ f' → x ≡ x' → y ≡ y' → m ≡ m' → so-far f role x y m ≡ so-far f' role x' y' m'
same-so_far role e a b l = rw (e, a, b, l)

module _ (s : Settings) (serial : ℕ) (h o : PartyInput) where
  carried : (role : Role) (call : Call) (x y : PartyState) (messages : List ℕ)
      → let left = outcome key_count s serial (input_at role h o) y.latest x call in
      so-far (refused_in (played_by role) left.observation) role left.state y (messages ++ message_in left.observation)
      ≡ carry s serial h o (so-far None role x y messages) role call
  unfolding carry outcome_at step
  carried observer call x y messages = refl
  carried peer call x y messages = refl

  -- a begin
  pub began : (role : Role) (e e' : Endpoint) (y : PartyState) (work after bytes messages : List ℕ) (refused : Option Refused)
      → LeftBy Begin (played_by role) (begin_at key_count s serial (input_at role h o) (party_of e work bytes)) e refused e' after
      → so-far refused role (party_of e' after bytes) y messages ≡ carry s serial h o (so-far None role (party_of e work bytes) y messages) role begin
  unfolding outcome
  began role e e' y work after bytes messages refused l =
      let a : After = begin_at key_count s serial (input_at role h o) (party_of e work bytes) in
      same-so_far role l.refused_is
      (ap (λ (f : Endpoint). party_of f after bytes) l.endpoint_is ∙ ap (λ (w : List ℕ). record { side = a.done.side; work = w; latest = (party_of e work bytes).latest }) l.work_is)
      refl (sym (append-nil messages))
      ∙ carried role begin (party_of e work bytes) y messages

  -- a take
  pub took : (role : Role) (e e' : Endpoint) (y : PartyState) (work after bytes messages : List ℕ) (refused : Option Refused)
      → LeftBy Take (played_by role) (take_call key_count e.side work y.latest) e refused e' after
      → so-far refused role (party_of e' after bytes) y messages ≡ carry s serial h o (so-far None role (party_of e work bytes) y messages) role take_latest
  unfolding outcome
  took role e e' y work after bytes messages refused l =
      let a : After = take_call key_count e.side work y.latest in
      same-so_far role l.refused_is
      (ap (λ (f : Endpoint). party_of f after bytes) l.endpoint_is ∙ ap (λ (w : List ℕ). record { side = a.done.side; work = w; latest = (party_of e work bytes).latest }) l.work_is)
      refl (sym (append-nil messages))
      ∙ carried role take_latest (party_of e work bytes) y messages

  -- a send, beside a party whose latest message stands in front
  pub sent : (role : Role) (e e' f : Endpoint) (work other before after : List ℕ) (at end : ℕ) (refused : Option Refused)
      → SendsAt (played_by role) e work before at refused e' end after
      → Stands f.from f.to at
      → so-far refused role (party_of e' work after) (party_of f other after) (take end after)
      ≡ carry s serial h o (so-far None role (party_of e work before) (party_of f other before) (take at before)) role (send message_room)
  unfolding outcome
  sent role e e' f work other before after at end refused l stands =
      same-so_far role l.refused_is l.party_is
      (ap (λ (m : List ℕ). record { side = f.side; work = other; latest = m }) (latest-kept f at stands before after l.front))
      l.messages_are
      ∙ carried role (send message_room) (party_of e work before) (party_of f other before) (take at before)

  -- ---- Lists of calls

  stopped : (refused : Refused) (x : Carried) (role : Role) (call : Call) → x.refused ≡ Some refused → carry s serial h o x role call ≡ x
  unfolding carry
  stopped refused x role call e = rw e

  pub stopped_all : (refused : Refused) (x : Carried) (ms : List ScheduledCall) → x.refused ≡ Some refused → carry_all s serial h o x ms ≡ x
  unfolding carry_all
  stopped_all refused x [] e = refl
  stopped_all refused x (m ∷ ms) e =
      ap (λ (y : Carried). carry_all s serial h o y ms) (stopped refused x m.party m.call e) ∙ stopped_all refused x ms e

  all-append : (ms ns : List ScheduledCall) (x : Carried) → carry_all s serial h o x (ms ++ ns) ≡ carry_all s serial h o (carry_all s serial h o x ms) ns
  unfolding carry_all
  all-append [] ns x = refl
  all-append (m ∷ ms) ns x = all-append ms ns (carry s serial h o x m.party m.call)

  module _ (ms ns : List ScheduledCall) (a b : ℕ) (x y z : Execution) (u v w : WorkSpace) where
    -- more calls behind those that no call has refused
    pub then : (refused : Option Refused) → Carries s serial h o ms a x u None y v → Carries s serial h o ns b y v refused z w → Carries s serial h o (ms ++ ns) (a + b) x u refused z w
    then refused p r =
        record {
          is = r.is ∙ ap (λ (c : Carried). carry_all s serial h o c ns) p.is ∙ sym (all-append ms ns (carried_of None x u));
          fits = λ more f. r.fits more (p.fits (b + more) (record { server = f.server; phone = f.phone; room = omega (arith, f.room) }));
          size = r.size ∙ p.size;
          behind = r.behind ∙ drop_later y.length z.length v.messages u.messages r.grows p.behind;
          grows = omega (arith, p.grows, r.grows);
        }

  -- nothing is carried behind a refusal
  pub ended : (ms ns : List ScheduledCall) (a b : ℕ) (x y : Execution) (u v : WorkSpace) (refused : Refused)
      → Carries s serial h o ms a x u (Some refused) y v → Carries s serial h o (ms ++ ns) (a + b) x u (Some refused) y v
  ended ms ns a b x y u v refused p =
      record {
        is = sym (stopped_all refused (carried_of (Some refused) y v) ns refl) ∙ ap (λ (c : Carried). carry_all s serial h o c ns) p.is ∙ sym (all-append ms ns (carried_of None x u));
        fits = λ more f. p.fits more (record { server = f.server; phone = f.phone; room = omega (arith, f.room) });
        size = p.size;
        behind = p.behind;
        grows = p.grows;
      }

-- ---- The calls as lists of one

module _ (s : Settings) (serial : ℕ) (h o : PartyInput) (x : Execution) (w : WorkSpace) (refused : Option Refused) (e : Endpoint) (after : List ℕ) where
  pub server-begins : LeftBy Begin (played_by observer) (begin_at key_count s serial h (party_of x.server w.server w.messages)) x.server refused e after
      → Carries s serial h o (scheduled observer begin ∷ []) 0 x w refused (record x { server = e }) (record w { server = after })
  unfolding carry_all
  server-begins l =
      record {
        is = began s serial h o observer x.server e (party_of x.phone w.phone w.messages) w.server after w.messages (take x.length w.messages) refused l;
        fits = λ more f. record { server = stays _ x.server e x.length f.server l.endpoint_is; phone = f.phone; room = omega (arith, f.room) };
        size = refl;
        behind = refl;
        grows = omega arith;
      }

  pub phone-begins : LeftBy Begin (played_by peer) (begin_at key_count s serial o (party_of x.phone w.phone w.messages)) x.phone refused e after
      → Carries s serial h o (scheduled peer begin ∷ []) 0 x w refused (record x { phone = e }) (record w { phone = after })
  unfolding carry_all
  phone-begins l =
      record {
        is = began s serial h o peer x.phone e (party_of x.server w.server w.messages) w.phone after w.messages (take x.length w.messages) refused l;
        fits = λ more f. record { server = f.server; phone = stays _ x.phone e x.length f.phone l.endpoint_is; room = omega (arith, f.room) };
        size = refl;
        behind = refl;
        grows = omega arith;
      }

  pub server_takes : LeftBy Take (played_by observer) (take_call key_count x.server.side w.server (party_of x.phone w.phone w.messages).latest) x.server refused e after
      → Carries s serial h o (scheduled observer take_latest ∷ []) 0 x w refused (record x { server = e }) (record w { server = after })
  unfolding carry_all
  server_takes l =
      record {
        is = took s serial h o observer x.server e (party_of x.phone w.phone w.messages) w.server after w.messages (take x.length w.messages) refused l;
        fits = λ more f. record { server = stays _ x.server e x.length f.server l.endpoint_is; phone = f.phone; room = omega (arith, f.room) };
        size = refl;
        behind = refl;
        grows = omega arith;
      }

  pub phone_takes : LeftBy Take (played_by peer) (take_call key_count x.phone.side w.phone (party_of x.server w.server w.messages).latest) x.phone refused e after
      → Carries s serial h o (scheduled peer take_latest ∷ []) 0 x w refused (record x { phone = e }) (record w { phone = after })
  unfolding carry_all
  phone_takes l =
      record {
        is = took s serial h o peer x.phone e (party_of x.server w.server w.messages) w.phone after w.messages (take x.length w.messages) refused l;
        fits = λ more f. record { server = f.server; phone = stays _ x.phone e x.length f.phone l.endpoint_is; room = omega (arith, f.room) };
        size = refl;
        behind = refl;
        grows = omega arith;
      }

  module _ (end : ℕ) where
    pub server_sends : SendsAt (played_by observer) x.server w.server w.messages x.length refused e end after → Stands x.phone.from x.phone.to x.length
        → Carries s serial h o (scheduled observer (send message_room) ∷ []) 1 x w refused (record x { server = e; length = end }) (record w { messages = after })
    unfolding carry_all
    server_sends l stands =
        record {
          is = sent s serial h o observer x.server e x.phone w.server w.phone w.messages after x.length end refused l stands;
          fits = λ more f. record { server = l.stands; phone = later x.phone x.length end l.grows f.phone; room = omega (arith, f.room, l.most, l.size) };
          size = l.size;
          behind = l.behind;
          grows = l.grows;
        }

    pub phone_sends : SendsAt (played_by peer) x.phone w.phone w.messages x.length refused e end after → Stands x.server.from x.server.to x.length
        → Carries s serial h o (scheduled peer (send message_room) ∷ []) 1 x w refused (record x { phone = e; length = end }) (record w { messages = after })
    unfolding carry_all
    phone_sends l stands =
        record {
          is = sent s serial h o peer x.phone e x.server w.phone w.server w.messages after x.length end refused l stands;
          fits = λ more f. record { server = later x.server x.length end l.grows f.server; phone = l.stands; room = omega (arith, f.room, l.most, l.size) };
          size = l.size;
          behind = l.behind;
          grows = l.grows;
        }

-- ---- A round

module _ (x : Execution) (w : WorkSpace) (fit : Fits x w.messages 2) (one : Endpoint) (end : ℕ) (bytes : List ℕ) where
  abbrev x₁ : Execution
  x₁ = record x { server = one; length = end }

  abbrev w₁ : WorkSpace
  w₁ = record w { messages = bytes }

  abbrev First : Option Refused → Type 0
  First refused = SendsAt (played_by observer) x.server w.server w.messages x.length refused one end bytes

  pub first_refused : (refusal : Refused) → First (Some refusal) → RoundsRun 1 x w (Some refusal) x₁ w₁
  first_refused refusal l =
      record {
        carries = λ s serial h o.
            ended s serial h o (scheduled observer (send message_room) ∷ []) (scheduled peer take_latest ∷ scheduled peer (send message_room) ∷ scheduled observer take_latest ∷ []) 1 1
            x x₁ w w₁ refusal (server_sends s serial h o x w (Some refusal) one bytes end l fit.phone);
      }

  module _ (first : First None) (two : Endpoint) (work : List ℕ) where
    abbrev x₂ : Execution
    x₂ = record x₁ { phone = two }

    abbrev w₂ : WorkSpace
    w₂ = record w₁ { phone = work }

    abbrev Second : Option Refused → Type 0
    Second refused = LeftBy Take (played_by peer) (take_call key_count x.phone.side w.phone (take (one.to - one.from) (drop one.from bytes))) x.phone refused two work

    both : (s : Settings) (serial : ℕ) (h o : PartyInput) (refused : Option Refused) → Second refused
        → Carries s serial h o (scheduled observer (send message_room) ∷ scheduled peer take_latest ∷ []) 1 x w refused x₂ w₂
    both s serial h o refused l =
        then s serial h o (scheduled observer (send message_room) ∷ []) (scheduled peer take_latest ∷ []) 1 0 x x₁ x₂ w w₁ w₂ refused
        (server_sends s serial h o x w None one bytes end first fit.phone) (phone_takes s serial h o x₁ w₁ refused two work l)

    pub second_refused : (refusal : Refused) → Second (Some refusal) → RoundsRun 1 x w (Some refusal) x₂ w₂
    second_refused refusal l =
        record {
          carries = λ s serial h o.
              ended s serial h o (scheduled observer (send message_room) ∷ scheduled peer take_latest ∷ []) (scheduled peer (send message_room) ∷ scheduled observer take_latest ∷ []) 1 1
              x x₂ w w₂ refusal (both s serial h o (Some refusal) l);
        }

    module _ (second : Second None) (three : Endpoint) (end' : ℕ) (bytes' : List ℕ) where
      abbrev x₃ : Execution
      x₃ = record x₂ { phone = three; length = end' }

      abbrev w₃ : WorkSpace
      w₃ = record w₂ { messages = bytes' }

      abbrev Third : Option Refused → Type 0
      Third refused = SendsAt (played_by peer) two work bytes end refused three end' bytes'

      all_three : (s : Settings) (serial : ℕ) (h o : PartyInput) (refused : Option Refused) → Third refused
          → Carries s serial h o (scheduled observer (send message_room) ∷ scheduled peer take_latest ∷ scheduled peer (send message_room) ∷ []) 2 x w refused x₃ w₃
      all_three s serial h o refused l =
          then s serial h o (scheduled observer (send message_room) ∷ scheduled peer take_latest ∷ []) (scheduled peer (send message_room) ∷ []) 1 1 x x₂ x₃ w w₂ w₃ refused
          (both s serial h o None second) (phone_sends s serial h o x₂ w₂ refused three bytes' end' l first.stands)

      pub third_refused : (refusal : Refused) → Third (Some refusal) → RoundsRun 1 x w (Some refusal) x₃ w₃
      third_refused refusal l =
          record {
            carries = λ s serial h o.
                ended s serial h o (scheduled observer (send message_room) ∷ scheduled peer take_latest ∷ scheduled peer (send message_room) ∷ []) (scheduled observer take_latest ∷ []) 2 0
                x x₃ w w₃ refusal (all_three s serial h o (Some refusal) l);
          }

      pub round_run : Third None → (refused : Option Refused) (four : Endpoint) (work' : List ℕ)
          → LeftBy Take (played_by observer) (take_call key_count one.side w.server (take (three.to - three.from) (drop three.from bytes'))) one refused four work'
          → RoundsRun 1 x w refused (record x₃ { server = four }) (record w₃ { server = work' })
      round_run third refused four work' l =
          record {
            carries = λ s serial h o.
                then s serial h o (scheduled observer (send message_room) ∷ scheduled peer take_latest ∷ scheduled peer (send message_room) ∷ []) (scheduled observer take_latest ∷ []) 2 0
                x x₃ (record x₃ { server = four }) w w₃ (record w₃ { server = work' }) refused
                (all_three s serial h o None third) (server_takes s serial h o x₃ w₃ refused four work' l);
          }

-- ---- Rounds

round_calls-add : (a b : ℕ) → round_calls (a + b) ≡ round_calls a ++ round_calls b
round_calls-add zero b = let e : 0 + b ≡ b = omega arith in ap round_calls e
round_calls-add (suc a) b = let e : suc a + b ≡ suc (a + b) = omega arith in rw (e, round_calls-add a b)

pub no_round : (x : Execution) (w : WorkSpace) → RoundsRun 0 x w None x w
unfolding carry_all
no_round x w =
    record {
      carries = λ s serial h o. record {
        is = refl;
        fits = λ more f. record { server = f.server; phone = f.phone; room = omega (arith, f.room) };
        size = refl;
        behind = refl;
        grows = omega arith;
      };
    }

pub round-more : (n : ℕ) (x y z : Execution) (u v w : WorkSpace) (refused : Option Refused) → RoundsRun n x u None y v → RoundsRun 1 y v refused z w → RoundsRun (n + 1) x u refused z w
round-more n x y z u v w refused a b =
    record {
      carries = λ s serial h o.
          let twice : 2 * (n + 1) ≡ 2 * n + 2 = omega arith in
          rw (twice, round_calls-add n 1) (then s serial h o (round_calls n) (round_calls 1) (2 * n) 2 x y z u v w refused (a.carries s serial h o) (b.carries s serial h o));
    }

-- behind a refusal any further rounds change nothing
pub rounds-ended : (n m : ℕ) (x y : Execution) (u v : WorkSpace) (refused : Refused) → n ≤ m → RoundsRun n x u (Some refused) y v → RoundsRun m x u (Some refused) y v
rounds-ended n m x y u v refused l a =
    record {
      carries = λ s serial h o.
          let all : m ≡ n + (m - n) = omega arith in
          let twice : 2 * (n + (m - n)) ≡ 2 * n + 2 * (m - n) = omega arith in
          rw (all, twice, round_calls-add n (m - n)) (ended s serial h o (round_calls n) (round_calls (m - n)) (2 * n) (2 * (m - n)) x y u v refused (a.carries s serial h o));
    }

-- rounds leave room for those behind them
nobody : PartyInput
nobody = record { number = 0; keys = []; inputs = []; book = [] }

pub rounds-fit : (n more : ℕ) (x y : Execution) (u v : WorkSpace) (refused : Option Refused) → RoundsRun n x u refused y v → Fits x u.messages (2 * n + more) → Fits y v.messages more
rounds-fit n more x y u v refused p f = (p.carries x.server.side.settings 0 nobody nobody).fits more f
