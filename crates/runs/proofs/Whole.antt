-- Progress from the arithmetic of the honest run.
use Prim.Native.Nat.{ℕ, zero, suc, ◌-◌, ◌<◌}
use mathlib.Core.Path.{◌≡◌, refl}
use mathlib.Core.List.{List}
use mathlib.Core.Bool.{true, cond, ◌&&◌}
use native.Mathlib.Omega.{arith}
use lib.Dec.{eqb}
use borrow.Author.Tests.{eq-eqb, ne_eqb, lt-ltb, le-leb}
use Rattle.lists.proofs.Questions.{both_yes}
use Rattle.settings.specs.Sizes.{width_of}
use Rattle.settings.specs.Questions.{is_bit, count_ok, bound_ok, keys_ok, shape_ok, settings_ok}
use Rattle.column.specs.Run.{plain_opened}
use Rattle.settings.specs.declared.Settings.{Settings}
use Rattle.settings.specs.Settings.{terms_of}
use Rattle.runs.specs.Records.{PartyInput, party_input}
use Rattle.runs.specs.Demands.{Fixed, Secret, Shares, Possible, observer_input, peer_input}
use Rattle.runs.specs.Progress.{none, joint_at}
use Rattle.runs.specs.Honest.{SideRuns, Runs}
use Rattle.runs.specs.Theorems.{Progress}
use Rattle.runs.proofs.PartyStates.{Which, FieldsPass, input_as, said}
use Rattle.runs.proofs.PartyStates.Which.{server, phone}
use Rattle.runs.proofs.Both.{HonestSide, start_pace, joint_at_counts}

which_of : (number : ℕ) (keys inputs book : List ℕ) → number < 2 → Which (input_as number keys inputs book)
which_of zero keys inputs book l = server
which_of (suc zero) keys inputs book l = phone
which_of (suc (suc n)) keys inputs book l = absurd (omega arith)

pub which_side : (h : PartyInput) → h.number < 2 → Which h
which_side h l = which_of h.number h.keys h.inputs h.book l

-- what the settings fix, read from the test
pub record Allowed (s : Settings) : Type 0 where
  pub set-bit : is_bit s.shape.set ≡ true
  pub kind-bit : is_bit s.shape.kind ≡ true
  pub count : count_ok s.shape.n ≡ true
  pub bound : bound_ok s.shape.kind s.bound ≡ true

pub allowed : (s : Settings) → settings_ok s ≡ true → Allowed s
unfolding shape_ok
allowed s e =
    let a = both_yes (shape_ok s.shape) (bound_ok s.shape.kind s.bound) e in
    let b = both_yes (is_bit s.shape.set && is_bit s.shape.kind) (count_ok s.shape.n) a.0 in
    let c = both_yes (is_bit s.shape.set) (is_bit s.shape.kind) b.0 in
    record { set-bit = c.0; kind-bit = c.1; count = b.1; bound = a.1 }

-- the kept fields of either side pass
pub terms : (k : ℕ) (s : Settings) (serial : ℕ) (keys0 keys1 : List ℕ) → Fixed k s serial keys0 keys1 → (number : ℕ) → number < 2
    → (draw inputs : List ℕ) → FieldsPass s serial (party_input k s number keys0 keys1 draw inputs)
terms k s serial keys0 keys1 f number l draw inputs =
    let a = allowed s f.settings in
    record {
      number_bit = lt-ltb number 2 l;
      bits = rw a.set-bit a.kind-bit;
      count = a.count;
      bound = a.bound;
      keys_ok_lem = keys_of number;
      above = le-leb 1 serial f.above;
    }
  where
    keys_of : (number : ℕ) → keys_ok (cond (eqb number 0) keys0 keys1) ≡ true
    keys_of zero = f.server_keys
    keys_of (suc n) = rw (ne_eqb (suc n) 0 (λ z. omega arith)) f.phone_keys

honest : (k : ℕ) (s : Settings) (serial : ℕ) (numbers : ℕ → List ℕ) (h o : PartyInput) → SideRuns k s serial numbers h (said k s serial numbers o)
    → h.number < 2 → FieldsPass s serial h → HonestSide k s serial numbers h o
honest k s serial numbers h o z l t =
    record {
      which = which_side h l;
      kept = record { terms = t; exact = λ R l. eq-eqb _ _ (z.exact R l); low = z.low };
      handed = record { inputs-exact = eq-eqb _ _ z.inputs.size_is; book-exact = eq-eqb _ _ z.book.size_is; low = rw (z.inputs.below, z.book.below) refl };
      meets = z.meets;
    }

-- both sides of an honest run
pub honest-pair : (k : ℕ) → Runs k → (s : Settings) (serial : ℕ) (keys0 keys1 : List ℕ) → Fixed k s serial keys0 keys1 → (number : ℕ) → number < 2
    → (secret inputs draw : List ℕ) → Secret s secret → Shares k s inputs → Possible k s draw
    → let h : PartyInput = observer_input k s number keys0 keys1 inputs draw in
    let o : PartyInput = peer_input k s number keys0 keys1 inputs secret draw in
    let numbers : ℕ → List ℕ = plain_opened (terms_of s) (width_of k) draw secret in
    HonestSide k s serial numbers h o × HonestSide k s serial numbers o h
honest-pair k runs s serial keys0 keys1 f number l secret inputs draw x y d =
    let h : PartyInput = observer_input k s number keys0 keys1 inputs draw in
    let o : PartyInput = peer_input k s number keys0 keys1 inputs secret draw in
    let numbers : ℕ → List ℕ = plain_opened (terms_of s) (width_of k) draw secret in
    let z = runs s serial keys0 keys1 f number l secret inputs draw x y d in
    let l' : 1 - number < 2 = omega arith in (
      honest k s serial numbers h o z.0 l (terms k s serial keys0 keys1 f number l draw inputs),
      honest k s serial numbers o h z.1 l' (terms k s serial keys0 keys1 f (1 - number) l' draw _),
    )

-- Progress: after every list of calls the joint state is the one at its counts
pub progress_law : (k : ℕ) → Runs k → Progress k
unfolding joint_at
progress_law k runs s serial keys0 keys1 f number l secret inputs draw x y d w i calls =
    let numbers : ℕ → List ℕ = plain_opened (terms_of s) (width_of k) draw secret in
    let z = honest-pair k runs s serial keys0 keys1 f number l secret inputs draw x y d in
    joint_at_counts k s serial numbers (observer_input k s number keys0 keys1 inputs draw) (peer_input k s number keys0 keys1 inputs secret draw) refl z.0 z.1
    w i calls none (start_pace number)
