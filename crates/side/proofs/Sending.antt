-- What send knows of what it was handed.
use mathlib.Core.Path.{◌≡◌}
use mathlib.Core.Bool.{true}
use mathlib.Core.List.{List}
use Prim.Native.Nat.{ℕ, ◌≤◌}
use lib.Dec.{eqb, leb}
use lib.ListN.{length}
use borrow.Author.Tests.{eqb-true, leb-true}
use Rattle.lists.specs.Lists.{all_below}
use Rattle.lists.proofs.Questions.{passed}
use Rattle.field.specs.Field.{q}
use Rattle.settings.specs.Sizes.{message_length, work_length}
use Rattle.settings.specs.Settings.{params_in}
use Rattle.state.specs.declared.Side.{Side}
use Rattle.state.specs.State.{send_due, Whole}
use Rattle.state.proofs.States.{send-whole}
use Rattle.side.specs.Side.{send_no, after_send}

pub record SendReady (k : ℕ) (s : Side) (work out : List ℕ) : Type 0 where
  pub kept : Whole s
  pub exact : length work ≡ work_length k
  pub below : all_below q work ≡ true
  pub room : message_length k (params_in s.settings) s.round ≤ length out

pub send-ready : (k : ℕ) (s : Side) (work out : List ℕ) → send_no k s work out ≡ 0 → SendReady k s work out
unfolding send_no
send-ready k s work out e =
    let eight = passed (send_due s) _ _ e in
    let five = passed (eqb (length work) (work_length k)) _ _ eight.1 in
    let six = passed (all_below q work) _ _ five.1 in
    let nine = passed (leb (message_length k (params_in s.settings) s.round) (length out)) _ 0 six.1 in
    record {
      kept = send-whole s eight.0;
      exact = eqb-true _ _ five.0;
      below = six.0;
      room = leb-true _ _ nine.0;
    }

pub after_same : {m n : ℕ} {s t : Side} {x y : List ℕ} → m ≡ n → s ≡ t → x ≡ y → after_send 0 m s x ≡ after_send 0 n t y
after_same e f g = rw (e, f, g)
