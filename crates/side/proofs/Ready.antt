-- What a call of a side that is not refused knows of what it was handed.
use mathlib.Core.Path.{◌≡◌}
use mathlib.Core.Bool.{not, ◌&&◌}
use mathlib.Core.List.{List}
use Prim.Native.Nat.{ℕ, ◌*◌}
use lib.Dec.{eqb}
use lib.ListN.{length}
use borrow.Author.Tests.{eqb-true}
use Rattle.lists.proofs.Questions.{passed, both_yes}
use Rattle.settings.specs.Sizes.{width_of, shared, work_length}
use Rattle.settings.specs.Questions.{ask_settings, keys_ok, Ready}
use Rattle.settings.proofs.Ready.{settings-ready, settings_rest}
use Rattle.settings.specs.Settings.{params_in}
use Rattle.side.specs.declared.Run.{Run}
use Rattle.state.specs.declared.Side.{Side}
use Rattle.state.specs.State.{under_way}
use Rattle.side.specs.Side.{handed_no, begin_no}

-- ---- begin

pub record BeginReady (k : ℕ) (r : Run) (inputs book work : List ℕ) : Type 0 where
  pub ready : Ready r.settings
  pub inputs_long : length inputs ≡ r.settings.shape.n * width_of k
  pub book_long : length book ≡ shared (params_in r.settings) * width_of k
  pub work_long : length work ≡ work_length k

pub begin-ready : (k : ℕ) (s : Side) (r : Run) (inputs book work : List ℕ)
    → begin_no k s r inputs book work ≡ 0 → BeginReady k r inputs book work
unfolding begin_no handed_no
begin-ready k s r inputs book work e =
    let n = r.settings.shape.n in
    let p = params_in r.settings in
    let handed : ℕ = handed_no k s r inputs book work in
    let due = passed (not (under_way s)) 7 (ask_settings r.number r.settings handed) e in
    let four = passed (keys_ok r.keys) 3 _ (settings_rest r.number r.settings handed due.1) in
    let five = passed (eqb (length inputs) (n * width_of k) && eqb (length book) (shared p * width_of k) && eqb (length work) (work_length k)) 4 _ four.1 in
    let long = both_yes (eqb (length inputs) (n * width_of k) && eqb (length book) (shared p * width_of k)) (eqb (length work) (work_length k)) five.0 in
    let two = both_yes (eqb (length inputs) (n * width_of k)) (eqb (length book) (shared p * width_of k)) long.0 in
    record {
      ready = (settings-ready r.number r.settings handed due.1).1;
      inputs_long = eqb-true _ _ two.0;
      book_long = eqb-true _ _ two.1;
      work_long = eqb-true _ _ long.1;
    }
