-- `state::in_range` meets its contract.
use borrow.Author.Rules.{rules}
use mathlib.Core.Path.{◌≡◌, ap, ap₂, ◌∙◌}
use Prim.Native.Nat.{ℕ}
use native.Mathlib.Omega.{arith}
use lib.ListN.{length, take}
use Rattle.lists.specs.Lists.{all_below}
use Rattle.lists.proofs.Lists.{front-taken}
use Rattle.state.specs.State.{places_of, in_range}
use Rattle.state.proofs.States.{places-most}
use Rattle.state.proofs.in_range.Goals as goal

pub returns : goal.returns
unfolding in_range
returns c =
    let side = c.args.side in
    let eight : length side.answer ≡ 8 = search rules in
    let front = front-taken (places_of side) side.answer (omega (arith, places-most side c.requires, eight)) in
    c.all_below.ensures ∙ ap₂ all_below c.answer_limit-limit.ensures (ap (λ (n : ℕ). take n side.answer) c.places_of-count.ensures ∙ front)
