-- `lists::all_below` meets its contract.
use Rattle.std.proofs.Common.{arith, ◌≡◌, ◌∙◌, ap, Bool, false, not, ◌||◌, ℕ, leb, ltb}
use Rattle.std.specs.List.{fold}
use Rattle.std.proofs.lemmas.Grind.{common_steps}
use Rattle.lists.specs.Lists.{all_below}
use Rattle.lists.proofs.Every.{none_found, not_leb}
use Rattle.lists.proofs.all_below.Goals as goal

pub returns : goal.returns
unfolding all_below
returns c =
    let m : ℕ = c.args.limit in
    let e : c.fold.result ≡ fold (λ (found : Bool) (x : ℕ). found || leb m x) false c.args.numbers.now = grind (arith, common_steps) in
    ap not e ∙ none_found (λ (x : ℕ). ltb x m) (leb m) (not_leb m) false c.args.numbers.now
