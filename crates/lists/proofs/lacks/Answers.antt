-- `lists::lacks` meets its contract.
use Rattle.std.proofs.Common.{arith, ◌≡◌, ◌∙◌, refl, ap, Bool, false, not, ◌||◌, ℕ, eqb}
use Rattle.std.specs.List.{fold}
use Rattle.std.proofs.lemmas.Grind.{common_steps}
use Rattle.lists.proofs.Every.{none_found}
use Rattle.lists.proofs.lacks.Goals as goal

pub returns : goal.returns
returns c =
    let b : ℕ = c.args.byte in
    let e : c.fold.result ≡ fold (λ (found : Bool) (x : ℕ). found || eqb x b) false c.args.block.now = grind (arith, common_steps) in
    ap not e ∙ none_found (λ (x : ℕ). not (eqb x b)) (λ (x : ℕ). eqb x b) (λ x. refl) false c.args.block.now
