-- `lists::length_before` meets its contract.
use Rattle.std.proofs.Common.{rules, arith, ◌≡◌, ◌∙◌, ap, ℕ, eqb, length, Option}
use Rattle.std.specs.Option.{unwrap_or}
use Rattle.std.specs.List.{position}
use Rattle.std.proofs.lemmas.Iterator.{YieldsList-from_slice}
use Rattle.std.proofs.lemmas.Iterator.Search.{position_from_yields_List}
use borrow.Author.Tests.{tests}
use Rattle.lists.specs.Lists.{length_before}
use Rattle.lists.proofs.Bytes.{length_found, length_before_most}
use Rattle.lists.proofs.length_before.Goals as goal

pub returns : goal.returns
returns c =
    let bytes = c.args.bytes.now in
    let b : ℕ = c.args.byte in
    let e : c.position.result ≡ position (λ (x : ℕ). eqb x b) bytes =
    position_from_yields_List (λ (x : ℕ). eqb x b) _ _ c.position.result c.position.ensures.ran (YieldsList-from_slice bytes (cc)) (λ x t k q. search (rules, tests)) in
    let r : c.unwrap_or.result ≡ length_before b bytes = c.unwrap_or.ensures ∙ ap (λ (o : Option ℕ). unwrap_or o (length bytes)) e ∙ length_found b bytes in
    (r, omega (arith, r, length_before_most b bytes))
