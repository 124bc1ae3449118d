-- `dealer::ask_deal` meets its contract: one question after the other.
use Rattle.std.proofs.Common.{sym}
use Rattle.std.proofs.lemmas.Result.{err_from_is_err_and}
use Rattle.lists.proofs.Questions.{walk}
use Rattle.settings.proofs.Ready.{shape-ready, shape_yes, shape_refused}
use Rattle.dealer.specs.Deal.{deal_no}
use Rattle.dealer.proofs.ask_deal.Goals as goal
use Rattle.dealer.proofs.ask_deal.Goals.{then-not-keys_ok-via-then-not-keys_ok, then-not-keys_ok-via-else-not-keys_ok+then-not-keys_ok-2}

pub returns-in_err-ask_shape : goal.returns-in_err-ask_shape
unfolding deal_no
returns-in_err-ask_shape c =
    let p = err_from_is_err_and c.from_residual.result c.from_residual.ensures.1 in
    rw (p.1, p.2) (search (walk, shape_refused, c.in_err-ask_shape.ensures))

pub lengths_ok-requires : goal.lengths_ok-requires
lengths_ok-requires c = let ready = shape-ready c.args.shape 0 (sym c.in_ok-ask_shape.ensures) in (ready.sets, ready.most)

pub returns-then-not-lengths_ok : goal.returns-then-not-lengths_ok
unfolding deal_no
returns-then-not-lengths_ok c = search (walk, shape_yes, c.in_ok-ask_shape.ensures) depth 20

pub returns-then-not-all_below_q : goal.returns-then-not-all_below_q
unfolding deal_no
returns-then-not-all_below_q c = search (walk, shape_yes, c.in_ok-ask_shape.ensures) depth 20

pub returns : goal.returns
unfolding deal_no
returns c = search (walk, shape_yes, c.in_ok-ask_shape.ensures) depth 20

pub returns-then-not-keys_ok : goal.returns-then-not-keys_ok
unfolding deal_no
returns-then-not-keys_ok c =
    elim c.then-not-keys_ok.branch [
      | then-not-keys_ok-via-then-not-keys_ok w ↦ search (walk, shape_yes, c.in_ok-ask_shape.ensures) depth 20
      | then-not-keys_ok-via-else-not-keys_ok+then-not-keys_ok-2 w ↦ search (walk, shape_yes, c.in_ok-ask_shape.ensures) depth 20
    ]
