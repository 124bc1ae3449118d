-- `side::take` meets its contract. Assumes nothing.
use Rattle.side.proofs.Taking.{take-ready, take-refused, take-stopped, take_done, front_same, work-same}
use Rattle.side.specs.Work.{take_door}
use Rattle.side.specs.Side.{after, taken_side}
use Rattle.opening.proofs.Taking.{holds-all, read_fields, shares_join, opened-below, checks-same}
use Rattle.column.proofs.Contexts.{settled}
use Rattle.state.specs.declared.Side.{Side}
use Rattle.settings.specs.Settings.{params_in}
use Rattle.settings.proofs.Sizes.{openings-most}
use Rattle.settings.specs.Sizes.{key_count, most_openings}
use Rattle.lists.proofs.Lists.{get_d_zeros}
use mathlib.Core.Path.{◌≡◌, refl, sym, ap, ap₂, ◌∙◌}
use borrow.Author.Rules.{rules}
use Rattle.std.proofs.lemmas.Result.{err_from_is_err_and}
use Rattle.settings.specs.Refusals.{number_of}
use Rattle.settings.proofs.Refused.{number_nonzero}
use Rattle.side.proofs.take.Goals as goal

pub returns-in_err-ask_take : goal.returns-in_err-ask_take
returns-in_err-ask_take c =
    let a = c.args in
    let p = err_from_is_err_and c.from_residual.result c.from_residual.ensures.1 in
    let no = c.in_err-ask_take.field-0.0 in
    rw (p.1, p.2) (take-refused key_count a.side.now a.work.now a.message.now (number_of no) c.in_err-ask_take.ensures.0 (number_nonzero no))

pub context_in-known-requires : goal.context_in-known-requires
context_in-known-requires c = let a = c.args in
    let passed : take_door key_count a.side.now a.work.now a.message.now ≡ 0 = sym c.in_ok-ask_take.ensures.0 in
    let ready = take-ready key_count a.side.now a.work.now a.message.now passed in
    record { whole = ready.fields; work_len = ready.work_long }

pub prepare_columns-requires : goal.prepare_columns-requires
prepare_columns-requires c =
    let context-in = c.context_in-known in
    let a = c.args in
    let passed : take_door key_count a.side.now a.work.now a.message.now ≡ 0 = sym c.in_ok-ask_take.ensures.0 in
    let ready = take-ready key_count a.side.now a.work.now a.message.now passed in
    record {
      whole = ready.fields;
      context_of = context-in.ensures;
      work_len = (ready.work_long, ready.work-below, search rules);
    }

pub join_shares-requires : goal.join_shares-requires
join_shares-requires c =
    let a = c.args in
    let passed : take_door key_count a.side.now a.work.now a.message.now ≡ 0 = sym c.in_ok-ask_take.ensures.0 in
    let ready = take-ready key_count a.side.now a.work.now a.message.now passed in
    record { n_bound = (ready.fields.ready.shape.most, search rules); own_len = search rules }

pub checks_pass-requires : goal.checks_pass-requires
checks_pass-requires c =
    let a = c.args in
    let passed : take_door key_count a.side.now a.work.now a.message.now ≡ 0 = sym c.in_ok-ask_take.ensures.0 in
    let ready = take-ready key_count a.side.now a.work.now a.message.now passed in
    record { number_bound = (ready.fields.side2, ready.fields.ready.shape.most, search rules); own_len = search rules }

pub returns-then-not-checks_pass : goal.returns-then-not-checks_pass
returns-then-not-checks_pass c =
    let prepare-columns = c.prepare_columns in
    let join-shares = c.join_shares in
    let checks-pass = c.checks_pass in
    let a = c.args in
    let passed : take_door key_count a.side.now a.work.now a.message.now ≡ 0 = sym c.in_ok-ask_take.ensures.0 in
    let ready = take-ready key_count a.side.now a.work.now a.message.now passed in
    let reads = read_fields a.side.now a.message.now _ _ ready.fields.ready.shape.most refl ready.message_long c.in_ok-ask_take.ensures.1 in
    let joins = shares_join a.side.now a.work.now _ a.message.now _ _ _ ready.fields prepare-columns.ensures reads refl (get_d_zeros most_openings) join-shares.ensures in
    ap (λ (s : Side). after 13 s a.work.now) c.in_phase.ensures
    ∙ take-stopped key_count a.side.now a.work.now a.message.now passed
    (sym (checks-same joins) ∙ sym checks-pass.ensures ∙ c.if-not-checks_pass.true)

pub take_work-requires : goal.take_work-requires
take_work-requires c =
    let prepare-columns = c.prepare_columns in
    let join-shares = c.join_shares in
    let context-in = c.context_in-known in
    let weights-of = c.weights_of-weights in
    let a = c.args in
    let passed : take_door key_count a.side.now a.work.now a.message.now ≡ 0 = sym c.in_ok-ask_take.ensures.0 in
    let ready = take-ready key_count a.side.now a.work.now a.message.now passed in
    let reads = read_fields a.side.now a.message.now _ _ ready.fields.ready.shape.most refl ready.message_long c.in_ok-ask_take.ensures.1 in
    let joins = shares_join a.side.now a.work.now _ a.message.now _ _ _ ready.fields prepare-columns.ensures reads refl (get_d_zeros most_openings) join-shares.ensures in
    let made = context-in.ensures in
    let few = openings-most (params_in a.side.now.settings) a.side.now.round ready.fields.ready.shape.most in
    let held = holds-all a.side.now a.work.now prepare-columns.new.own weights-of.result weights-of.ensures (search rules) prepare-columns.ensures in
    record {
      ready = rw made.settings_kept ready.fields.ready;
      le_round = (rw made.round_kept ready.fields.round_some, search rules, search rules, search rules, ready.work-below);
      weights_in_bounds = (search rules, rw (made.settings_kept, made.round_kept) (search rules), opened-below joins);
      context_of = settled made;
      held_all = rw (made.settings_kept, made.round_kept) held;
    }

pub taken_side-requires : goal.taken_side-requires
taken_side-requires c =
    let a = c.args in
    let passed : take_door key_count a.side.now a.work.now a.message.now ≡ 0 = sym c.in_ok-ask_take.ensures.0 in
    let ready = take-ready key_count a.side.now a.work.now a.message.now passed in
    record {
      whole = ready.fields;
      opened_len = search rules;
    }

pub returns : goal.returns
returns c =
    let prepare-columns = c.prepare_columns in
    let join-shares = c.join_shares in
    let context-in = c.context_in-known in
    let weights-of = c.weights_of-weights in
    let take-work = c.take_work in
    let checks-pass = c.checks_pass in
    let if2 = c.if-not-checks_pass in
    let a = c.args in
    let passed : take_door key_count a.side.now a.work.now a.message.now ≡ 0 = sym c.in_ok-ask_take.ensures.0 in
    let ready = take-ready key_count a.side.now a.work.now a.message.now passed in
    let reads = read_fields a.side.now a.message.now _ _ ready.fields.ready.shape.most refl ready.message_long c.in_ok-ask_take.ensures.1 in
    let joins = shares_join a.side.now a.work.now _ a.message.now _ _ _ ready.fields prepare-columns.ensures reads refl (get_d_zeros most_openings) join-shares.ensures in
    let made = context-in.ensures in
    ap₂ (after 0) (c.taken_side.ensures ∙ ap (taken_side a.side.now) (front_same joins))
    (work-same joins weights-of.result _ weights-of.ensures (rw (made.settings_kept, made.round_kept) at take-work.ensures))
    ∙ take_done key_count a.side.now a.work.now a.message.now passed
    (sym (checks-same joins) ∙ sym checks-pass.ensures ∙ if2.false)
