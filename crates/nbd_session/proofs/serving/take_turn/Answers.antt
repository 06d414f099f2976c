use Rattle.std.proofs.Common.{refl}
use Rattle.nbd_session.proofs.GroupLaws.{gathered_distinct, gathered_few, gathered_whole}
use Rattle.nbd_session.proofs.TogetherLaws.{group_answered, group_stopped, turn_alone}
use Rattle.nbd_session.proofs.serving.take_turn.Goals as goal

pub answer_group-requires-clause-distinct : goal.answer_group-requires-clause-distinct
answer_group-requires-clause-distinct g c =
    let t = c.if-take_group.ensures.taken refl in
    gathered_distinct (g.S.Store.view c.args.store.now) t.bytes c.take_group.new.group t.gathered

pub answer_group-requires-clause-whole : goal.answer_group-requires-clause-whole
answer_group-requires-clause-whole g c =
    let t = c.if-take_group.ensures.taken refl in
    gathered_whole (g.S.Store.view c.args.store.now) t.bytes c.take_group.new.group t.gathered

pub answer_group-requires-clause-few : goal.answer_group-requires-clause-few
answer_group-requires-clause-few g c =
    let t = c.if-take_group.ensures.taken refl in
    gathered_few (g.S.Store.view c.args.store.now) t.bytes c.take_group.new.group t.gathered

pub returns-in_err-answer_group : goal.returns-in_err-answer_group
returns-in_err-answer_group g c =
    let may = c.may_gather-may.ensures (c.if-take_group.ensures.may refl) in
    group_stopped c.args.together c.args.phase _ _ _ _ (g.S.Store.view c.args.store.now) _ c.take_group.new.group c.from_residual.result c.in_err-answer_group.field-0.0 c.from_residual.ensures.1
    may.0 may.1 (c.if-take_group.ensures.taken refl) c.in_err-answer_group.ensures

pub returns-then-take_group : goal.returns-then-take_group
returns-then-take_group g c =
    let may = c.may_gather-may.ensures (c.if-take_group.ensures.may refl) in
    group_answered c.args.together c.args.phase _ _ _ _ (g.S.Store.view c.args.store.now) _ c.take_group.new.group
    may.0 may.1 (c.if-take_group.ensures.taken refl) c.in_ok-answer_group.ensures

pub returns : goal.returns
returns g c = turn_alone c.args.together _ (g.R.Read.remaining c.take_group.new.reader) _ _ _ _ c.take_message.result _ (c.if-take_group.ensures.none refl) c.take_message.ensures
