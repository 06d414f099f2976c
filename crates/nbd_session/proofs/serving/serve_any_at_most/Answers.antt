use Rattle.std.proofs.Common.{Ok, Err, arith}
use Rattle.nbd_session.specs.Session.{session}
use Rattle.nbd_session.specs.Streams.{streams}
use Rattle.nbd_session.specs.declared.ending.SessionEnd.TheVariants.{LimitReached}
use Rattle.nbd_session.specs.declared.fault.SessionFault.TheVariants.{TooMany}
use Rattle.nbd_session.specs.declared.phase.Phase.TheVariants.{Greeting}
use Rattle.nbd_session.proofs.RunLaws.{ends_in, runs_kept, runs_to_limit, served_more, served_none, session-stops, stops_at, stops_full}
use Rattle.nbd_session.proofs.AnywayLaws.{session-stays}
use Rattle.nbd_session.proofs.StoreLaws.{any_keeps}
use Rattle.nbd_session.proofs.serving.serve_any_at_most.Goals as goal

pub loop-turn-init : goal.loop-turn-init
loop-turn-init g c = served_none c.args.most (g.R.Read.remaining c.args.reader.now) (g.W.Write.contents c.args.writer.now) (session Greeting (g.S.Store.view c.args.store.now))

pub loop-turn-preserved : goal.loop-turn-preserved
loop-turn-preserved g c =
    let at = c.loop-turn in
    let view = g.S.Store.view in
    served_more c.args.most _ (g.R.Read.remaining at.reader) _ _ (g.W.Write.contents at.writer) _ _ (session at.phase (view at.store)) (session c.in-Some-2.next (view c.take_turn.new.store)) at._turn at.requests c.in-Some.counted
    at.invariant (rw c.is_unlimited-together.ensures at (rw c.in-Some-2.is at c.in_ok-next.ensures)) c.in-Some.ensures.some.0 c.in-Some.ensures.some.1

-- no more requests may be read
pub returns-in_default-clause-serves : goal.returns-in_default-clause-serves
returns-in_default-clause-serves g c =
    let at = c.loop-turn in
    let none = c.in_default.ensures.none in
    runs_to_limit c.args.most _ _ at.phase (g.S.Store.view at.store) at._turn at.requests at.invariant none.0 none.1

pub returns-in_default-clause-keeps : goal.returns-in_default-clause-keeps
returns-in_default-clause-keeps g c = any_keeps c.args.most (streams _ _ _ _) (session Greeting (g.S.Store.view c.args.store.now)) (Ok LimitReached) (g.S.Store.view c.loop-turn.store) (returns-in_default-clause-serves g c)

pub returns-in_default-clause-stays : goal.returns-in_default-clause-stays
returns-in_default-clause-stays g c = session-stays c.args.most (streams _ _ _ _) (session Greeting (g.S.Store.view c.args.store.now)) (Ok LimitReached) (g.S.Store.view c.loop-turn.store) (returns-in_default-clause-serves g c)

-- a message is not answered
pub returns-in_err-next-clause-serves : goal.returns-in_err-next-clause-serves
returns-in_err-next-clause-serves g c =
    let at = c.loop-turn in
    let view = g.S.Store.view in
    session-stops c.args.most (streams (g.R.Read.remaining c.args.reader.now) (g.R.Read.remaining c.take_turn.new.reader) (g.W.Write.contents c.args.writer.now) (g.W.Write.contents c.take_turn.new.writer)) (session Greeting (view c.args.store.now))
    c.from_residual.result c.in_err-next.field-0.0 (view c.take_turn.new.store) c.from_residual.ensures.1
    (stops_at c.args.most _ (g.R.Read.remaining at.reader) _ _ (g.W.Write.contents at.writer) _ _ (session at.phase (view at.store)) at._turn at.requests c.in-Some.counted c.in_err-next.field-0.0 (view c.take_turn.new.store)
    at.invariant c.in-Some.ensures.some.0 c.in-Some.ensures.some.1 (rw c.is_unlimited-together.ensures at c.in_err-next.ensures))

pub returns-in_err-next-clause-keeps : goal.returns-in_err-next-clause-keeps
returns-in_err-next-clause-keeps g c = any_keeps c.args.most _ _ c.from_residual.result _ (returns-in_err-next-clause-serves g c)

pub returns-in_err-next-clause-stays : goal.returns-in_err-next-clause-stays
returns-in_err-next-clause-stays g c = session-stays c.args.most _ _ c.from_residual.result _ (returns-in_err-next-clause-serves g c)

-- no message follows
pub returns-in-None-clause-serves : goal.returns-in-None-clause-serves
returns-in-None-clause-serves g c =
    let at = c.loop-turn in
    let view = g.S.Store.view in
    let over = rw c.in-None.is at c.in_ok-next.ensures in
    rw (c.in_phase.ensures, over.0.new_is)
    (ends_in c.args.most _ _ at.phase (view at.store)
    (runs_kept c.args.most _ (g.R.Read.remaining at.reader) (g.R.Read.remaining c.take_turn.new.reader) _ (g.W.Write.contents at.writer) (g.W.Write.contents c.take_turn.new.writer) _ (session at.phase (view at.store)) at._turn at.requests c.in-Some.counted
    at.invariant over.0.read over.0.written c.in-Some.ensures.some.0 c.in-Some.ensures.some.1) over.1)

pub returns-in-None-clause-keeps : goal.returns-in-None-clause-keeps
returns-in-None-clause-keeps g c = any_keeps c.args.most (streams _ _ _ _) (session Greeting (g.S.Store.view c.args.store.now)) (Ok c.in_phase.result) (g.S.Store.view c.take_turn.new.store) (returns-in-None-clause-serves g c)

pub returns-in-None-clause-stays : goal.returns-in-None-clause-stays
returns-in-None-clause-stays g c = session-stays c.args.most (streams _ _ _ _) (session Greeting (g.S.Store.view c.args.store.now)) (Ok c.in_phase.result) (g.S.Store.view c.take_turn.new.store) (returns-in-None-clause-serves g c)

-- as many messages were answered as are counted
pub returns-clause-serves : goal.returns-clause-serves
returns-clause-serves g c =
    let at = c.loop-turn in
    stops_full c.args.most _ _ _ _ _ (session at.phase (g.S.Store.view at.store)) at._turn at.requests at.invariant (omega (arith, c.loop-turn-test.false, at.auto._turn-end))

pub returns-clause-keeps : goal.returns-clause-keeps
returns-clause-keeps g c = any_keeps c.args.most (streams _ _ _ _) (session Greeting (g.S.Store.view c.args.store.now)) (Err TooMany) (g.S.Store.view c.loop-turn.store) (returns-clause-serves g c)

pub returns-clause-stays : goal.returns-clause-stays
returns-clause-stays g c = session-stays c.args.most (streams _ _ _ _) (session Greeting (g.S.Store.view c.args.store.now)) (Err TooMany) (g.S.Store.view c.loop-turn.store) (returns-clause-serves g c)
