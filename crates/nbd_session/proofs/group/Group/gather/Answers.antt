use Rattle.std.proofs.Common.{take, arith, rules}
use Rattle.nbd_session.proofs.GroupLaws.{gathered_next, gathered_none, rest_is}
use Rattle.nbd_session.proofs.group.Group.gather.Goals as goal

pub loop-request-init : goal.loop-request-init
loop-request-init g c = (omega arith, gathered_none (g.S.Store.view c.args.store.now) _ c.clear.ensures.items c.clear-2.ensures.items c.clear-3.ensures.items)

pub loop-request-preserved : goal.loop-request-preserved
loop-request-preserved g c =
    let at = c.loop-request in
    let got = c.in_ok-count.ensures (take at.at c.args.bytes.now) at.invariant.1 in
    gathered_next (g.S.Store.view c.args.store.now) c.args.bytes.now _ at.at c.in_ok-count.count c.take_next.new.self (rest_is at.at c.args.bytes.now) at.invariant.0 got.0 got.1

pub overflow_add-at : goal.overflow_add-at
overflow_add-at g c = let within = (loop-request-preserved g c).0 in search rules
