use Rattle.nbd_session.proofs.GroupLaws.{named_more}
use Rattle.nbd_session.proofs.group.name_span.Goals as goal

pub loop-i-preserved : goal.loop-i-preserved
loop-i-preserved c = named_more c.args.entries.now.items c.loop-i.entries.items _ c.args.span.first c.loop-i.i c.args.span.trim c.loop-i.invariant c.in_ok-push.ensures.items
