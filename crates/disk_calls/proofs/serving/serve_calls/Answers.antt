use Rattle.disk_calls.proofs.ServeLaws.{so-far-more}
use Rattle.disk_calls.proofs.serving.serve_calls.Goals as goal

pub loop-call-preserved : goal.loop-call-preserved
loop-call-preserved g c = so-far-more c.args.read_only c.args.disk c.loop-call.disk c.obey-told.new.disk (g.H.Host.talk c.args.host.now) (g.H.Host.talk c.loop-call.host) (g.H.Host.talk c.next.new.self) (g.H.Host.talk c.obey-told.new.host) c.loop-call.told c.obey-told.result c.in-Some.asked c.loop-call._call
    c.loop-call.invariant (rw c.in-Some.is at c.next.ensures) c.obey-told.ensures.talk c.obey-told.ensures.obeys c.obey-told.ensures.shape
