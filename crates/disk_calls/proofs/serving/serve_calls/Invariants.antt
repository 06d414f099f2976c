use Rattle.disk_calls.proofs.ServeLaws.{SoFar}
use Rattle.disk_calls.proofs.serving.serve_calls.Given as goal

abbrev pub invariant-loop-call : goal.invariant-loop-call
invariant-loop-call g l = SoFar l.read_only l.fn.disk (g.H.Host.talk l.fn.host) (g.H.Host.talk l.host) l.told l.disk l._call
