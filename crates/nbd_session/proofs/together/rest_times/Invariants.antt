use Rattle.nbd_session.specs.Manners.{RestsTimes, while_clean}
use Rattle.nbd_session.proofs.together.rest_times.Given as goal

abbrev pub invariant-loop-time : goal.invariant-loop-time
invariant-loop-time g l = RestsTimes while_clean l._time (g.S.Store.view l.fn.store) (g.S.Store.view l.store)
