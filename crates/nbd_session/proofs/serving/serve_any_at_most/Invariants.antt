use Rattle.nbd_session.specs.Session.{session}
use Rattle.nbd_session.specs.Streams.{streams}
use Rattle.nbd_session.specs.declared.phase.Phase.TheVariants.{Greeting}
use Rattle.nbd_session.proofs.RunLaws.{ServedCount}
use Rattle.nbd_session.proofs.serving.serve_any_at_most.Given as goal

abbrev pub invariant-loop-turn : goal.invariant-loop-turn
invariant-loop-turn g l =
    ServedCount l.fn.most (streams (g.R.Read.remaining l.fn.reader) (g.R.Read.remaining l.reader) (g.W.Write.contents l.fn.writer) (g.W.Write.contents l.writer))
    (session Greeting (g.S.Store.view l.fn.store)) (session l.phase (g.S.Store.view l.store)) l._turn l.requests
