use Rattle.nbd_session.specs.Session.{session}
use Rattle.nbd_session.specs.Streams.{streams}
use Rattle.nbd_session.specs.declared.phase.Phase.TheVariants.{Greeting}
use Rattle.nbd_session.proofs.WhileLaws.{at_most-while}
use Rattle.nbd_session.proofs.serving.serve_at_most.Goals as goal

pub returns-clause-serves : goal.returns-clause-serves
returns-clause-serves g c =
    let bytes = streams (g.R.Read.remaining c.args.reader.now) (g.R.Read.remaining c.serve_any_at_most-result.new.reader) (g.W.Write.contents c.args.writer.now) (g.W.Write.contents c.serve_any_at_most-result.new.writer) in
    at_most-while c.args.most bytes (session Greeting (g.S.Store.view c.args.store.now)) c.serve_any_at_most-result.result (g.S.Store.view c.serve_any_at_most-result.new.store) c.serve_any_at_most-result.ensures.serves c.vouch.ensures

pub returns-clause-keeps : goal.returns-clause-keeps
returns-clause-keeps g c = c.serve_any_at_most-result.ensures.keeps c.vouch.ensures
