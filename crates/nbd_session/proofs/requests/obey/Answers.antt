use Rattle.nbd_session.proofs.DoneLaws.{read_done}
use Rattle.nbd_session.proofs.requests.obey.Goals as goal

pub returns-in-Read : goal.returns-in-Read
returns-in-Read g c =
    rw c.in-Read.is (read_done (g.R.Read.remaining c.args.reader.now) (g.S.Store.view c.args.store.now) c.in-Read.first c.in-Read.blocks c.args.count c.read.new.into.items c.read.result (g.S.Store.view c.read.new.self) (rw c.in-Read.is at c.requires) c.read.ensures.shows c.read.ensures.whole c.read.ensures.none c.read.ensures.stays)
