use Rattle.std.specs.Prelude.{nat_lt}
use Rattle.nbd_session.proofs.FailingLaws.{calls_stay-failing, read_failing}
use Rattle.nbd_session.proofs.failing.FailingStoreStore.read.Goals as goal

pub returns-clause-shows : goal.returns-clause-shows
returns-clause-shows g c = λ clean.
    rw (← c.fails_at.ensures.same, ← c.self.view_is)
    (read_failing (nat_lt 0 c.self.inside.odds) (g.S.Store.view c.self.inside.store) c.args.first c.args.blocks c.read.new.into.items c.read.result (g.S.Store.view c.read.new.self) (c.read.ensures.shows clean))

pub returns-clause-stays : goal.returns-clause-stays
returns-clause-stays g c = rw (← c.fails_at.ensures.same, ← c.self.view_is) (calls_stay-failing (nat_lt 0 c.self.inside.odds) (g.S.Store.view c.self.inside.store) (g.S.Store.view c.read.new.self) c.read.ensures.stays)
