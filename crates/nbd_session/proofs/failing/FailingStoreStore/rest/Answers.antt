use Rattle.std.specs.Prelude.{nat_lt}
use Rattle.nbd_session.proofs.FailingLaws.{rests_anyway-failing}
use Rattle.nbd_session.proofs.failing.FailingStoreStore.rest.Goals as goal

pub returns : goal.returns
returns g c =
    rw (← c.self.view_is) (rests_anyway-failing (nat_lt 0 c.self.inside.odds) (g.S.Store.view c.self.inside.store) (g.S.Store.view c.rest.new.self) c.rest.ensures)
