use Rattle.std.specs.Prelude.{nat_lt}
use Rattle.nbd_session.specs.Pending.{AreApart}
use Rattle.nbd_session.proofs.FailingLaws.{syncs_failing, syncs_stay-failing}
use Rattle.nbd_session.proofs.failing.FailingStoreStore.force.Goals as goal

pub returns-clause-forces : goal.returns-clause-forces
returns-clause-forces g c = λ clean.
    rw (← c.fails_to_sync.ensures.same, ← c.self.view_is)
    (syncs_failing (nat_lt 0 c.self.inside.odds) (AreApart c.args.first c.args.blocks) (g.S.Store.view c.self.inside.store) c.force.result (g.S.Store.view c.force.new.self) (c.force.ensures.forces clean))

pub returns-clause-stays : goal.returns-clause-stays
returns-clause-stays g c = rw (← c.fails_to_sync.ensures.same, ← c.self.view_is) (syncs_stay-failing (nat_lt 0 c.self.inside.odds) (g.S.Store.view c.self.inside.store) c.force.result (g.S.Store.view c.force.new.self) c.force.ensures.stays)
