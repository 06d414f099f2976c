use Rattle.std.proofs.Common.{refl}
use Rattle.nbd_session.specs.Pending.{AreApart}
use Rattle.volatile_cache.proofs.ApplyLaws.{forced_after, sync_failed}
use Rattle.volatile_cache.proofs.StayLaws.{stays_are_of}
use Rattle.nbd_session.proofs.AnywayLaws.{sync_after, unsynced}
use Rattle.volatile_cache.proofs.cache.VolatileCache.force_blocks.Goals as goal

pub returns-in-Err-clause-forces : goal.returns-in-Err-clause-forces
returns-in-Err-clause-forces g c = λ clean.
    sync_failed g.S.Store.view (AreApart c.args.first c.args.blocks) c.args.self.now c.apply_within.new.self c.in-Err.fault c.in_default.ensures (rw c.in-Err.is at (c.apply_within.ensures.applies clean))

pub invariant_of-self : goal.invariant_of-self
invariant_of-self g c = (
  stays_are_of (g.S.Store.view c.self.inside.store) (g.S.Store.view c.force.new.self) c.self.inside.queue c.force.ensures.stays.stays c.self.invariant.0,
  c.self.invariant.1,
)

pub returns-clause-forces : goal.returns-clause-forces
returns-clause-forces g c = λ clean.
    let was = c.force.ensures.stays.stays.disk.shape.trusted clean in
    forced_after g.S.Store.view c.args.self.now (record { store = c.self.inside.store; kept = c.self.inside.queue; most = c.self.inside.most }) (record { store = c.force.new.self; kept = c.self.inside.queue; most = c.self.inside.most })
    c.args.first c.args.blocks c.force.result c.in_default.ensures ((rw (← c.self.view_is) at (rw c.in_default-apply_within.is at c.apply_within.ensures.applies)) was) refl
    (rw (← c.self.view_is) at (rw c.in_default-apply_within.is at c.apply_within.ensures.apart)) (c.force.ensures.forces clean)

pub returns-clause-others : goal.returns-clause-others
returns-clause-others g c = rw (← c.self.view_is) at c.apply_within.ensures.others

pub returns-in-Err-clause-stays : goal.returns-in-Err-clause-stays
returns-in-Err-clause-stays g c = unsynced (g.S.Store.view c.args.self.now.store) (g.S.Store.view c.apply_within.new.self.store) c.in-Err.fault c.apply_within.ensures.stays

pub returns-clause-stays : goal.returns-clause-stays
returns-clause-stays g c =
    sync_after (g.S.Store.view c.args.self.now.store) (g.S.Store.view c.self.inside.store) (g.S.Store.view c.force.new.self) c.force.result (rw (← c.self.view_is) at c.apply_within.ensures.stays) c.force.ensures.stays
