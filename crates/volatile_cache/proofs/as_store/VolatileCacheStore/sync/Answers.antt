use Rattle.std.proofs.Common.{List, [], ◌≡◌}
use Rattle.nbd_session.specs.Pending.{Pending}
use Rattle.volatile_cache.proofs.ApplyLaws.{sync_failed, synced_after}
use Rattle.nbd_session.proofs.AnywayLaws.{sync_after, unsynced}
use Rattle.volatile_cache.specs.Cache.{view_of}
use Rattle.volatile_cache.specs.Queue.{all_pending}
use Rattle.volatile_cache.proofs.StayLaws.{calls_cached, stays_are_of, syncs_cached}
use Rattle.volatile_cache.proofs.as_store.VolatileCacheStore.sync.Goals as goal

pub returns-in-Err-clause-syncs : goal.returns-in-Err-clause-syncs
returns-in-Err-clause-syncs g c = λ clean.
    sync_failed g.S.Store.view (λ (pending : List Pending). pending ≡ []) c.args.self.now c.apply_all.new.self c.in-Err.fault c.in_default.ensures (rw c.in-Err.is at (c.apply_all.ensures.applies clean))

pub returns-clause-syncs : goal.returns-clause-syncs
returns-clause-syncs g c = λ clean.
    let was = c.sync.ensures.stays.stays.disk.shape.trusted clean in
    let none = rw (← c.self.view_is) at (rw c.in_default-apply_all.is at c.apply_all.ensures.none) in
    synced_after g.S.Store.view c.args.self.now (record { store = c.self.inside.store; kept = c.self.inside.queue; most = c.self.inside.most }) (record { store = c.sync.new.self; kept = c.self.inside.queue; most = c.self.inside.most })
    c.sync.result c.in_default.ensures ((rw (← c.self.view_is) at (rw c.in_default-apply_all.is at c.apply_all.ensures.applies)) was) none none (c.sync.ensures.syncs clean)

-- ---- whatever the Reads returned

pub invariant_of-self : goal.invariant_of-self
invariant_of-self g c = (stays_are_of (g.S.Store.view c.self.inside.store) (g.S.Store.view c.sync.new.self) c.self.inside.queue c.sync.ensures.stays.stays c.self.invariant.0, c.self.invariant.1)

pub returns-in-Err-clause-stays : goal.returns-in-Err-clause-stays
returns-in-Err-clause-stays g c =
    let old = c.args.self.now in
    let new = c.apply_all.new.self in
    unsynced (view_of g.S.Store.view old) (view_of g.S.Store.view new) c.in-Err.fault (calls_cached (g.S.Store.view old.store) (g.S.Store.view new.store) (all_pending old.kept) (all_pending new.kept) c.apply_all.ensures.stays)

pub returns-clause-stays : goal.returns-clause-stays
returns-clause-stays g c =
    let below = g.S.Store.view c.sync.new.self in
    syncs_cached (g.S.Store.view c.args.self.now.store) below (all_pending c.args.self.now.kept) (all_pending c.self.inside.queue) c.sync.result
    (sync_after (g.S.Store.view c.args.self.now.store) (g.S.Store.view c.self.inside.store) below c.sync.result (rw (← c.self.view_is) at c.apply_all.ensures.stays) c.sync.ensures.stays)
