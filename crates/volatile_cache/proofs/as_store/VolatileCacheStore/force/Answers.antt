use Rattle.volatile_cache.specs.Queue.{all_pending}
use Rattle.volatile_cache.proofs.StayLaws.{syncs_cached}
use Rattle.volatile_cache.proofs.as_store.VolatileCacheStore.force.Goals as goal

pub returns-clause-stays : goal.returns-clause-stays
returns-clause-stays g c =
    let old = c.args.self.now in
    let new = c.force_blocks.new.self in
    syncs_cached (g.S.Store.view old.store) (g.S.Store.view new.store) (all_pending old.kept) (all_pending new.kept) c.force_blocks.result c.force_blocks.ensures.stays
