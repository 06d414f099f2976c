use Rattle.volatile_cache.specs.Queue.{all_pending}
use Rattle.volatile_cache.proofs.StayLaws.{calls_cached}
use Rattle.volatile_cache.proofs.as_store.VolatileCacheStore.trim.Goals as goal

pub returns-clause-stays : goal.returns-clause-stays
returns-clause-stays g c =
    let old = c.args.self.now in
    let new = c.put_zeros.new.self in
    calls_cached (g.S.Store.view old.store) (g.S.Store.view new.store) (all_pending old.kept) (all_pending new.kept) c.put_zeros.ensures.stays
