use Rattle.volatile_cache.proofs.StayLaws.{rests_cached}
use Rattle.volatile_cache.specs.Queue.{all_pending}
use Rattle.volatile_cache.proofs.as_store.VolatileCacheStore.rest.Goals as goal

pub returns : goal.returns
returns g c = rw (← c.self.view_is) (rests_cached (g.S.Store.view c.self.inside.store) (g.S.Store.view c.rest.new.self) (all_pending c.self.inside.queue) c.rest.ensures)
