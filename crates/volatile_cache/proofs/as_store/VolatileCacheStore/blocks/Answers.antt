use Rattle.std.proofs.Common.{◌∙◌}
use Rattle.volatile_cache.proofs.ReadLaws.{cached_length}
use Rattle.volatile_cache.specs.Queue.{all_pending}
use Rattle.volatile_cache.proofs.as_store.VolatileCacheStore.blocks.Goals as goal

pub returns-clause-array : goal.returns-clause-array
returns-clause-array g c = rw (← c.self.view_is) (λ clean serves. cached_length (g.S.Store.view c.self.inside.store) (all_pending c.self.inside.queue) ∙ c.blocks-2.ensures.array clean serves)
