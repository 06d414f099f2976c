use Rattle.volatile_cache.proofs.cache.VolatileCache.cut.Goals as goal

pub returns : goal.returns
returns g c = c.cut_any-result.ensures.cuts (rw (← c.self.view_is) c.vouch.ensures)
