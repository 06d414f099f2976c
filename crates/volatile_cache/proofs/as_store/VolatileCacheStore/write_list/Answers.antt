use Rattle.zone_translator.specs.Flat.{with_nothing}
use Rattle.volatile_cache.specs.Queue.{all_pending}
use Rattle.volatile_cache.proofs.EmptyListLaws.{list_passed}
use Rattle.volatile_cache.proofs.StayLaws.{calls_cached, stays_are_of}
use Rattle.volatile_cache.proofs.as_store.VolatileCacheStore.write_list.Goals as goal

pub invariant_of-self : goal.invariant_of-self
invariant_of-self g c = (
  stays_are_of (g.S.Store.view c.self.inside.store) (g.S.Store.view c.write_list.new.self) c.self.inside.queue c.write_list.ensures.stays.stays c.self.invariant.0,
  c.self.invariant.1,
)

pub returns-clause-writes : goal.returns-clause-writes
returns-clause-writes g c = λ clean.
    rw (← c.self.view_is)
    (list_passed (g.S.Store.view c.self.inside.store) (g.S.Store.view c.write_list.new.self) (all_pending c.self.inside.queue) c.args.entries.now c.args.bytes.now (with_nothing c.write_list.result) c.requires.few (c.write_list.ensures.writes clean))

pub returns-clause-stays : goal.returns-clause-stays
returns-clause-stays g c =
    rw (← c.self.view_is) (calls_cached (g.S.Store.view c.self.inside.store) (g.S.Store.view c.write_list.new.self) (all_pending c.self.inside.queue) (all_pending c.self.inside.queue) c.write_list.ensures.stays)
